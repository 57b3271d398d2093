-- The bytes of a text in front of a byte.
-- Assumes nothing.
use Rattle.std.proofs.Common.{◌≡◌, ℕ, ◌+◌, ◌-◌, ◌≤◌, ◌==◌, List, [], ◌∷◌, length, take, drop, refl, ap, ◌∙◌, arith}
use Rattle.std.specs.List.{position_or_len}
use Rattle.std.proofs.lemmas.List.{drop-take}
use Rattle.std.proofs.lemmas.List.Recursion.{is_position_or_len}
use Rattle.std.proofs.lemmas.Bool.Decides.{nat_tests}
use Rattle.name.specs.Parts.{before}

module _ (b : ℕ) where
  pub before_within : (xs : List ℕ) → length (before b xs) ≤ length xs
  before_within [] = omega arith
  before_within (x ∷ xs) = let h = before_within xs in grind (arith, nat_tests)

  -- they end at the first such byte
  pub before_first : (xs : List ℕ) → length (before b xs) ≡ position_or_len (λ x. x == b) xs
  before_first = is_position_or_len (λ xs. length (before b xs)) (λ x. x == b) refl (λ x xs. grind (arith, nat_tests))

  pub before_is_front : (xs : List ℕ) → take (length (before b xs)) xs ≡ before b xs
  before_is_front [] = refl
  before_is_front (x ∷ xs) = let h = before_is_front xs in grind (arith, nat_tests)

  -- they stand between the offset `at` and their end
  pub before_between : (text : List ℕ) (at end : ℕ) → end ≡ at + length (before b (drop at text)) → drop at (take (end - 0) text) ≡ before b (drop at text)
  before_between text at end e =
      let n : end - 0 ≡ at + length (before b (drop at text)) = omega arith in
      ap (λ (k : ℕ). drop at (take k text)) n ∙ (drop-take at (length (before b (drop at text))) text ∙ before_is_front (drop at text))
