-- A rule of a table, proved at all of its entries by one test that antt computes, entry after entry.
-- Assumes nothing.
use Rattle.std.proofs.Common.{◌≡◌, ℕ, zero, suc, ◌+◌, ◌<◌, Bool, true, ◌&&◌, List, [], ◌∷◌, length, get_or, sym, ap, ◌∙◌, add-zero, add-suc, suc-add, zero-add, arith}
use Rattle.std.proofs.lemmas.Bool.{and_parts}

module _ {A : Type 0} (test : ℕ → A → Bool) where
  -- the test passes at each entry and its place, where the first entry's place is i
  abbrev pub passes_from : ℕ → List A → Bool
  passes_from i [] = true
  passes_from i (x ∷ xs) = test i x && passes_from (suc i) xs

  pub entry_from : (xs : List A) (d : A) (i : ℕ) → passes_from i xs ≡ true → (k : ℕ) → k < length xs → test (i + k) (get_or xs k d) ≡ true
  entry_from [] d i t k h = absurd (omega arith)
  entry_from (x ∷ xs) d i t zero h = ap (λ (m : ℕ). test m x) (add-zero i) ∙ (and_parts _ _ t).0
  entry_from (x ∷ xs) d i t (suc k) h =
      ap (λ (m : ℕ). test m (get_or xs k d)) (add-suc i k ∙ sym (suc-add i k))
      ∙ entry_from xs d (suc i) (and_parts _ _ t).1 k (omega arith)

  pub entry_passes : (xs : List A) (d : A) → passes_from 0 xs ≡ true → (k : ℕ) → k < length xs → test k (get_or xs k d) ≡ true
  entry_passes xs d t k h = ap (λ (m : ℕ). test m (get_or xs k d)) (sym (zero-add k)) ∙ entry_from xs d 0 t k h
