-- One place as a word.
use Rattle.std.proofs.Common.{◌≡◌, ℕ, ◌<◌, Bool, true, false, ◌&&◌, ◌||◌, eqb, ltb, [], ◌∷◌, refl, ap, ◌∙◌}
use Rattle.words.specs.Words.{bit}
use Rattle.words.proofs.Bits.{bit_none}
use Rattle.model.specs.Numbers.{member}
use Rattle.desk.proofs.States.{low_and}

pub one_place : (w p : ℕ) → p < 32 → ((k : ℕ) → bit w k ≡ (bit 0 k || (ltb p 32 && eqb k p))) → (i : ℕ) → bit w i ≡ member i (p ∷ [])
one_place w p low is i = is i ∙ (ap (λ (b : Bool). b || (ltb p 32 && eqb i p)) (bit_none i) ∙ (low_and p (eqb i p) low ∙ or_none (eqb i p)))
  where
    or_none : (b : Bool) → b ≡ (b || false)
    or_none true = refl
    or_none false = refl
