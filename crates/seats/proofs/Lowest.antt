-- The lowest place of a word is the number of its trailing zeros.
-- Assumes nothing.
use Rattle.std.proofs.Common.{◌≡◌, ℕ, zero, suc, ◌+◌, ◌/◌, ◌%◌, ◌^◌, ◌<◌, Bool, true, false, cond, eqb, sym, refl, ap, ◌∙◌, MatchOption, ⊎_elim, ltb, one-add, arith}
use lib.Count.{count_trailing_zeros, under}
use Rattle.std.proofs.lemmas.Nat.{shr-shr}
use Rattle.words.specs.Words.{bit}
use Rattle.std.specs.Bool.{then_some}
use Rattle.std.proofs.lemmas.Bool.{cases_eq, ltb-true, ltb-false}
use Rattle.model.specs.Numbers.{seek, lowest}
use Rattle.model.proofs.Tied.{lowest_hit}

-- the places of half a word stand one place lower
bit_half : (w j : ℕ) → bit w (suc j) ≡ bit (w / 2) j
bit_half w j = ap (λ (n : ℕ). eqb (n % 2) 1) (ap (λ (n : ℕ). w / 2 ^ n) (sym (one-add j)) ∙ sym (shr-shr w 1 j))

seek_half : (w k i : ℕ) → seek (bit w) k (suc i) ≡ suc (seek (bit (w / 2)) k i)
seek_half w zero i = refl
seek_half w (suc k) i = ap (λ (b : Bool). cond b (suc i) (seek (bit w) k (suc (suc i)))) (bit_half w i) ∙ go (bit (w / 2) i) (seek_half w k (suc i))
  where
    go : (b : Bool) → seek (bit w) k (suc (suc i)) ≡ suc (seek (bit (w / 2)) k (suc i)) → cond b (suc i) (seek (bit w) k (suc (suc i))) ≡ suc (cond b i (seek (bit (w / 2)) k (suc i)))
    go true e = refl
    go false e = e

trailing_seek : (k w : ℕ) → count_trailing_zeros k w ≡ seek (bit w) k 0
unfolding count_trailing_zeros
trailing_seek zero w = refl
trailing_seek (suc k) w = ap (under (w % 2)) (trailing_seek k (w / 2)) ∙ (go (w % 2) (omega arith) ∙ ap (λ (n : ℕ). cond (eqb n 1) 0 (seek (bit w) k 1)) (low w))
  where
    low : (w : ℕ) → w % 2 ≡ w / 2 ^ 0 % 2
    low w = omega arith

    go : (d : ℕ) → d < 2 → under d (seek (bit (w / 2)) k 0) ≡ cond (eqb d 1) 0 (seek (bit w) k 1)
    go zero h = sym (seek_half w k 0)
    go (suc zero) h = refl
    go (suc (suc d)) h = absurd (omega arith)

pub trailing_lowest : (w : ℕ) → count_trailing_zeros 32 w ≡ lowest (bit w)
unfolding lowest
trailing_lowest w = trailing_seek 32 w

-- what is sought below 32 is known by what is said of the places below 32
seek_like : (f g : ℕ → Bool) (k i : ℕ) → ((j : ℕ) → j < i + k → f j ≡ g j) → seek f k i ≡ seek g k i
seek_like f g zero i h = refl
seek_like f g (suc k) i h =
    ap (λ (b : Bool). cond b i (seek f k (suc i))) (h i (omega arith))
    ∙ ap (λ (n : ℕ). cond (g i) i n) (seek_like f g k (suc i) (λ j lt. h j (omega arith)))

pub lowest_like : (f g : ℕ → Bool) → ((i : ℕ) → i < 32 → f i ≡ g i) → lowest f ≡ lowest g
unfolding lowest
lowest_like f g h = seek_like f g 32 0 (λ j lt. h j (omega arith))

-- the lowest place, where it is one
pub found : (f : ℕ → Bool) (n : ℕ) → n ≡ lowest f → MatchOption (then_some (ltb n 32) n) (lowest f ≡ 32) (λ p. (p ≡ lowest f) × (p < 32))
found f n is = go (ltb n 32) refl
  where
    go : (b : Bool) → ltb n 32 ≡ b → MatchOption (then_some b n) (lowest f ≡ 32) (λ p. (p ≡ lowest f) × (p < 32))
    go true e = (is, ltb-true n 32 e)
    go false e =
        let past = ltb-false n 32 e in
        ⊎_elim (λ same. same) (λ ne. let low = (lowest_hit f ne).1 in absurd (omega arith)) (cases_eq (lowest f) 32)
