-- A place that is put into a word.
use Rattle.std.proofs.Common.{◌≡◌, ℕ, ◌^◌, Bool, true, false, cond, ◌||◌, ◌&&◌, eqb, ltb, sym, refl, ap, ◌∙◌}
use lib.Bits.{bit_or}
use Rattle.words.specs.Words.{bit}
use Rattle.words.proofs.Bits.{bit-or, bit_one}
use Rattle.words.proofs.Sets.{word_same}

-- as the code does it and as the model does; there is no place from 32 on
pub put_in : (r w i : ℕ) → ((k : ℕ) → bit r k ≡ (bit w k || (ltb i 32 && eqb k i))) → r ≡ cond (ltb i 32) (bit_or (2 ^ i) w) w
put_in r w i h = go (ltb i 32) h
  where
    turn : (x y : Bool) → (x || y) ≡ (y || x)
    turn true true = refl
    turn true false = refl
    turn false true = refl
    turn false false = refl

    go : (b : Bool) → ((k : ℕ) → bit r k ≡ (bit w k || (b && eqb k i))) → r ≡ cond b (bit_or (2 ^ i) w) w
    go true h = word_same r (bit_or (2 ^ i) w) (λ k. h k ∙ (turn (bit w k) (eqb k i) ∙ sym (bit-or (2 ^ i) w k ∙ ap (λ (b : Bool). b || bit w k) (bit_one i k))))
    go false h = word_same r w (λ k. h k ∙ turn (bit w k) false)

pub or_twice : (a b : ℕ) → bit_or a (bit_or a b) ≡ bit_or a b
or_twice a b = word_same _ _ (λ i. bit-or a (bit_or a b) i ∙ (ap (λ (x : Bool). bit a i || x) (bit-or a b i) ∙ (twice (bit a i) (bit b i) ∙ sym (bit-or a b i))))
  where
    twice : (x y : Bool) → (x || (x || y)) ≡ (x || y)
    twice true y = refl
    twice false y = refl
