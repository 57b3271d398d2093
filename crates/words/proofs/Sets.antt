-- The word of a set of places: its places, and that a word is known by them.
-- Assumes nothing.
use Rattle.std.proofs.Common.{◌≡◌, ℕ, zero, suc, ◌+◌, ◌*◌, ◌/◌, ◌%◌, ◌^◌, ◌<◌, Bool, true, false, cond, ◌&&◌, ◌||◌, eqb, ltb, sym, refl, ap, ◌∙◌, ⊎_elim, mod-eq_of_lt, one-add, arith}
use Rattle.std.proofs.lemmas.Nat.{mod-pow-add, pow-add, pow_below}
use Rattle.std.proofs.lemmas.Bool.{cases_eq, cases_lt}
use Rattle.std.proofs.lemmas.Bool.Decides.{nat_tests}
use Rattle.words.specs.Words.{bit, word_below, word_of}
use Rattle.words.proofs.Bits.{bit-or, bit_none, bit_one, bit_past}

bit_below : (k : ℕ) (f : ℕ → Bool) (i : ℕ) → bit (word_below k f) i ≡ (ltb i k && f i)
bit_below zero f i = let z = bit_none i in grind (arith, nat_tests)
bit_below (suc k) f i =
    let e = bit-or (cond (f k) (2 ^ k) 0) (word_below k f) i in
    let s = bit_below k f i in
    e ∙ (ap (λ (b : Bool). bit (cond (f k) (2 ^ k) 0) i || b) s ∙ top (f k) refl)
  where
    top : (c : Bool) → f k ≡ c → (bit (cond c (2 ^ k) 0) i || (ltb i k && f i)) ≡ (ltb i (suc k) && f i)
    top true t = ap (λ (b : Bool). b || (ltb i k && f i)) (bit_one k i) ∙ side (λ (e : i ≡ k). ap f e ∙ t)
      where
        side : (i ≡ k → f i ≡ true) → (eqb i k || (ltb i k && f i)) ≡ (ltb i (suc k) && f i)
        side h = grind (arith, nat_tests)
    top false t = ap (λ (b : Bool). b || (ltb i k && f i)) (bit_none i) ∙ side (λ (e : i ≡ k). ap f e ∙ t)
      where
        side : (i ≡ k → f i ≡ false) → (ltb i k && f i) ≡ (ltb i (suc k) && f i)
        side h = grind (arith, nat_tests)

pub bit_word : (f : ℕ → Bool) (i : ℕ) → bit (word_of f) i ≡ (ltb i 32 && f i)
unfolding word_of
bit_word f i = bit_below 32 f i

-- words with the same places are the same
same_low : (k v w : ℕ) → ((i : ℕ) → bit v i ≡ bit w i) → v % 2 ^ k ≡ w % 2 ^ k
same_low zero v w h = omega arith
same_low (suc k) v w h =
    let t = same_low k v w h in
    let a : v % 2 ^ suc k ≡ (v / 2 ^ k % 2 ^ 1) * 2 ^ k + v % 2 ^ k = ap (λ (n : ℕ). v % 2 ^ n) (sym (one-add k)) ∙ mod-pow-add v 1 k in
    let b : w % 2 ^ suc k ≡ (w / 2 ^ k % 2 ^ 1) * 2 ^ k + w % 2 ^ k = ap (λ (n : ℕ). w % 2 ^ n) (sym (one-add k)) ∙ mod-pow-add w 1 k in
    let e = h k in
    let d : v / 2 ^ k % 2 ≡ w / 2 ^ k % 2 = grind (arith, nat_tests) in
    a ∙ (ap (λ (n : ℕ). n * 2 ^ k + v % 2 ^ k) d ∙ (ap (λ (n : ℕ). (w / 2 ^ k % 2) * 2 ^ k + n) t ∙ sym b))

lt_pow : (n : ℕ) → n < 2 ^ n
lt_pow zero = omega arith
lt_pow (suc n) =
    let t = lt_pow n in
    let e : 2 ^ suc n ≡ 2 ^ 1 * 2 ^ n = ap (λ (n : ℕ). 2 ^ n) (sym (one-add n)) ∙ pow-add 2 1 n in
    omega arith

pub word_same : (v w : ℕ) → ((i : ℕ) → bit v i ≡ bit w i) → v ≡ w
word_same v w h =
    let a = lt_pow v in
    let b = lt_pow w in
    let d : v < 2 ^ (v + w) = ⊎_elim (λ e. let x = ap (λ (n : ℕ). 2 ^ n) e in omega arith) (λ ne. let x = pow_below v (v + w) (omega arith) in omega arith) (cases_eq v (v + w)) in
    let f : w < 2 ^ (v + w) = ⊎_elim (λ e. let x = ap (λ (n : ℕ). 2 ^ n) e in omega arith) (λ ne. let x = pow_below w (v + w) (omega arith) in omega arith) (cases_eq w (v + w)) in
    sym (mod-eq_of_lt d) ∙ (same_low (v + w) v w h ∙ mod-eq_of_lt f)

-- a word is the word of its places
pub word_bits : (w : ℕ) → w < 4294967296 → word_of (bit w) ≡ w
word_bits w h = word_same (word_of (bit w)) w (λ i. bit_word (bit w) i ∙ below i)
  where
    below : (i : ℕ) → (ltb i 32 && bit w i) ≡ bit w i
    below i = ⊎_elim (λ low. grind (arith, nat_tests)) (λ high. let z = bit_past w 32 i h high in grind (arith, nat_tests)) (cases_lt i 32)
