-- The bits of a word after what a program does with it.
-- Assumes nothing.
use Rattle.std.proofs.Common.{◌≡◌, ℕ, zero, suc, ◌+◌, ◌-◌, ◌*◌, ◌/◌, ◌%◌, ◌^◌, ◌<◌, ◌≤◌, min, max, Bool, true, false, not, ◌&&◌, ◌||◌, eqb, ltb, ◌⊎◌, sym, ap, ◌∙◌, inl, inr, ⊎_elim, one-mul, zero-add, add-one, one-add, arith}
use lib.Bits.{bit_or, bit_and, or_step, or_shr, and_step, and_shr}
use Rattle.std.proofs.lemmas.Nat.{pow_pos, shl-shr, pow-add, pow_below, div_below, shr-shr, mod-pow-add, one_shl}
use Rattle.std.proofs.lemmas.Bool.{cases_Bool, cases_eq, cases_lt, cases_order, eq-eqb, eqb-false, ne_eqb}
use Rattle.std.proofs.lemmas.Bool.Decides.{nat_tests}
use Rattle.words.specs.Words.{bit}

pub bit-or : (a b k : ℕ) → bit (bit_or a b) k ≡ (bit a k || bit b k)
bit-or a b k =
    let s = or_step (a / 2 ^ k) (b / 2 ^ k) in
    let e : bit_or a b / 2 ^ k % 2 ≡ max (a / 2 ^ k % 2) (b / 2 ^ k % 2) = rw (or_shr a b k) (omega arith) in
    grind (arith, nat_tests)

pub bit-and : (a b k : ℕ) → bit (bit_and a b) k ≡ (bit a k && bit b k)
bit-and a b k =
    let s = and_step (a / 2 ^ k) (b / 2 ^ k) in
    let e : bit_and a b / 2 ^ k % 2 ≡ min (a / 2 ^ k % 2) (b / 2 ^ k % 2) = rw (and_shr a b k) (omega arith) in
    grind (arith, nat_tests)

pub bit_none : (k : ℕ) → bit 0 k ≡ false
bit_none k = let z = div_below 0 (2 ^ k) 1 (pow_pos k) (omega (arith, pow_pos k)) in grind (arith, nat_tests)

-- the word of one place
pub bit_one : (a k : ℕ) → bit (2 ^ a) k ≡ eqb k a
bit_one a k =
    ⊎_elim (λ e. at_one e) (⊎_elim (λ lt. under_one (a - k - 1) (omega arith) lt) (λ gt. over_one gt)) (cases_order k a)
  where
    at_one : k ≡ a → bit (2 ^ a) k ≡ eqb k a
    at_one e =
        let p : 2 ^ a / 2 ^ a ≡ 1 = ap (λ (n : ℕ). n / 2 ^ a) (sym (one-mul (2 ^ a))) ∙ shl-shr 1 a in
        let q : 2 ^ a / 2 ^ k % 2 ≡ 1 = ap (λ (n : ℕ). 2 ^ a / 2 ^ n % 2) e ∙ ap (λ (n : ℕ). n % 2) p in
        eq-eqb _ _ q ∙ sym (eq-eqb k a e)

    under_one : (j : ℕ) → a ≡ (1 + j) + k → k < a → bit (2 ^ a) k ≡ eqb k a
    under_one j e lt =
        let p : 2 ^ a ≡ 2 ^ (1 + j) * 2 ^ k = ap (λ (n : ℕ). 2 ^ n) e ∙ pow-add 2 (1 + j) k in
        let q : 2 ^ a / 2 ^ k ≡ 2 ^ (1 + j) = ap (λ (n : ℕ). n / 2 ^ k) p ∙ shl-shr (2 ^ (1 + j)) k in
        let z : 2 ^ a / 2 ^ k % 2 ≡ 0 = omega (arith, pow-add 2 1 j) in
        ne_eqb _ _ (λ h. omega arith) ∙ sym (ne_eqb k a (λ h. omega arith))

    over_one : a < k → bit (2 ^ a) k ≡ eqb k a
    over_one lt =
        let z = div_below (2 ^ a) (2 ^ k) 1 (pow_pos k) (omega (arith, pow_below a k lt)) in
        ne_eqb _ _ (λ h. omega arith) ∙ sym (ne_eqb k a (λ h. omega arith))

-- the same as a program shifts it into 32 bits
pub bit_shifted : (a k : ℕ) → a < 32 → bit (1 * 2 ^ a % 4294967296) k ≡ eqb k a
bit_shifted a k h = ap (λ (n : ℕ). bit n k) (one_shl a 32 h) ∙ bit_one a k

-- a word below 2 ^ n has no place from n on
pub bit_past : (w n k : ℕ) → w < 2 ^ n → n ≤ k → bit w k ≡ false
bit_past w n k h le =
    let m : 2 ^ n ≤ 2 ^ k = ⊎_elim (λ e. omega (arith, ap (λ (i : ℕ). 2 ^ i) e)) (λ ne. omega (arith, pow_below n k (omega arith))) (cases_eq n k) in
    let z = div_below w (2 ^ k) 1 (pow_pos k) (omega arith) in
    ne_eqb _ _ (λ h. omega arith)

-- the word of the other places
flip_sum : (j d w c : ℕ) → c + w + 1 ≡ 2 ^ (j + d) → c / 2 ^ j + w / 2 ^ j + 1 ≡ 2 ^ d
flip_sum zero d w c e = omega (arith, ap (λ (n : ℕ). 2 ^ n) (zero-add d))
flip_sum (suc j) d w c e =
    let i = flip_sum j (suc d) w c (e ∙ ap (λ (n : ℕ). 2 ^ n) (omega arith)) in
    let x : c / 2 ^ suc j ≡ c / 2 ^ j / 2 = ap (λ (n : ℕ). c / 2 ^ n) (sym (add-one j)) ∙ sym (shr-shr c j 1) in
    let y : w / 2 ^ suc j ≡ w / 2 ^ j / 2 = ap (λ (n : ℕ). w / 2 ^ n) (sym (add-one j)) ∙ sym (shr-shr w j 1) in
    let r : 2 ^ suc d ≡ 2 ^ 1 * 2 ^ d = ap (λ (n : ℕ). 2 ^ n) (sym (one-add d)) ∙ pow-add 2 1 d in
    omega arith

pub bit_flip : (w k : ℕ) → w < 4294967296 → k < 32 → bit (4294967295 - w) k ≡ not (bit w k)
bit_flip w k h lt =
    let n : 32 ≡ k + suc (31 - k) = omega arith in
    let p : 2 ^ 32 ≡ 2 ^ (k + suc (31 - k)) = ap (λ (n : ℕ). 2 ^ n) n in
    let e = flip_sum k (suc (31 - k)) w (4294967295 - w) (omega arith) in
    let r : 2 ^ suc (31 - k) ≡ 2 ^ 1 * 2 ^ (31 - k) = ap (λ (n : ℕ). 2 ^ n) (sym (one-add (31 - k))) ∙ pow-add 2 1 (31 - k) in
    let s : (4294967295 - w) / 2 ^ k % 2 + w / 2 ^ k % 2 ≡ 1 = omega arith in
    grind (arith, nat_tests)

-- the places of a that are not in b
pub bit_without : (a b k : ℕ) → a < 4294967296 → b < 4294967296 → bit (bit_and a (4294967295 - b)) k ≡ (bit a k && not (bit b k))
bit_without a b k h g = bit-and a (4294967295 - b) k ∙ ⊎_elim
    (λ low. ap (λ (t : Bool). bit a k && t) (bit_flip b k g low))
    (λ high. let z = bit_past a 32 k h high in ap (λ (t : Bool). t && bit (4294967295 - b) k) z ∙ sym (ap (λ (t : Bool). t && not (bit b k)) z))
    (cases_lt k 32)

-- a word with no place below n is 0 in its n low bits
pub zero_or_bit : (n w : ℕ) → (w % 2 ^ n ≡ 0) ⊎ ((k : ℕ) × (k < n) × (bit w k ≡ true))
zero_or_bit zero w = inl (omega arith)
zero_or_bit (suc n) w = ⊎_elim (λ t. inr (n, omega arith, t)) (λ f. ⊎_elim (λ z. inl (low f z)) (λ (k, lt, t). inr (k, omega arith, t)) (zero_or_bit n w)) (cases_Bool (bit w n))
  where
    low : bit w n ≡ false → w % 2 ^ n ≡ 0 → w % 2 ^ suc n ≡ 0
    low f z =
        let e : w % 2 ^ suc n ≡ (w / 2 ^ n % 2 ^ 1) * 2 ^ n + w % 2 ^ n = ap (λ (k : ℕ). w % 2 ^ k) (sym (one-add n)) ∙ mod-pow-add w 1 n in
        let b : (w / 2 ^ n % 2 ≡ 1) → ⊥ = eqb-false _ _ f in
        let o : w / 2 ^ n % 2 ≡ 0 = omega arith in
        let m : (w / 2 ^ n % 2 ^ 1) * 2 ^ n ≡ 0 = ap (λ (k : ℕ). k * 2 ^ n) o ∙ omega arith in
        omega arith

-- a word that is made place by place: it has the places j below k of which `test` says yes
pub place_put : (had test : Bool) (j k : ℕ) → had ≡ (ltb j k && test) → (j ≡ k → test ≡ true) → (had || eqb j k) ≡ (ltb j (k + 1) && test)
place_put had test j k e h = grind (arith, nat_tests)

pub place_left : (had test : Bool) (j k : ℕ) → had ≡ (ltb j k && test) → (j ≡ k → test ≡ false) → had ≡ (ltb j (k + 1) && test)
place_left had test j k e h = grind (arith, nat_tests)
