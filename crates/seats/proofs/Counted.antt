-- The places of a word are counted by its set digits.
-- Assumes nothing.
use Rattle.std.proofs.Common.{◌≡◌, ℕ, zero, suc, ◌+◌, ◌*◌, ◌/◌, ◌%◌, ◌^◌, ◌<◌, true, cond, eqb, List, ◌∷◌, length, sym, ap, ◌∙◌, ⊎_elim, one-add, arith}
use lib.Count.{ones, ones_cat, ones-ones}
use Rattle.std.proofs.lemmas.Nat.{mod-pow-add, mod_below, pow_pos}
use Rattle.std.proofs.lemmas.Bool.{both_ways, cases_lt}
use Rattle.words.specs.Words.{bit}
use Rattle.words.proofs.Bits.{bit_past}
use Rattle.tree.specs.Lists.{keep}
use Rattle.model.specs.Numbers.{below, member, places, Distinct}
use Rattle.model.proofs.Keys.{fits_in, keep_from, keep_to, member_in, in_member}
use Rattle.model.proofs.Reached.{place_to, keep_distinct, places_distinct}

ones_below : (k w : ℕ) → ones (w % 2 ^ k) ≡ length (keep (bit w) (below k))
ones_below zero w = let z : w % 2 ^ 0 ≡ 0 = omega arith in ap ones z ∙ ones-ones 0
ones_below (suc k) w =
    let m : w % 2 ^ suc k ≡ (w / 2 ^ k % 2 ^ 1) * 2 ^ k + w % 2 ^ k = ap (λ (n : ℕ). w % 2 ^ n) (sym (one-add k)) ∙ mod-pow-add w 1 k in
    ap ones m
    ∙ (ones_cat k (w / 2 ^ k % 2) (w % 2 ^ k) (mod_below w (2 ^ k) (pow_pos k))
    ∙ (ap (λ (n : ℕ). ones (w / 2 ^ k % 2) + n) (ones_below k w) ∙ top (w / 2 ^ k % 2) (omega arith) (keep (bit w) (below k))))
  where
    top : (d : ℕ) → d < 2 → (ks : List ℕ) → ones d + length ks ≡ length (cond (eqb d 1) (k ∷ ks) ks)
    top zero h ks = let o = ones-ones 0 in omega arith
    top (suc zero) h ks = let o = ones-ones 1 in omega arith
    top (suc (suc d)) h ks = absurd (omega arith)

ones_places : (w : ℕ) → w < 4294967296 → ones w ≡ length (keep (bit w) places)
unfolding places
ones_places w h = let e : w ≡ w % 2 ^ 32 = omega arith in ap ones e ∙ ones_below 32 w

-- the places of a word are below 32
pub bit_low : (w k : ℕ) → w < 4294967296 → bit w k ≡ true → k < 32
bit_low w k h t = ⊎_elim (λ lt. lt) (λ ge. absurd (both_ways (bit w k) (bit_past w 32 k h ge) t)) (cases_lt k 32)

pub ones_count : (w : ℕ) (ps : List ℕ) → w < 4294967296 → Distinct ps → ((q : ℕ) → bit w q ≡ member q ps) → ones w ≡ length ps
ones_count w ps h d same =
    let e = ones_places w h in
    let a = fits_in ps (keep (bit w) places) d (λ q i. let t = same q ∙ in_member q ps i in keep_to (bit w) places q (place_to q (bit_low w q h t)) t) in
    let b = fits_in (keep (bit w) places) ps (keep_distinct (bit w) places places_distinct) (λ q i. member_in q ps (sym (same q) ∙ (keep_from (bit w) places q i).1)) in
    omega arith
