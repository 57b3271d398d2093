-- Sets of places as lists and as words, and how they grow along arrows.
-- Assumes nothing.
use Rattle.std.proofs.Common.{◌≡◌, ℕ, zero, suc, ◌+◌, ◌-◌, ◌<◌, ◌≤◌, Bool, true, false, cond, not, ◌&&◌, ◌||◌, eqb, ltb, List, [], ◌∷◌, ◌++◌, sym, refl, ap, ◌∙◌, inl, ⊎_elim, append-nil, arith}
use lib.Bits.{bit_and, and_le_r}
use Rattle.std.proofs.lemmas.Bool.{and_parts, and_from, ne_eqb, eqb-false, ltb-true, lt-ltb, true≢false, not-true, not_from_false}
use Rattle.std.proofs.lemmas.Bool.Decides.{nat_tests}
use Rattle.words.specs.Words.{bit}
use Rattle.words.proofs.Bits.{bit-and, bit_none, zero_or_bit}
use Rattle.tree.specs.Lists.{keep, some_of}
use Rattle.model.specs.Numbers.{member, places}
use Rattle.model.specs.Arrows.{wider, widen, reached}
use Rattle.model.proofs.Keys.{some_true, true_some, member_in, in_member}
use Rattle.model.proofs.Reached.{place_to, place_from}

-- ── members ──
pub same_truth : (a b : Bool) → (a ≡ true → b ≡ true) → (b ≡ true → a ≡ true) → a ≡ b
same_truth true b f g = sym (f refl)
same_truth false true f g = g refl
same_truth false false f g = refl

member_append : (q : ℕ) (xs ys : List ℕ) → member q (xs ++ ys) ≡ (member q xs || member q ys)
member_append q [] ys = refl
member_append q (x ∷ xs) ys = let t = member_append q xs ys in grind arith

member_keep : (f : ℕ → Bool) (q : ℕ) (xs : List ℕ) → member q (keep f xs) ≡ (f q && member q xs)
member_keep f q [] = none (f q)
  where
    none : (b : Bool) → false ≡ (b && false)
    none true = refl
    none false = refl
member_keep f q (x ∷ xs) = one (f x) refl (member_keep f q xs)
  where
    one : (b : Bool) → f x ≡ b → member q (keep f xs) ≡ (f q && member q xs) → member q (cond b (x ∷ keep f xs) (keep f xs)) ≡ (f q && (eqb q x || member q xs))
    one true e t = side (λ (s : q ≡ x). ap f s ∙ e)
      where
        side : (q ≡ x → f q ≡ true) → (eqb q x || member q (keep f xs)) ≡ (f q && (eqb q x || member q xs))
        side h = grind (arith, nat_tests)
    one false e t = side (λ (s : q ≡ x). ap f s ∙ e)
      where
        side : (q ≡ x → f q ≡ false) → member q (keep f xs) ≡ (f q && (eqb q x || member q xs))
        side h = grind (arith, nat_tests)

member_places : (q : ℕ) → member q places ≡ ltb q 32
member_places q = same_truth (member q places) (ltb q 32) (λ t. lt-ltb q 32 (place_from q (member_in q places t))) (λ t. in_member q places (place_to q (ltb-true q 32 t)))

-- ── words ──
-- the word w has a place of the list ps, which the word seen is
pub meets : (w seen : ℕ) (ps : List ℕ) → seen < 4294967296 → ((j : ℕ) → bit seen j ≡ member j ps) → some_of (bit w) ps ≡ not (eqb (bit_and w seen) 0)
meets w seen ps h e = same_truth (some_of (bit w) ps) (not (eqb (bit_and w seen) 0)) there back
  where
    there : some_of (bit w) ps ≡ true → not (eqb (bit_and w seen) 0) ≡ true
    there t =
        let s = some_true (bit w) ps t in
        let b : bit (bit_and w seen) s.0 ≡ true = bit-and w seen s.0 ∙ and_from _ _ s.2 (e s.0 ∙ in_member s.0 ps s.1) in
        not_from_false _ (ne_eqb _ _ (λ z. true≢false (sym b ∙ (ap (λ (n : ℕ). bit n s.0) z ∙ bit_none s.0))))

    back : not (eqb (bit_and w seen) 0) ≡ true → some_of (bit w) ps ≡ true
    back t =
        let ne = eqb-false _ _ (not-true _ t) in
        ⊎_elim
        (λ z. absurd (ne (let l = and_le_r w seen in omega arith)))
        (λ (k, lt, b). let p = and_parts _ _ (sym (bit-and w seen k) ∙ b) in true_some (bit w) ps k (member_in k ps (sym (e k) ∙ p.1)) p.0)
        (zero_or_bit 32 (bit_and w seen))

-- a word is 0 where it has no place
pub some_bit : (w : ℕ) → w < 4294967296 → some_of (bit w) places ≡ not (eqb w 0)
some_bit w h = same_truth (some_of (bit w) places) (not (eqb w 0)) there back
  where
    there : some_of (bit w) places ≡ true → not (eqb w 0) ≡ true
    there t =
        let s = some_true (bit w) places t in
        not_from_false _ (ne_eqb _ _ (λ z. true≢false (sym s.2 ∙ (ap (λ (n : ℕ). bit n s.0) z ∙ bit_none s.0))))

    back : not (eqb w 0) ≡ true → some_of (bit w) places ≡ true
    back t =
        let ne = eqb-false _ _ (not-true _ t) in
        ⊎_elim (λ z. absurd (ne (omega arith))) (λ (k, lt, b). true_some (bit w) places k (place_to k lt) b) (zero_or_bit 32 w)

-- ── growth ──
module _ (arrow : ℕ → ℕ → Bool) where
  pub member_wider : (ps : List ℕ) (q : ℕ) → member q (wider arrow ps) ≡ (member q ps || (ltb q 32 && some_of (λ j. arrow j q) ps))
  member_wider ps q =
      let f : ℕ → Bool = λ i. not (member i ps) && some_of (λ j. arrow j i) ps in
      let a = member_append q ps (keep f places) in
      let b : member q (keep f places) ≡ (f q && ltb q 32) = member_keep f q places ∙ ap (λ (t : Bool). f q && t) (member_places q) in
      a ∙ (ap (λ (t : Bool). member q ps || t) b ∙ joined (member q ps) (some_of (λ j. arrow j q) ps) (ltb q 32))
    where
      joined : (m s l : Bool) → (m || ((not m && s) && l)) ≡ (m || (l && s))
      joined true s l = refl
      joined false true true = refl
      joined false true false = refl
      joined false false true = refl
      joined false false false = refl

  -- one round more
  pub widen_more : (k : ℕ) (ps : List ℕ) → widen (suc k) arrow ps ≡ wider arrow (widen k arrow ps)
  widen_more zero ps = refl
  widen_more (suc k) ps = widen_more k (wider arrow ps)

  none_kept : (f : ℕ → Bool) (xs : List ℕ) → ((q : ℕ) → member q (keep f xs) ≡ false) → keep f xs ≡ []
  none_kept f xs h = go (keep f xs) h
    where
      go : (ys : List ℕ) → ((q : ℕ) → member q ys ≡ false) → ys ≡ []
      go [] g = refl
      go (y ∷ ys) g = absurd (true≢false (sym (in_member y (y ∷ ys) (inl refl)) ∙ g y))

  -- where nothing comes to it, a set stays
  pub still : (ps : List ℕ) → ((q : ℕ) → member q (wider arrow ps) ≡ member q ps) → wider arrow ps ≡ ps
  still ps h = ap (λ (zs : List ℕ). ps ++ zs) (none_kept (λ i. not (member i ps) && some_of (λ j. arrow j i) ps) places none) ∙ append-nil ps
    where
      none : (q : ℕ) → member q (keep (λ i. not (member i ps) && some_of (λ j. arrow j i) ps) places) ≡ false
      none q =
          let k = member_keep (λ i. not (member i ps) && some_of (λ j. arrow j i) ps) q places in
          let a = member_append q ps (keep (λ i. not (member i ps) && some_of (λ j. arrow j i) ps) places) in
          go (member q ps) (some_of (λ j. arrow j q) ps) (member q places) _ k (sym a ∙ h q)
        where
          go : (m s l r : Bool) → r ≡ ((not m && s) && l) → (m || r) ≡ m → r ≡ false
          go true s l r e g = e
          go false s l r e g = g

  pub still_on : (k : ℕ) (ps : List ℕ) → wider arrow ps ≡ ps → widen k arrow ps ≡ ps
  still_on zero ps e = refl
  still_on (suc k) ps e = ap (widen k arrow) e ∙ still_on k ps e

  widen_split : (d k : ℕ) (ps : List ℕ) → widen (d + k) arrow ps ≡ widen d arrow (widen k arrow ps)
  widen_split d zero ps = let e : d + 0 ≡ d = omega arith in ap (λ (n : ℕ). widen n arrow ps) e
  widen_split d (suc k) ps = let e : d + suc k ≡ suc (d + k) = omega arith in ap (λ (n : ℕ). widen n arrow ps) e ∙ widen_split d k (wider arrow ps)

  pub reached_early : (p k : ℕ) → k ≤ 32 → ((q : ℕ) → member q (widen (suc k) arrow (p ∷ [])) ≡ member q (widen k arrow (p ∷ []))) → reached arrow p ≡ widen k arrow (p ∷ [])
  unfolding reached
  reached_early p k le h =
      let ps = widen k arrow (p ∷ []) in
      let e : 32 ≡ (32 - k) + k = omega arith in
      let s : wider arrow ps ≡ ps = still ps (λ q. ap (member q) (sym (widen_more k (p ∷ []))) ∙ h q) in
      ap (λ (n : ℕ). widen n arrow (p ∷ [])) e ∙ (widen_split (32 - k) k (p ∷ []) ∙ still_on (32 - k) ps s)

  pub reached_late : (p k : ℕ) → k ≡ 32 → reached arrow p ≡ widen k arrow (p ∷ [])
  unfolding reached
  reached_late p k e = ap (λ (n : ℕ). widen n arrow (p ∷ [])) (sym e)
