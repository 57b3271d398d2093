-- The places reached along arrows are closed under them; sorted numbers are the same numbers.
use Rattle.std.proofs.Common.{◌≡◌, ℕ, zero, suc, ◌+◌, ◌<◌, Bool, true, false, cond, not, ◌&&◌, leb, ◌⊎◌, List, [], ◌∷◌, ◌++◌, length, sym, refl, ap, subst, inl, inr, arith}
use native.Mathlib.Decide.{ℕ_discrete}
use Rattle.std.proofs.lemmas.Bool.{and_parts, and_from, cases_Bool, not-true, not_from_false}
use Rattle.tree.specs.Lists.{keep, some_of}
use Rattle.model.specs.Numbers.{below, member, sort_in, sorted, places}
use Rattle.model.specs.Arrows.{reached, widen, wider}
use Rattle.model.proofs.Events.{In}
use Rattle.model.proofs.Lists.{in_append, in_left, append_length}
use Rattle.model.proofs.Keys.{some_true, true_some, keep_from, keep_to, member_in, not_member, Distinct, fits_in}

pub below_to : (n i : ℕ) → i < n → In i (below n)
below_to zero i lt = absurd (omega arith)
below_to (suc n) i lt = go (ℕ_discrete i n) (below_to n i)
  where
    go : Dec (i ≡ n) → (i < n → In i (below n)) → In i (n ∷ below n)
    go (yes e) ih = inl e
    go (no ne) ih = inr (ih (omega arith))

pub below_from : (n i : ℕ) → In i (below n) → i < n
below_from zero i h = elim h [ ]
below_from (suc n) i (inl e) = omega arith
below_from (suc n) i (inr h) = let lt = below_from n i h in omega arith

below_distinct : (n : ℕ) → Distinct (below n)
below_distinct zero = tt
below_distinct (suc n) = (λ i. let lt = below_from n n i in omega arith, below_distinct n)

pub below_length : (n : ℕ) → length (below n) ≡ n
below_length zero = refl
below_length (suc n) = ap suc (below_length n)

pub keep_distinct : (f : ℕ → Bool) (xs : List ℕ) → Distinct xs → Distinct (keep f xs)
keep_distinct f [] d = tt
keep_distinct f (x ∷ xs) d = go (f x) (keep_distinct f xs d.1)
  where
    go : (b : Bool) → Distinct (keep f xs) → Distinct (cond b (x ∷ (keep f xs)) (keep f xs))
    go true ih = (λ i. d.0 (keep_from f xs x i).0, ih)
    go false ih = ih

pub append_distinct : (xs ys : List ℕ) → Distinct xs → Distinct ys → ((x : ℕ) → In x xs → ¬ (In x ys)) → Distinct (xs ++ ys)
append_distinct [] ys d e h = e
append_distinct (x ∷ xs) ys d e h = (λ i. elim (in_append x xs ys i) [ inl j ↦ d.0 j | inr j ↦ h x (inl refl) j ], append_distinct xs ys d.1 e (λ z i. h z (inr i)))

-- ── the places ──
pub place_to : (i : ℕ) → i < 32 → In i places
unfolding places
place_to i lt = below_to 32 i lt

pub place_from : (i : ℕ) → In i places → i < 32
unfolding places
place_from i h = below_from 32 i h

pub places_distinct : Distinct places
unfolding places
places_distinct = below_distinct 32

pub places_length : length places ≡ 32
unfolding places
places_length = below_length 32

module _ (arrow : ℕ → ℕ → Bool) where
  abbrev pub Closed : List ℕ → Type 0
  Closed ps = (i j : ℕ) → In i ps → arrow i j ≡ true → j < 32 → In j ps

  abbrev test : List ℕ → ℕ → Bool
  test ps i = not (member i ps) && some_of (λ j. arrow j i) ps

  abbrev fresh : List ℕ → List ℕ
  fresh ps = keep (test ps) (places)

  fresh_from : (ps : List ℕ) (i : ℕ) → In i (fresh ps) → (i < 32) × ¬ (In i ps) × (j : ℕ) × In j ps × (arrow j i ≡ true)
  fresh_from ps i h =
      let q = keep_from (test ps) (places) i h in
      let r = and_parts (not (member i ps)) (some_of (λ j. arrow j i) ps) q.1 in
      let s = some_true (λ j. arrow j i) ps r.1 in
      (place_from i q.0, not_member i ps (not-true (member i ps) r.0), s.0, s.1, s.2)

  none_closed : (ps : List ℕ) → ((i : ℕ) → ¬ (In i (fresh ps))) → Closed ps
  none_closed ps none i j h x lt = go (cases_Bool (member j ps))
    where
      go : (member j ps ≡ true) ⊎ (member j ps ≡ false) → In j ps
      go (inl e) = member_in j ps e
      go (inr e) = absurd (none j (keep_to (test ps) (places) j (place_to j lt) (and_from (not (member j ps)) (some_of (λ k. arrow k j) ps) (not_from_false (member j ps) e) (true_some (λ k. arrow k j) ps i h x))))

  closed_wider : (ps : List ℕ) → Closed ps → Closed (wider arrow ps)
  closed_wider ps c i j h x lt = in_left j ps (fresh ps) (c i j (back i h) x lt)
    where
      back : (k : ℕ) → In k (ps ++ fresh ps) → In k ps
      back k h = elim (in_append k ps (fresh ps) h) [ inl q ↦ q | inr q ↦ (let f = fresh_from ps k q in absurd (f.1 (c f.2 k f.3 f.4 f.0))) ]

  closed_widen : (k : ℕ) (ps : List ℕ) → Closed ps → Closed (widen k arrow ps)
  closed_widen zero ps c = c
  closed_widen (suc k) ps c = closed_widen k (wider arrow ps) (closed_wider ps c)

  widen_closed : (k : ℕ) (ps : List ℕ) → Distinct ps → ((i : ℕ) → In i ps → i < 32) → 32 < length ps + k → Closed (widen k arrow ps)
  widen_closed zero ps d low big = absurd (let le = fits_in ps (places) d (λ c i. place_to c (low c i)) in let e = places_length in omega arith)
  widen_closed (suc k) ps d low big = go (fresh ps) refl (widen_closed k (wider arrow ps))
    where
      go : (fs : List ℕ) → fresh ps ≡ fs → (Distinct (ps ++ fresh ps) → ((i : ℕ) → In i (ps ++ fresh ps) → i < 32) → 32 < length (ps ++ fresh ps) + k → Closed (widen k arrow (ps ++ fresh ps))) → Closed (widen k arrow (ps ++ fresh ps))
      go [] e ih = closed_widen k (wider arrow ps) (closed_wider ps (none_closed ps (λ i h. subst (In i) e h)))
      go (f ∷ fs) e ih = ih
          (append_distinct ps (fresh ps) d (keep_distinct (test ps) (places) places_distinct) (λ z i j. (fresh_from ps z j).1 i))
          (λ i h. elim (in_append i ps (fresh ps) h) [ inl q ↦ low i q | inr q ↦ (fresh_from ps i q).0 ])
          (let a = append_length ps (fresh ps) in let b : length (fresh ps) ≡ suc (length fs) = ap length e in omega arith)

  pub reached_closed : (p : ℕ) → p < 32 → Closed (reached arrow p)
  unfolding reached
  reached_closed p lt = widen_closed 32 (p ∷ []) (λ i. i, tt) (λ i h. elim h [ inl e ↦ subst (λ v. v < 32) (sym e) lt | inr k ↦ absurd k ]) (omega arith)

  widen_sub : (k : ℕ) (ps : List ℕ) (i : ℕ) → In i ps → In i (widen k arrow ps)
  widen_sub zero ps i h = h
  widen_sub (suc k) ps i h = widen_sub k (wider arrow ps) i (in_left i ps (fresh ps) h)

  pub reached_self : (p : ℕ) → In p (reached arrow p)
  unfolding reached
  reached_self p = widen_sub 32 (p ∷ []) p (inl refl)

  -- what holds of the start, and is handed on along arrows, holds of all that is reached
  widen_all : (P : ℕ → Type 0) → ((i j : ℕ) → P i → arrow i j ≡ true → P j) → (k : ℕ) (ps : List ℕ) → ((i : ℕ) → In i ps → P i) → (i : ℕ) → In i (widen k arrow ps) → P i
  widen_all P h zero ps b i j = b i j
  widen_all P h (suc k) ps b i j = widen_all P h k (wider arrow ps) (λ z q. elim (in_append z ps (fresh ps) q) [ inl x ↦ b z x | inr x ↦ (let f = fresh_from ps z x in h f.2 z (b f.2 f.3) f.4) ]) i j

  pub reached_all : (P : ℕ → Type 0) → ((i j : ℕ) → P i → arrow i j ≡ true → P j) → (p : ℕ) → P p → (i : ℕ) → In i (reached arrow p) → P i
  unfolding reached
  reached_all P h p b i j = widen_all P h 32 (p ∷ []) (λ z q. elim q [ inl e ↦ subst P (sym e) b | inr k ↦ absurd k ]) i j

-- ── sorting ──
pub sort_from : (x : ℕ) (ys : List ℕ) (z : ℕ) → In z (sort_in x ys) → (z ≡ x) ⊎ In z ys
sort_from x [] z (inl e) = inl e
sort_from x [] z (inr k) = absurd k
sort_from x (y ∷ ys) z i = go (leb x y) i (sort_from x ys z)
  where
    go : (b : Bool) → In z (cond b (x ∷ y ∷ ys) (y ∷ sort_in x ys)) → (In z (sort_in x ys) → (z ≡ x) ⊎ In z ys) → (z ≡ x) ⊎ In z (y ∷ ys)
    go true (inl e) ih = inl e
    go true (inr j) ih = inr j
    go false (inl e) ih = inr (inl e)
    go false (inr j) ih = elim (ih j) [ inl e ↦ inl e | inr k ↦ inr (inr k) ]

sort_to : (x : ℕ) (ys : List ℕ) (z : ℕ) → (z ≡ x) ⊎ In z ys → In z (sort_in x ys)
sort_to x [] z (inl e) = inl e
sort_to x [] z (inr k) = absurd k
sort_to x (y ∷ ys) z i = go (leb x y) i (sort_to x ys z)
  where
    go : (b : Bool) → (z ≡ x) ⊎ In z (y ∷ ys) → ((z ≡ x) ⊎ In z ys → In z (sort_in x ys)) → In z (cond b (x ∷ y ∷ ys) (y ∷ sort_in x ys))
    go true (inl e) ih = inl e
    go true (inr j) ih = inr j
    go false (inl e) ih = inr (ih (inl e))
    go false (inr (inl e)) ih = inl e
    go false (inr (inr j)) ih = inr (ih (inr j))

pub sorted_from : (xs : List ℕ) (z : ℕ) → In z (sorted xs) → In z xs
sorted_from [] z i = i
sorted_from (x ∷ xs) z i = elim (sort_from x (sorted xs) z i) [ inl e ↦ inl e | inr j ↦ inr (sorted_from xs z j) ]

pub sorted_to : (xs : List ℕ) (z : ℕ) → In z xs → In z (sorted xs)
sorted_to [] z i = i
sorted_to (x ∷ xs) z (inl e) = sort_to x (sorted xs) z (inl e)
sorted_to (x ∷ xs) z (inr i) = sort_to x (sorted xs) z (inr (sorted_to xs z i))
