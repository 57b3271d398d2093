-- Order writes the open tickets by its rule, and what it writes is an arrangement.
use Rattle.std.proofs.Common.{◌≡◌, ℕ, zero, suc, ◌<◌, ◌≤◌, Bool, true, false, cond, not, eqb, leb, ◌≢◌, ◌⊎◌, List, [], ◌∷◌, map, length, Some, None, Option, sym, refl, ap, ◌∙◌, subst, inl, inr, arith}
use native.Mathlib.Decide.{ℕ_discrete}
use Rattle.std.proofs.lemmas.Bool.{true≢false, eqb-false, eq-eqb, ne_eqb, cases_Bool, cases_lt, not-true, not_from_false, cond-true, cond-false, leb-true, leb-false, eqb-true, or_from}
use Rattle.tree.specs.Lists.{keep, some_of}
use Rattle.model.specs.Numbers.{places, sort_in, sorted}
use Rattle.model.specs.Arrows.{and_then, first_free, order_from, order_of}
use Rattle.model.specs.Scheduler.{Model, arrow_between, open_tickets, order, place_of, not_open}
use Rattle.model.specs.History.{Log, calls}
use Rattle.model.specs.Law.{Arrangement, Forward}
use Rattle.model.specs.Meanings.{Orders, done, next, OrderExact}
use Rattle.model.proofs.Events.{In}
use Rattle.model.proofs.Keys.{some_true, some_false, keep_from, keep_to, map_from, map_to}
use Rattle.model.proofs.Reached.{place_to, places_length, sorted_from, sorted_to, sort_from}
use Rattle.model.proofs.Ways.{none≢some, some_one}
use Rattle.model.proofs.Orderly.{Orderly, orderly}
use Rattle.model.proofs.Logs.{went}
use Rattle.model.proofs.Tied.{lowest_miss, seat_of}
use Rattle.model.proofs.Lists.{map_length, keep_length}

keep_less : {A : Type 0} (f : A → Bool) (xs : List A) (x : A) → In x xs → f x ≡ false → length (keep f xs) < length xs
keep_less f [] x i e = elim i [ ]
keep_less f (y ∷ ys) x (inl p) e = go (f y) (ap f (sym p) ∙ e)
  where
    go : (b : Bool) → b ≡ false → length (cond b (y ∷ (keep f ys)) (keep f ys)) < suc (length ys)
    go true q = absurd (true≢false q)
    go false q = let le = keep_length f ys in omega arith
keep_less f (y ∷ ys) x (inr i) e = go (f y) (keep_less f ys x i e)
  where
    go : (b : Bool) → length (keep f ys) < length ys → length (cond b (y ∷ (keep f ys)) (keep f ys)) < suc (length ys)
    go true ih = omega arith
    go false ih = omega arith

sort_length : (x : ℕ) (ys : List ℕ) → length (sort_in x ys) ≡ suc (length ys)
sort_length x [] = refl
sort_length x (y ∷ ys) = go (leb x y) (sort_length x ys)
  where
    go : (b : Bool) → length (sort_in x ys) ≡ suc (length ys) → length (cond b (x ∷ y ∷ ys) (y ∷ sort_in x ys)) ≡ suc (suc (length ys))
    go true ih = refl
    go false ih = ap suc ih

pub sorted_length : (xs : List ℕ) → length (sorted xs) ≡ length xs
sorted_length [] = refl
sorted_length (x ∷ xs) = sort_length x (sorted xs) ∙ ap suc (sorted_length xs)

-- ── tickets that rise ──
abbrev pub Climbs : List ℕ → Type 0
Climbs [] = Unit {0}
Climbs (n ∷ ns) = ((k : ℕ) → In k ns → n ≤ k) × Climbs ns

sort_climbs : (x : ℕ) (ys : List ℕ) → Climbs ys → Climbs (sort_in x ys)
sort_climbs x [] c = ((λ k i. elim i [ ]), tt)
sort_climbs x (y ∷ ys) c = go (leb x y) refl (sort_climbs x ys c.1)
  where
    go : (b : Bool) → leb x y ≡ b → Climbs (sort_in x ys) → Climbs (cond b (x ∷ y ∷ ys) (y ∷ sort_in x ys))
    go true e ih = let le = leb-true x y e in ((λ k i. elim i [ inl p ↦ (let q = p in omega arith) | inr j ↦ (let q = c.0 k j in omega arith) ]), c)
    go false e ih = let gt = leb-false x y e in ((λ k i. elim (sort_from x ys k i) [ inl p ↦ (let q = p in omega arith) | inr j ↦ c.0 k j ]), ih)

pub sorted_climbs : (xs : List ℕ) → Climbs (sorted xs)
sorted_climbs [] = tt
sorted_climbs (x ∷ xs) = sort_climbs x (sorted xs) (sorted_climbs xs)

keep_climbs : (f : ℕ → Bool) (xs : List ℕ) → Climbs xs → Climbs (keep f xs)
keep_climbs f [] c = tt
keep_climbs f (x ∷ xs) c = go (f x) (keep_climbs f xs c.1)
  where
    go : (b : Bool) → Climbs (keep f xs) → Climbs (cond b (x ∷ keep f xs) (keep f xs))
    go true ih = ((λ k i. c.0 k (keep_from f xs k i).0), ih)
    go false ih = ih

-- a least one
least : (f : ℕ → ℕ) (t : ℕ) (ts : List ℕ) → (x : ℕ) × In x (t ∷ ts) × ((u : ℕ) → In u (t ∷ ts) → f x ≤ f u)
least f t [] = (t, inl refl, λ u i. elim i [ inl e ↦ (let k : f u ≡ f t = ap f e in omega arith) | inr k ↦ absurd k ])
least f t (s ∷ ts) = go (least f s ts)
  where
    go : (x : ℕ) × In x (s ∷ ts) × ((u : ℕ) → In u (s ∷ ts) → f x ≤ f u) → (x : ℕ) × In x (t ∷ s ∷ ts) × ((u : ℕ) → In u (t ∷ s ∷ ts) → f x ≤ f u)
    go (x, i, le) = side (cases_lt (f t) (f x))
      where
        side : (f t < f x) ⊎ (f x ≤ f t) → (y : ℕ) × In y (t ∷ s ∷ ts) × ((u : ℕ) → In u (t ∷ s ∷ ts) → f y ≤ f u)
        side (inl lt) = (t, inl refl, λ u j. elim j [ inl e ↦ (let k : f u ≡ f t = ap f e in omega arith) | inr k ↦ (let l = le u k in omega arith) ])
        side (inr ge) = (x, inr i, λ u j. elim j [ inl e ↦ (let k : f u ≡ f t = ap f e in omega arith) | inr k ↦ le u k ])

module _ (h : Log) (m : Model) (o : Orderly h m) where
  abbrev rk : ℕ → ℕ
  rk t = o.rank (place_of m t)

  arrow_rank : (u v : ℕ) → arrow_between m u v ≡ true → rk u < rk v
  arrow_rank u v x = o.rank_up (place_of m u) (place_of m v) x

  free_some : (xs ts : List ℕ) (t : ℕ) → first_free (arrow_between m) xs ts ≡ Some t → In t ts × (some_of (λ u. arrow_between m u t) xs ≡ false)
  free_some xs [] t e = absurd (none≢some t e)
  free_some xs (s ∷ ts) t e = go (cases_Bool (some_of (λ u. arrow_between m u s) xs)) (free_some xs ts t)
    where
      go : (some_of (λ u. arrow_between m u s) xs ≡ true) ⊎ (some_of (λ u. arrow_between m u s) xs ≡ false) → (first_free (arrow_between m) xs ts ≡ Some t → In t ts × (some_of (λ u. arrow_between m u t) xs ≡ false)) → In t (s ∷ ts) × (some_of (λ u. arrow_between m u t) xs ≡ false)
      go (inl b) ih = let q = ih (sym (cond-true (some_of (λ u. arrow_between m u s) xs) (first_free (arrow_between m) xs ts) (Some s) b) ∙ e) in (inr q.0, q.1)
      go (inr b) ih =
          let p : s ≡ t = some_one s t (sym (cond-false (some_of (λ u. arrow_between m u s) xs) (first_free (arrow_between m) xs ts) (Some s) b) ∙ e) in
          (inl (sym p), subst (λ v. some_of (λ u. arrow_between m u v) xs ≡ false) p b)

  free_none : (xs ts : List ℕ) → first_free (arrow_between m) xs ts ≡ None → (t : ℕ) → In t ts → some_of (λ u. arrow_between m u t) xs ≡ true
  free_none xs [] e t i = elim i [ ]
  free_none xs (s ∷ ts) e t i = go (cases_Bool (some_of (λ u. arrow_between m u s) xs)) i (free_none xs ts)
    where
      go : (some_of (λ u. arrow_between m u s) xs ≡ true) ⊎ (some_of (λ u. arrow_between m u s) xs ≡ false) → In t (s ∷ ts) → (first_free (arrow_between m) xs ts ≡ None → (v : ℕ) → In v ts → some_of (λ u. arrow_between m u v) xs ≡ true) → some_of (λ u. arrow_between m u t) xs ≡ true
      go (inl b) (inl p) ih = subst (λ v. some_of (λ u. arrow_between m u v) xs ≡ true) (sym p) b
      go (inl b) (inr j) ih = ih (sym (cond-true (some_of (λ u. arrow_between m u s) xs) (first_free (arrow_between m) xs ts) (Some s) b) ∙ e) t j
      go (inr b) j ih = absurd (none≢some s (sym e ∙ cond-false (some_of (λ u. arrow_between m u s) xs) (first_free (arrow_between m) xs ts) (Some s) b))

  -- no lesser one is free
  free_least : (xs ts : List ℕ) → Climbs ts → (t : ℕ) → first_free (arrow_between m) xs ts ≡ Some t → (s : ℕ) → In s ts → s < t → some_of (λ u. arrow_between m u s) xs ≡ true
  free_least xs [] c t e s i lt = elim i [ ]
  free_least xs (r ∷ ts) c t e s i lt = go (cases_Bool (some_of (λ u. arrow_between m u r) xs)) i (free_least xs ts c.1 t)
    where
      go : (some_of (λ u. arrow_between m u r) xs ≡ true) ⊎ (some_of (λ u. arrow_between m u r) xs ≡ false) → In s (r ∷ ts) → (first_free (arrow_between m) xs ts ≡ Some t → (v : ℕ) → In v ts → v < t → some_of (λ u. arrow_between m u v) xs ≡ true) → some_of (λ u. arrow_between m u s) xs ≡ true
      go (inl b) (inl p) ih = subst (λ v. some_of (λ u. arrow_between m u v) xs ≡ true) (sym p) b
      go (inl b) (inr j) ih = ih (sym (cond-true (some_of (λ u. arrow_between m u r) xs) (first_free (arrow_between m) xs ts) (Some r) b) ∙ e) s j lt
      go (inr b) j ih =
          let p : r ≡ t = some_one r t (sym (cond-false (some_of (λ u. arrow_between m u r) xs) (first_free (arrow_between m) xs ts) (Some r) b) ∙ e) in
          elim j [ inl q ↦ absurd (omega arith) | inr k ↦ (let le = c.0 s k in absurd (omega arith)) ]

  -- since arrows have no ring, one is free as long as any remains
  orders_right : (k : ℕ) (ts : List ℕ) → length ts ≤ k → Climbs ts → Orders (arrow_between m) ts (order_from k (arrow_between m) ts)
  orders_right zero [] le c = done
  orders_right zero (t ∷ ts) le c = absurd (omega arith)
  orders_right (suc k) [] le c = done
  orders_right (suc k) (t ∷ ts) le c = go (first_free (arrow_between m) (t ∷ ts) (t ∷ ts)) refl (orders_right k)
    where
      xs : List ℕ
      xs = t ∷ ts

      go : (f : Option ℕ) → first_free (arrow_between m) xs xs ≡ f → ((rs : List ℕ) → length rs ≤ k → Climbs rs → Orders (arrow_between m) rs (order_from k (arrow_between m) rs)) → Orders (arrow_between m) xs (and_then f (λ s. order_from k (arrow_between m) (keep (λ u. not (eqb u s)) xs)))
      go None e ih =
          let l = least rk t ts in
          let b = some_true (λ u. arrow_between m u l.0) xs (free_none xs xs e l.0 l.1) in
          let lt = arrow_rank b.0 l.0 b.2 in
          let ge = l.2 b.0 b.1 in
          absurd (omega arith)
      go (Some s) e ih = next s q.0 (some_false (λ u. arrow_between m u s) xs q.1)
          (λ r i lt. some_true (λ u. arrow_between m u r) xs (free_least xs xs c s e r i lt))
          (ih (keep rest xs) shorter (keep_climbs rest xs c))
        where
          rest : ℕ → Bool
          rest u = not (eqb u s)

          q : In s xs × (some_of (λ u. arrow_between m u s) xs ≡ false)
          q = free_some xs xs s e

          shorter : length (keep rest xs) ≤ k
          shorter =
              let gone : rest s ≡ false = ap not (eq-eqb s s refl) in
              let lt = keep_less rest xs s q.0 gone in omega arith

  -- ── an order is an arrangement ──
  from_order : {ts os : List ℕ} → Orders (arrow_between m) ts os → (u : ℕ) → In u os → In u ts
  from_order done u i = i
  from_order (next {ts} t i free least r) u (inl e) = subst (λ v. In v ts) (sym e) i
  from_order (next {ts} t i free least r) u (inr j) = (keep_from (λ v. not (eqb v t)) ts u (from_order r u j)).0

  to_order : {ts os : List ℕ} → Orders (arrow_between m) ts os → (u : ℕ) → In u ts → In u os
  to_order done u i = i
  to_order (next {ts} {os} t i free least r) u j = go (ℕ_discrete u t) (to_order r u)
    where
      go : Dec (u ≡ t) → (In u (keep (λ v. not (eqb v t)) ts) → In u os) → In u (t ∷ os)
      go (yes e) ih = inl e
      go (no ne) ih = inr (ih (keep_to (λ v. not (eqb v t)) ts u j (not_from_false (eqb u t) (ne_eqb u t ne))))

  forward_order : {ts os : List ℕ} → Orders (arrow_between m) ts os → Forward m os
  forward_order done = tt
  forward_order (next {ts} t i free least r) = (
    (λ j. eqb-false t t (not-true (eqb t t) (keep_from (λ v. not (eqb v t)) ts t (from_order r t j)).1) refl),
    (λ u j. free u (keep_from (λ v. not (eqb v t)) ts u (from_order r u j)).0),
    forward_order r,
  )

  abbrev taken : ℕ → Bool
  taken i = not (eqb (m.tickets i) 0)

  open_short : length (open_tickets m) ≤ 32
  open_short =
      let a = sorted_length (map m.tickets (keep taken places)) in
      let b = map_length m.tickets (keep taken places) in
      let c = keep_length taken places in
      let d = places_length in
      omega arith

  pub order_is : Orders (arrow_between m) (open_tickets m) (order m)
  unfolding order_of
  order_is = orders_right 32 (open_tickets m) open_short (sorted_climbs (map m.tickets (keep taken places)))

  -- the open tickets, by their places
  pub open_to : (i : ℕ) → m.tickets i ≢ 0 → In (m.tickets i) (open_tickets m)
  open_to i nz = sorted_to (map m.tickets (keep taken places)) (m.tickets i) (map_to m.tickets (keep taken places) i (keep_to taken places i (place_to i (o.low i nz)) (not_from_false (eqb (m.tickets i) 0) (ne_eqb (m.tickets i) 0 nz))))

  pub open_from : (t : ℕ) → In t (open_tickets m) → (t ≢ 0) × (i : ℕ) × (m.tickets i ≡ t)
  open_from t i =
      let q = map_from m.tickets (keep taken places) t (sorted_from (map m.tickets (keep taken places)) t i) in
      let k = keep_from taken places q.0 q.1 in
      ((λ z. eqb-false (m.tickets q.0) 0 (not-true (eqb (m.tickets q.0) 0) k.1) (sym q.2 ∙ z)), q.0, sym q.2)

  pub order_arranged : Arrangement m (order m)
  order_arranged = record {
    each = λ i nz. to_order order_is (m.tickets i) (open_to i nz);
    only = λ t i. open_from t (from_order order_is t i);
    forward = forward_order order_is;
  }

pub order_exact : OrderExact
order_exact mk kept h m af = (order_is (calls h) m o, λ t. (opened t, listed t))
  where
    o : Orderly (calls h) m
    o = orderly mk kept.ticket (calls h) m (went mk h m af)

    opened : (t : ℕ) → In t (open_tickets m) → not_open m t ≡ false
    opened t i = go (open_from (calls h) m o t i) (cases_Bool (eqb (place_of m t) 32))
      where
        go : (t ≢ 0) × (i : ℕ) × (m.tickets i ≡ t) → (eqb (place_of m t) 32 ≡ true) ⊎ (eqb (place_of m t) 32 ≡ false) → not_open m t ≡ false
        go (nz, j, e) (inl b) = absurd (eqb-false (m.tickets j) t (lowest_miss (λ k. eqb (m.tickets k) t) (eqb-true (place_of m t) 32 b) j (o.low j (λ z. nz (sym e ∙ z)))) e)
        go (nz, j, e) (inr b) = or_from (eqb t 0) (eqb (place_of m t) 32) (ne_eqb t 0 nz) b

    listed : (t : ℕ) → not_open m t ≡ false → In t (open_tickets m)
    listed t op = let s = seat_of m t op in subst (λ v. In v (open_tickets m)) s.1 (open_to (calls h) m o (place_of m t) (λ z. s.0 (sym s.1 ∙ z)))
