-- The law where the store has a root and the scheduler is fit: the tie gives the equation.
use Rattle.std.proofs.Common.{◌≡◌, ℕ, ◌<◌, true, false, eqb, ◌≢◌, ◌⊎◌, List, [], ◌∷◌, ◌++◌, map, Some, sym, refl, ap, ◌∙◌, subst, inl, inr}
use Rattle.std.proofs.lemmas.Bool.{both_ways, eqb-true, eq-eqb}
use Rattle.path.specs.declared.coded.CodedPath.{CodedPath}
use Rattle.tree.specs.Trees.{Depth, Node, actual, node_of, nodes}
use Rattle.tree.specs.Lists.{all_of}
use Rattle.model.specs.Paths.{fits, fits_any}
use Rattle.model.specs.Rules.{Action, Answer, plain_run}
use Rattle.model.specs.Scheduler.{Making, Model, arrow_between, place_of, untouched}
use Rattle.model.specs.History.{Log, block, in_order, one_by_one, past, second}
use Rattle.model.specs.Law.{Arrangement, Forward, Kept}
use Rattle.model.proofs.Events.{In, Event, State, replay, Follows, Arranged}
use Rattle.model.proofs.MixedRun.{Tree, Ground, Plays, ends, forwards, Agrees}
use Rattle.model.proofs.Lists.{in_append, append_nil, append_assoc, map_append}
use Rattle.model.proofs.Keys.{map_from, key_same, Rising}
use Rattle.model.proofs.PlainRules.{act_of, ans_of, Neat, PlainTree, plays_run}
use Rattle.model.proofs.Tied.{event, events, Told, st, mix, Tied, lowest_hit, lowest_miss}
use Rattle.model.proofs.Turn.{standing_actual, actual_standing, actual_up}
use Rattle.model.proofs.Begun.{ground, tied, all_live, store_up}
use Rattle.model.proofs.Replays.{agrees}
use Rattle.model.proofs.Logs.{Agreed, Went}
use Rattle.model.proofs.Decided.{kept_tree}

-- ── lists ──
forwards_append : (xs ys : List (Event CodedPath)) → forwards (xs ++ ys) ≡ forwards ys ++ forwards xs
forwards_append [] ys = sym (append_nil (forwards ys))
forwards_append (x ∷ xs) ys = ap (λ zs. zs ++ (x ∷ [])) (forwards_append xs ys) ∙ append_assoc (forwards ys) (forwards xs) (x ∷ [])

forwards_events : (xs : List (Action × Answer)) → forwards (events xs) ≡ events (in_order xs)
forwards_events [] = refl
forwards_events (x ∷ xs) = ap (λ zs. zs ++ (event x ∷ [])) (forwards_events xs) ∙ sym (map_append event (in_order xs) (x ∷ []))

in_order_in : {A : Type 0} (xs : List A) (z : A) → In z (in_order xs) → In z xs
in_order_in [] z i = i
in_order_in (x ∷ xs) z i = elim (in_append z (in_order xs) (x ∷ []) i) [ inl j ↦ inr (in_order_in xs z j) | inr j ↦ elim j [ inl e ↦ inl e | inr k ↦ absurd k ] ]

-- the latest first, behind others
abbrev onto : List ℕ → List ℕ → List ℕ
onto [] us = us
onto (t ∷ ts) us = onto ts (t ∷ us)

onto_from : (ts us : List ℕ) (z : ℕ) → In z (onto ts us) → In z ts ⊎ In z us
onto_from [] us z i = inr i
onto_from (t ∷ ts) us z i = elim (onto_from ts (t ∷ us) z i) [ inl j ↦ inl (inr j) | inr j ↦ elim j [ inl e ↦ inl (inl e) | inr k ↦ inr k ] ]

onto_to : (ts us : List ℕ) (z : ℕ) → In z ts ⊎ In z us → In z (onto ts us)
onto_to [] us z (inl i) = absurd i
onto_to [] us z (inr i) = i
onto_to (t ∷ ts) us z (inl (inl e)) = onto_to ts (t ∷ us) z (inr (inl e))
onto_to (t ∷ ts) us z (inl (inr i)) = onto_to ts (t ∷ us) z (inl i)
onto_to (t ∷ ts) us z (inr i) = onto_to ts (t ∷ us) z (inr (inr i))

-- ── what the answers were ──
acts_told : (xs : List (Action × Answer)) → ((x : Action × Answer) → In x xs → Told x) → map act_of (events xs) ≡ map (λ x. x.0) xs
acts_told [] h = refl
acts_told (x ∷ xs) h = ap (λ b. b ∷ map act_of (events xs)) (h x (inl refl)).0 ∙ ap (λ bs. x.0 ∷ bs) (acts_told xs (λ y i. h y (inr i)))

answers_told : (xs : List (Action × Answer)) → ((x : Action × Answer) → In x xs → Told x) → map ans_of (events xs) ≡ map (λ x. x.1) xs
answers_told [] h = refl
answers_told (x ∷ xs) h = ap (λ b. b ∷ map ans_of (events xs)) (h x (inl refl)).1 ∙ ap (λ bs. x.1 ∷ bs) (answers_told xs (λ y i. h y (inr i)))

module _ (g : Ground) (gf : g.fits ≡ fits) (ga : g.fits_any ≡ fits_any) (h : Log) (m : Model) (nx : ℕ) (ti : Tied g h m nx) where
  abbrev S : State CodedPath
  S = st h m

  -- the place of an open ticket
  pub place_is : (t i : ℕ) → t ≢ 0 → m.tickets i ≡ t → place_of m t ≡ i
  place_is t i t0 e = ti.seats.place_one (place_of m t) i (eqb-true (m.tickets (place_of m t)) t hit.0 ∙ sym e) (λ z. t0 (sym (eqb-true (m.tickets (place_of m t)) t hit.0) ∙ z))
    where
      found : place_of m t ≢ 32
      found z = both_ways (eqb (m.tickets i) t) (lowest_miss (λ j. eqb (m.tickets j) t) z i (ti.seats.place_low i (λ w. t0 (sym e ∙ w)))) (eq-eqb (m.tickets i) t e)

      hit : (eqb (m.tickets (place_of m t)) t ≡ true) × (place_of m t < 32)
      hit = lowest_hit (λ j. eqb (m.tickets j) t) found

  no_arrow : (u v : ℕ) → arrow_between m u v ≡ false → ¬ (S.Arrow u v)
  no_arrow u v e (i, j, eu, ev, x) =
      let q = ti.seats.arrow_ends i j x in
      let pi = place_is u i (λ z. q.0 (eu ∙ z)) eu in
      let pj = place_is v j (λ z. q.1 (ev ∙ z)) ev in
      both_ways (m.arrows i j) (subst (λ b. m.arrows i b ≡ false) pj (subst (λ a. m.arrows a (place_of m v) ≡ false) pi e)) x

  follows : (ts us : List ℕ) → Forward m ts → Follows S us → ((x : ℕ) → In x ts → ¬ (In x us)) → ((x u : ℕ) → In x ts → In u us → ¬ (S.Arrow x u)) → Follows S (onto ts us)
  follows [] us f b apart back = b
  follows (t ∷ ts) us f b apart back = follows ts (t ∷ us) f.2 (apart t (inl refl), (λ u i. back t u (inl refl) i), b)
      (λ x i j. elim j [ inl e ↦ f.0 (subst (λ v. In v ts) e i) | inr k ↦ apart x (inr i) k ])
      (λ x u i j. elim j [ inl e ↦ no_arrow x u (subst (λ v. arrow_between m x v ≡ false) (sym e) (f.1 x i)) | inr k ↦ back x u (inr i) k ])

  arranged : (ts : List ℕ) → Arrangement m ts → Arranged S (onto ts [])
  arranged ts a = record {
    each = λ u o. onto_to ts [] u (inl (subst (λ v. In v ts) o.2 (a.each o.1 (λ z. o.0 (sym o.2 ∙ z)))));
    only = λ u i. elim (onto_from ts [] u i) [ inl j ↦ (let q = a.only u j in (q.0, q.1, q.2)) | inr j ↦ absurd j ];
    forward = follows ts [] a.forward tt (λ x i j. j) (λ x u i j. absurd j);
  }

  laid : (ts us : List ℕ) → forwards (replay S (onto ts us)) ≡ forwards (replay S us) ++ events (one_by_one h ts)
  laid [] us = sym (append_nil (forwards (replay S us)))
  laid (t ∷ ts) us =
      laid ts (t ∷ us)
      ∙ ap (λ zs. zs ++ events (one_by_one h ts)) (forwards_append (events (block t h)) (replay S us) ∙ ap (λ zs. forwards (replay S us) ++ zs) (forwards_events (block t h)))
      ∙ append_assoc (forwards (replay S us)) (events (in_order (block t h))) (events (one_by_one h ts))
      ∙ ap (λ zs. forwards (replay S us) ++ zs) (sym (map_append event (in_order (block t h)) (one_by_one h ts)))

  second_is : (ts : List ℕ) → forwards (replay S (onto ts [])) ≡ events (second h ts)
  second_is ts = laid ts [] ∙ ap (λ zs. zs ++ events (one_by_one h ts)) (forwards_events (past h)) ∙ sym (map_append event (in_order (past h)) (one_by_one h ts))

  second_told : (ts : List ℕ) (x : Action × Answer) → In x (second h ts) → Told x
  second_told ts x i = elim (in_append x (in_order (past h)) (one_by_one h ts) i) [ inl j ↦ ti.told_past x (in_order_in (past h) x j) | inr j ↦ blocks ts j ]
    where
      blocks : (us : List ℕ) → In x (one_by_one h us) → Told x
      blocks [] j = absurd j
      blocks (u ∷ us) j = go (in_append x (in_order (block u h)) (one_by_one h us) j) (blocks us)
        where
          go : In x (in_order (block u h)) ⊎ In x (one_by_one h us) → (In x (one_by_one h us) → Told x) → Told x
          go (inl k) ih = ti.told u x (in_order_in (block u h) x k)
          go (inr k) ih = ih k

  -- ── the law, from the tie ──
  pub tied_agrees : PlainTree g gf g.first (λ u. 0) → (ts : List ℕ) → Arrangement m ts
      → plain_run (record { tree = g.first; additions = λ u. 0 }) (map (λ x. x.0) (second h ts)) ≡ Some (map (λ x. x.1) (second h ts), actual m.records)
  tied_agrees pt ts a =
      ap (plain_run (record { tree = g.first; additions = λ u. 0 })) (sym (acts_told (second h ts) (second_told ts)))
      ∙ run.1
      ∙ ap (λ as'. Some (as', run.0)) (answers_told (second h ts) (second_told ts))
      ∙ ap (λ ys. Some (map (λ x. x.1) (second h ts), ys)) same
    where
      ag : Agrees g (mix h m nx) (onto ts [])
      ag = agrees g (mix h m nx) ti.reach (onto ts []) (arranged ts a)

      T0 : Tree
      T0 y = In y g.first

      plays : Plays g T0 (λ u. 0) (events (second h ts))
      plays = subst (Plays g T0 (λ u. 0)) (second_is ts) ag.plays

      run : (zs : List Node) × (plain_run (record { tree = g.first; additions = λ u. 0 }) (map act_of (events (second h ts))) ≡ Some (map ans_of (events (second h ts)), zs)) × Rising zs × ((y : Node) → In y zs → ends T0 (events (second h ts)) y) × ((y : Node) → ends T0 (events (second h ts)) y → In y zs)
      run = plays_run g gf (events (second h ts)) T0 (λ u. 0) (record { tree = g.first; additions = λ u. 0 }) (λ y i. i) (λ y i. i) (λ u. refl) pt
          (λ d i. let q = map_from event (second h ts) d i in subst Neat (sym q.2) (second_told ts q.0 q.1).2) plays

      same : run.0 ≡ actual m.records
      same = key_same (λ (y : Node). y.name) run.0 (actual m.records) run.2 (actual_up g gf ga h m nx ti)
          (λ y i. standing_actual g gf ga h m nx ti y (ag.tree_to y (subst (λ es. ends T0 es y) (sym (second_is ts)) (run.3 y i))))
          (λ y i. run.4 y (subst (λ es. ends T0 es y) (second_is ts) (ag.tree_from y (actual_standing g gf ga h m nx ti y i))))

-- a making over a store that is fit and has a root
pub agrees_rooted : (mk : Making) (kept : Kept mk) → all_of (untouched mk.first) mk.store ≡ true → (a0 : ℕ) → In (node_of 0 0 a0) (nodes mk.store) → (h : Log) (m : Model) → Went mk h m → (ts : List ℕ) → Arrangement m ts → Agreed mk h m ts
agrees_rooted mk kept fit a0 root h m af ts a =
    let t = tied mk kept fit a0 root h m af in
    tied_agrees g refl refl h m t.0 t.1 (record {
      up = subst Rising (sym (all_live mk kept fit a0 root)) (store_up mk kept fit a0 root);
      leads = subst (λ ys. (y : Node) → In y ys → (d : ℕ) × Depth ys y.name d) (sym (all_live mk kept fit a0 root)) (kept_tree mk kept).leads;
      told = λ y i. inl (g.first_low y i);
    }) ts a
  where
    g : Ground
    g = ground mk kept fit a0 root
