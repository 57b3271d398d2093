-- A node stands no longer than its parent: in the actual tree, and in the records.
use Rattle.std.proofs.Common.{◌≡◌, ℕ, ◌≢◌, ◌⊎◌, List, [], sym, refl, ◌∙◌, subst, inl, inr}
use native.Mathlib.Decide.{ℕ_discrete}
use Rattle.model.proofs.Events.{In, World, ask, add, rem, who, node, Makes, Takes, Shows, Knows, count, Ev, Born, Gone, Live, Conflicts, State, All, Acts, Begins, Finishes, Withdraws, Starts}
use Rattle.model.proofs.Lists.{in_left, in_right, in_dec}
use Rattle.model.proofs.Neighbours.{Fine, ok_live, shown_live, takes_node, takes_not_root, makes_under, shown_child, shown_taken, stranger, born_mono, gone_mono, ask_last, grow_closed}
use Rattle.model.proofs.NewActions.{Inv, lookup, takes_born, b_fine, block_sub, block_plus, act_inv}
use Rattle.model.proofs.Endings.{start_inv, begin_inv, finish_inv, withdraw_inv, before, fin_was}

module _ (w : World) where
  -- where a node that v was shown came from
  abbrev pub Source : State w.Path → ℕ → ℕ → Type 0
  Source s v x = w.First x ⊎ ((e : Ev w) × Makes e x × (In e s.fin ⊎ ((z : ℕ) × s.Open z × In e (s.block z) × ((z ≡ v) ⊎ s.Arrow z v))))

  -- the invariant, and what it takes that a node stands no longer than its parent
  pub record Sound (s : State w.Path) : Type 0 where
    pub inv : Inv w s
    -- what a ticket was shown was there at first, or made by a finished ticket, by itself or by one with an arrow to it
    pub seen : (v : ℕ) (d : Ev w) (x : ℕ) → s.Open v → In d (s.block v) → Shows d x → Source s v x
    -- a live node has a live parent
    pub closed : (x : ℕ) → x ≢ 0 → Live w (All s) x → Live w (All s) (w.par x)
    -- who takes a shown node, or its parent, is open, and comes behind the ticket that was shown it
    pub ahead : (z : ℕ) (d : Ev w) (x : ℕ) → s.Open z → In d (s.block z) → Shows d x → (r : Ev w) → All s r → (y : ℕ) → (y ≡ x) ⊎ (y ≡ w.par x) → Takes r y → (v : ℕ) × s.Open v × In r (s.block v) × ((z ≡ v) ⊎ s.Arrow z v)

  source_born : (s : State w.Path) (v x : ℕ) → Source s v x → Born w (All s) x
  source_born s v x (inl z) = inl z
  source_born s v x (inr (e, m, inl i)) = inr (e, inl i, m)
  source_born s v x (inr (e, m, inr k)) = inr (e, inr (k.0, k.1, k.2), m)

  module _ (s : State w.Path) (inv : Inv w s) (seen : (v : ℕ) (d : Ev w) (x : ℕ) → s.Open v → In d (s.block v) → Shows d x → Source s v x) where
    pub known_here : (v : ℕ) → s.Open v → (n : ℕ) → Knows (s.block v) n → Born w (All s) n
    known_here v o n (inl p) = inl (subst w.First (sym p) w.first_root)
    known_here v o n (inr (d, j, inl m)) = inr (d, inr (v, o, j), m)
    known_here v o n (inr (d, j, inr sh)) = source_born s v n (seen v d n o j sh)

    pub born_closed : (x : ℕ) → x ≢ 0 → Born w (All s) x → Born w (All s) (w.par x)
    born_closed x nz (inl z) = inl (w.first_closed x z nz)
    born_closed x nz (inr (e, inl i, m)) =
        let h = lookup w s.fin e (inv.runs [] tt) i in
        let live = ok_live w (λ d. In d h.0) h.2 e h.3 in
        subst (Born w (All s)) (sym (makes_under w e x (inv.fine e (inl i)) m))
        (born_mono w (λ d. In d h.0) (All s) (λ d j. inl (h.1 d j)) (node e) live.0)
    born_closed x nz (inr (e, inr (v, o, i), m)) =
        subst (Born w (All s)) (sym (makes_under w e x (inv.fine e (inr (v, o, i))) m)) (known_here v o (node e) (inv.known v e o i))

  module _ (s : State w.Path) (b : Ev w) (s' : State w.Path) (so : Sound s) (acts : Acts w s b s') where
    inv : Inv w s
    inv = so.inv

    fine_b : Fine w b
    fine_b = b_fine w s b s' inv acts

    all_to : (e : Ev w) → All s e → All s' e
    all_to e (inl i) = inl (subst (In e) (sym acts.grows.same_fin) i)
    all_to e (inr (u, o, i)) = inr (u, acts.grows.open_to u o, block_sub w s b s' inv acts u e i)

    all_from : (e : Ev w) → All s' e → All s e ⊎ (e ≡ b)
    all_from e (inl i) = inl (inl (subst (In e) acts.grows.same_fin i))
    all_from e (inr (u, o, i)) = elim (block_plus w s b s' inv acts u e i) [ inl j ↦ inl (inr (u, acts.grows.open_from u o, j)) | inr q ↦ inr q.0 ]

    source_more : (v x : ℕ) → Source s v x → Source s' v x
    source_more v x (inl z) = inl z
    source_more v x (inr (e, m, inl i)) = inr (e, m, inl (subst (In e) (sym acts.grows.same_fin) i))
    source_more v x (inr (e, m, inr (z, o, i, inl p))) = inr (e, m, inr (z, acts.grows.open_to z o, block_sub w s b s' inv acts z e i, inl p))
    source_more v x (inr (e, m, inr (z, o, i, inr a))) = inr (e, m, inr (z, acts.grows.open_to z o, block_sub w s b s' inv acts z e i, inr (acts.grows.arrow_old z v a)))

    -- what b itself shows
    makes_conflict : (c e : Ev w) (x : ℕ) → Fine w c → Shows c x → Fine w e → Makes e x → Conflicts w e c
    makes_conflict (ask t n p found) e x f i fe m = ask_last w t n p found e x fe (inl m) (f x i)
    makes_conflict (add t n a y) e x f i fe m = elim i [ ]
    makes_conflict (rem t n) e x f i fe m = elim i [ ]

    shown_nz : (c : Ev w) (x : ℕ) → Fine w c → Shows c x → x ≢ 0
    shown_nz (ask t n p found) x f i = (f x i).0
    shown_nz (add t n a y) x f i = elim i [ ]
    shown_nz (rem t n) x f i = elim i [ ]

    shows_no_take : (c : Ev w) (x y : ℕ) → Shows c x → ¬ (Takes c y)
    shows_no_take (ask t n p found) x y i k = k
    shows_no_take (add t n a z) x y i k = i
    shows_no_take (rem t n) x y i k = i

    b_seen : (x : ℕ) → Shows b x → Source s' (who b) x
    b_seen x sh = go (shown_live w (All s) (count (who b) (s.block (who b))) b acts.ok x sh).0
      where
        go : Born w (All s) x → Source s' (who b) x
        go (inl z) = inl z
        go (inr (e, inl i, m)) = inr (e, m, inl (subst (In e) (sym acts.grows.same_fin) i))
        go (inr (e, inr (u, o, i), m)) = inr (e, m, inr (u, acts.grows.open_to u o, block_sub w s b s' inv acts u e i, at (ℕ_discrete u (who b))))
          where
            at : Dec (u ≡ who b) → (u ≡ who b) ⊎ s'.Arrow u (who b)
            at (yes p) = inl p
            at (no ne) = inr (acts.arrow_new u e o ne i (makes_conflict b e x fine_b sh (inv.fine e (inr (u, o, i))) m))

    act_seen : (v : ℕ) (d : Ev w) (x : ℕ) → s'.Open v → In d (s'.block v) → Shows d x → Source s' v x
    act_seen v d x o i sh = elim (block_plus w s b s' inv acts v d i) [
      | inl j ↦ source_more v x (so.seen v d x (acts.grows.open_from v o) j sh)
      | inr q ↦ subst (λ u. Source s' u x) (sym q.1) (b_seen x (subst (λ c. Shows c x) q.0 sh))
    ]

    act_closed : (x : ℕ) → x ≢ 0 → Live w (All s') x → Live w (All s') (w.par x)
    act_closed = grow_closed w (All s) (All s') (count (who b) (s.block (who b))) b acts.ok all_to all_from so.closed

    Ahead : ℕ → Ev w → Type 0
    Ahead z r = (v : ℕ) × s'.Open v × In r (s'.block v) × ((z ≡ v) ⊎ s'.Arrow z v)

    takes_conflict : (c d : Ev w) (x y : ℕ) → Fine w d → Shows d x → Fine w c → (y ≡ x) ⊎ (y ≡ w.par x) → Takes c y → Conflicts w d c
    takes_conflict c d x y f sh fc (inl e) tk = shown_taken w d c x f sh fc (subst (Takes c) e tk)
    takes_conflict (ask t n p found) d x y f sh fc (inr e) tk = elim tk [ ]
    takes_conflict (add t n a z) d x y f sh fc (inr e) tk = elim tk [ ]
    takes_conflict (rem t n) d x y f sh fc (inr e) tk = shown_child w d x t n f sh (sym e ∙ tk)

    act_ahead : (z : ℕ) (d : Ev w) (x : ℕ) → s'.Open z → In d (s'.block z) → Shows d x → (r : Ev w) → All s' r → (y : ℕ) → (y ≡ x) ⊎ (y ≡ w.par x) → Takes r y → Ahead z r
    unfolding Ahead
    act_ahead z d x o i sh r a y near tk = go (block_plus w s b s' inv acts z d i) (all_from r a)
      where
        oz : s.Open z
        oz = acts.grows.open_from z o

        old : In d (s.block z) → All s r → Ahead z r
        old j h =
            let k = so.ahead z d x oz j sh r h y near tk in (
              k.0,
              acts.grows.open_to k.0 k.1,
              block_sub w s b s' inv acts k.0 r k.2,
              elim k.3 [ inl p ↦ inl p | inr ar ↦ inr (acts.grows.arrow_old z k.0 ar) ],
            )

        at : In d (s.block z) → r ≡ b → Dec (z ≡ who b) → (z ≡ who b) ⊎ s'.Arrow z (who b)
        at j q (yes p) = inl p
        at j q (no ne) = inr (acts.arrow_new z d oz ne j (takes_conflict b d x y (inv.fine d (inr (z, oz, j))) sh fine_b near (subst (λ c. Takes c y) q tk)))

        go : In d (s.block z) ⊎ ((d ≡ b) × (z ≡ who b)) → All s r ⊎ (r ≡ b) → Ahead z r
        go (inl j) (inl h) = old j h
        go (inl j) (inr q) = (who b, acts.grows.open_to (who b) acts.grows.opened, subst (In r) (sym acts.grows.own) (inl q), at j q (ℕ_discrete z (who b)))
        go (inr p) (inl h) =
            let sb : Shows b x = subst (λ c. Shows c x) p.0 sh in
            let lx = shown_live w (All s) (count (who b) (s.block (who b))) b acts.ok x sb in
            absurd (elim near [ inl e ↦ lx.1 (r, h, subst (Takes r) e tk) | inr e ↦ (so.closed x (shown_nz b x fine_b sb) lx).1 (r, h, subst (Takes r) e tk) ])
        go (inr p) (inr q) = absurd (shows_no_take b x y (subst (λ c. Shows c x) p.0 sh) (subst (λ c. Takes c y) q tk))

    pub act_sound : Sound s'
    unfolding Ahead
    act_sound = record { inv = act_inv w s b s' inv acts; seen = act_seen; closed = act_closed; ahead = act_ahead }

  -- where the events are the same, so is the tree
  live_same : (S R : Ev w → Type 0) → ((e : Ev w) → S e → R e) → ((e : Ev w) → R e → S e) → (x : ℕ) → Live w S x → Live w R x
  live_same S R to from x l = (born_mono w S R to x l.0, λ gn. l.1 (gone_mono w R S from x gn))

  pub start_sound : (s : State w.Path) → Starts s → Sound s
  start_sound s h = record {
    inv = start_inv w s h;
    seen = λ v d x o. absurd (h.no_open v o);
    closed = λ x nz l. (elim l.0 [ inl z ↦ inl (w.first_closed x z nz) | inr t ↦ absurd (none t.0 t.1) ], λ gn. none gn.0 gn.1);
    ahead = λ z d x o. absurd (h.no_open z o);
  }
    where
      none : (e : Ev w) → ¬ (All s e)
      none e (inl i) = elim (subst (In e) h.no_fin i) [ ]
      none e (inr t) = h.no_open t.0 t.1

  module _ (s : State w.Path) (t : ℕ) (s' : State w.Path) (so : Sound s) (b : Begins s t s') where
    begin_all_to : (e : Ev w) → All s e → All s' e
    begin_all_to e (inl i) = inl (subst (In e) (sym b.same_fin) i)
    begin_all_to e (inr (u, o, i)) = inr (u, b.open_to u o, subst (In e) (sym (b.others u (λ p. b.not_open (subst s.Open p o)))) i)

    begin_all_from : (e : Ev w) → All s' e → All s e
    begin_all_from e (inl i) = inl (subst (In e) b.same_fin i)
    begin_all_from e (inr (u, o, i)) = let h = before w s t s' so.inv b u e o i in inr (u, h.0, subst (In e) h.1 i)

    begin_block : (u : ℕ) → s.Open u → (e : Ev w) → In e (s.block u) → In e (s'.block u)
    begin_block u o e i = subst (In e) (sym (b.others u (λ p. b.not_open (subst s.Open p o)))) i

    source_begin : (v x : ℕ) → Source s v x → Source s' v x
    source_begin v x (inl z) = inl z
    source_begin v x (inr (e, m, inl i)) = inr (e, m, inl (subst (In e) (sym b.same_fin) i))
    source_begin v x (inr (e, m, inr (z, o, i, inl p))) = inr (e, m, inr (z, b.open_to z o, begin_block z o e i, inl p))
    source_begin v x (inr (e, m, inr (z, o, i, inr a))) = inr (e, m, inr (z, b.open_to z o, begin_block z o e i, inr (b.arrow_old z v a)))

    pub begin_sound : Sound s'
    begin_sound = record {
      inv = begin_inv w s t s' so.inv b;
      seen = λ v d x o i sh. let h = before w s t s' so.inv b v d o i in source_begin v x (so.seen v d x h.0 (subst (In d) h.1 i) sh);
      closed = λ x nz l. live_same (All s) (All s') begin_all_to begin_all_from (w.par x) (so.closed x nz (live_same (All s') (All s) begin_all_from begin_all_to x l));
      ahead = λ z d x o i sh r a y near tk.
          let h = before w s t s' so.inv b z d o i in
          let k = so.ahead z d x h.0 (subst (In d) h.1 i) sh r (begin_all_from r a) y near tk in
          (k.0, b.open_to k.0 k.1, begin_block k.0 k.1 r k.2, elim k.3 [ inl p ↦ inl p | inr ar ↦ inr (b.arrow_old z k.0 ar) ]);
    }

  module _ (s : State w.Path) (t : ℕ) (s' : State w.Path) (so : Sound s) (f : Finishes s t s') where
    finish_block : (u : ℕ) → u ≢ t → (e : Ev w) → In e (s.block u) → In e (s'.block u)
    finish_block u ne e i = subst (In e) (sym (f.others u ne)) i

    finish_fin : (e : Ev w) → In e s.fin → In e s'.fin
    finish_fin e i = subst (In e) (sym f.grows) (in_right e (s.block t) s.fin i)

    finish_own : (e : Ev w) → In e (s.block t) → In e s'.fin
    finish_own e i = subst (In e) (sym f.grows) (in_left e (s.block t) s.fin i)

    finish_all_to : (e : Ev w) → All s e → All s' e
    finish_all_to e (inl i) = inl (finish_fin e i)
    finish_all_to e (inr (u, o, i)) = go (ℕ_discrete u t)
      where
        go : Dec (u ≡ t) → All s' e
        go (yes p) = inl (finish_own e (subst (λ v. In e (s.block v)) p i))
        go (no ne) = inr (u, f.open_to u o ne, finish_block u ne e i)

    finish_all_from : (e : Ev w) → All s' e → All s e
    finish_all_from e (inl i) = elim (fin_was w s t s' so.inv f e i) [ inl j ↦ inr (t, f.opened, j) | inr j ↦ inl j ]
    finish_all_from e (inr (u, o, i)) = let h = f.open_from u o in inr (u, h.0, subst (In e) (f.others u h.1) i)

    source_finish : (v x : ℕ) → Source s v x → Source s' v x
    source_finish v x (inl z) = inl z
    source_finish v x (inr (e, m, inl i)) = inr (e, m, inl (finish_fin e i))
    source_finish v x (inr (e, m, inr (z, o, i, k))) = inr (e, m, go (ℕ_discrete z t))
      where
        go : Dec (z ≡ t) → In e s'.fin ⊎ ((y : ℕ) × s'.Open y × In e (s'.block y) × ((y ≡ v) ⊎ s'.Arrow y v))
        go (yes p) = inl (finish_own e (subst (λ y. In e (s.block y)) p i))
        go (no ne) = inr (z, f.open_to z o ne, finish_block z ne e i, elim k [ inl p ↦ inl p | inr a ↦ inr (f.arrow_old z v a ne) ])

    pub finish_sound : Sound s'
    finish_sound = record {
      inv = finish_inv w s t s' so.inv f;
      seen = λ v d x o i sh. let h = f.open_from v o in source_finish v x (so.seen v d x h.0 (subst (In d) (f.others v h.1) i) sh);
      closed = λ x nz l. live_same (All s) (All s') finish_all_to finish_all_from (w.par x) (so.closed x nz (live_same (All s') (All s) finish_all_from finish_all_to x l));
      ahead = ahead;
    }
      where
        ahead : (z : ℕ) (d : Ev w) (x : ℕ) → s'.Open z → In d (s'.block z) → Shows d x → (r : Ev w) → All s' r → (y : ℕ) → (y ≡ x) ⊎ (y ≡ w.par x) → Takes r y → (v : ℕ) × s'.Open v × In r (s'.block v) × ((z ≡ v) ⊎ s'.Arrow z v)
        ahead z d x o i sh r a y near tk =
            let h = f.open_from z o in
            let k = so.ahead z d x h.0 (subst (In d) (f.others z h.1) i) sh r (finish_all_from r a) y near tk in
            let ne : k.0 ≢ t = λ p. elim k.3 [ inl q ↦ h.1 (q ∙ p) | inr ar ↦ f.free z (subst (s.Arrow z) p ar) ] in
            (k.0, f.open_to k.0 k.1 ne, finish_block k.0 ne r k.2, elim k.3 [ inl q ↦ inl q | inr ar ↦ inr (f.arrow_old z k.0 ar h.1) ])

  module _ (s : State w.Path) (W : List ℕ) (s' : State w.Path) (so : Sound s) (wd : Withdraws s W s') where
    wd_inv : Inv w s'
    wd_inv = withdraw_inv w s W s' so.inv wd

    wd_block : (u : ℕ) → ¬ (In u W) → (e : Ev w) → In e (s.block u) → In e (s'.block u)
    wd_block u out e i = subst (In e) (sym (wd.others u out)) i

    wd_fin : (e : Ev w) → In e s.fin → In e s'.fin
    wd_fin e i = subst (In e) (sym wd.same_fin) i

    wd_all_from : (e : Ev w) → All s' e → All s e
    wd_all_from e (inl i) = inl (subst (In e) wd.same_fin i)
    wd_all_from e (inr (u, o, i)) = let h = wd.open_from u o in inr (u, h.0, subst (In e) (wd.others u h.1) i)

    -- what is left is no event of an open ticket of W
    left : (e : Ev w) → All s' e → (z : ℕ) → s.Open z → In z W → who e ≢ z
    left e (inl i) z o k p = so.inv.past e (subst (In e) wd.same_fin i) (subst s.Open (sym p) o)
    left e (inr (u, ou, i)) z o k p =
        let h = wd.open_from u ou in
        h.1 (subst (λ y. In y W) (sym p ∙ so.inv.mine u e h.0 (subst (In e) (wd.others u h.1) i)) k)

    source_wd : (v x : ℕ) → ¬ (In v W) → Source s v x → Source s' v x
    source_wd v x out (inl z) = inl z
    source_wd v x out (inr (e, m, inl i)) = inr (e, m, inl (wd_fin e i))
    source_wd v x out (inr (e, m, inr (z, o, i, inl p))) =
        let oz : ¬ (In z W) = λ k. out (subst (λ y. In y W) p k) in
        inr (e, m, inr (z, wd.open_to z o oz, wd_block z oz e i, inl p))
    source_wd v x out (inr (e, m, inr (z, o, i, inr a))) =
        let oz : ¬ (In z W) = λ k. out (wd.closed z v a k) in
        inr (e, m, inr (z, wd.open_to z o oz, wd_block z oz e i, inr (wd.arrow_old z v a oz out)))

    wd_seen : (v : ℕ) (d : Ev w) (x : ℕ) → s'.Open v → In d (s'.block v) → Shows d x → Source s' v x
    wd_seen v d x o i sh = let h = wd.open_from v o in source_wd v x h.1 (so.seen v d x h.0 (subst (In d) (wd.others v h.1) i) sh)

    wd_ahead : (z : ℕ) (d : Ev w) (x : ℕ) → s'.Open z → In d (s'.block z) → Shows d x → (r : Ev w) → All s' r → (y : ℕ) → (y ≡ x) ⊎ (y ≡ w.par x) → Takes r y → (v : ℕ) × s'.Open v × In r (s'.block v) × ((z ≡ v) ⊎ s'.Arrow z v)
    wd_ahead z d x o i sh r a y near tk =
        let h = wd.open_from z o in
        let k = so.ahead z d x h.0 (subst (In d) (wd.others z h.1) i) sh r (wd_all_from r a) y near tk in
        let out : ¬ (In k.0 W) = λ j. left r a k.0 k.1 j (so.inv.mine k.0 r k.1 k.2) in
        (k.0, wd.open_to k.0 k.1 out, wd_block k.0 out r k.2, elim k.3 [ inl q ↦ inl q | inr ar ↦ inr (wd.arrow_old z k.0 ar h.1 out) ])

    -- a node that stands without W, whose parent is taken, was not taken by W
    wd_not_gone : (x : ℕ) → Live w (All s') x → (r : Ev w) → All s' r → Takes r (w.par x) → ¬ (Gone w (All s) x)
    wd_not_gone x l r ar tr (q, inl i, tq) = l.1 (q, inl (wd_fin q i), tq)
    wd_not_gone x l r ar tr (q, inr (z, o, i), tq) = go (in_dec z W)
      where
        kn : Knows (s.block z) x
        kn = subst (Knows (s.block z)) (sym (takes_node w q x tq)) (so.inv.known z q o i)

        known : In z W → Knows (s.block z) x → ⊥
        known k (inl p) = takes_not_root w q x (so.inv.fine q (inr (z, o, i))) tq p
        known k (inr (c, j, inl m)) =
            stranger w (All s') z (λ e a. (wd_inv.fine e a, left e a z o k)) c x (so.inv.fine c (inr (z, o, j))) (so.inv.mine z c o j) m l.0
        known k (inr (c, j, inr sh)) =
            let v = so.ahead z c x o j sh r (wd_all_from r ar) (w.par x) (inr refl) tr in
            let inW : In v.0 W = elim v.3 [ inl p ↦ subst (λ y. In y W) p k | inr a ↦ wd.closed z v.0 a k ] in
            left r ar v.0 v.1 inW (so.inv.mine v.0 r v.1 v.2)

        go : Dec (In z W) → ⊥
        go (yes k) = known k kn
        go (no out) = l.1 (q, inr (z, wd.open_to z o out, wd_block z out q i), tq)

    wd_closed : (x : ℕ) → x ≢ 0 → Live w (All s') x → Live w (All s') (w.par x)
    wd_closed x nz l = (
      born_closed s' wd_inv wd_seen x nz l.0,
      λ gn. (so.closed x nz (born_mono w (All s') (All s) wd_all_from x l.0, wd_not_gone x l gn.0 gn.1 gn.2)).1 (gn.0, wd_all_from gn.0 gn.1, gn.2),
    )

    pub withdraw_sound : Sound s'
    withdraw_sound = record { inv = wd_inv; seen = wd_seen; closed = wd_closed; ahead = wd_ahead }

  -- ── the nodes that no finished ticket removed: each open ticket's, with their parents ──
  module _ (s : State w.Path) (so : Sound s) where
    abbrev pub Kept : ℕ → Type 0
    Kept x = Born w (All s) x × ¬ (Gone w (λ e. In e s.fin) x)

    -- no open ticket was shown what a finished one removed, nor a child of it
    not_shown : (u : ℕ) (d : Ev w) (x y : ℕ) → s.Open u → In d (s.block u) → Shows d x → (y ≡ x) ⊎ (y ≡ w.par x) → ¬ (Gone w (λ e. In e s.fin) y)
    not_shown u d x y o i sh near (r, j, tk) =
        let v = so.ahead u d x o i sh r (inl j) y near tk in
        so.inv.past r j (subst s.Open (sym (so.inv.mine v.0 r v.1 v.2)) v.1)

    not_made : (u : ℕ) (d : Ev w) (x : ℕ) → s.Open u → In d (s.block u) → Makes d x → ¬ (Gone w (λ e. In e s.fin) x)
    not_made u d x o i m gn =
        stranger w (λ e. In e s.fin) u (λ e j. (so.inv.fine e (inl j), λ p. so.inv.past e j (subst s.Open (sym p) o)))
        d x (so.inv.fine d (inr (u, o, i))) (so.inv.mine u d o i) m (takes_born w s.fin (so.inv.runs [] tt) x gn)

    known_not_gone : (u : ℕ) → s.Open u → (n : ℕ) → Knows (s.block u) n → ¬ (Gone w (λ e. In e s.fin) n)
    known_not_gone u o n (inl p) gn = takes_not_root w gn.0 n (so.inv.fine gn.0 (inl gn.1)) gn.2 p
    known_not_gone u o n (inr (d, j, inl m)) gn = not_made u d n o j m gn
    known_not_gone u o n (inr (d, j, inr sh)) gn = not_shown u d n n o j sh (inl refl) gn

    pub kept_known : (u : ℕ) → s.Open u → (n : ℕ) → Knows (s.block u) n → Kept n
    kept_known u o n k = (known_here s so.inv so.seen u o n k, known_not_gone u o n k)

    pub kept_closed : (x : ℕ) → x ≢ 0 → Kept x → Kept (w.par x)
    kept_closed x nz (born, kept) = (born_closed s so.inv so.seen x nz born, λ gn. (so.closed x nz (born, λ gx. taken gn gx)).1 (gn.0, inl gn.1, gn.2))
      where
        by_open : Gone w (λ e. In e s.fin) (w.par x) → (u : ℕ) → s.Open u → Knows (s.block u) x → x ≢ 0 → ⊥
        by_open gn u o (inl p) n0 = n0 p
        by_open gn u o (inr (c, j, inl m)) n0 =
            known_not_gone u o (node c) (so.inv.known u c o j) (subst (Gone w (λ e. In e s.fin)) (makes_under w c x (so.inv.fine c (inr (u, o, j))) m) gn)
        by_open gn u o (inr (c, j, inr sh)) n0 = not_shown u c x (w.par x) o j sh (inr refl) gn

        taken : Gone w (λ e. In e s.fin) (w.par x) → ¬ (Gone w (All s) x)
        taken gn (q, inl i, tq) = kept (q, i, tq)
        taken gn (q, inr (u, o, i), tq) = by_open gn u o (subst (Knows (s.block u)) (sym (takes_node w q x tq)) (so.inv.known u q o i)) nz
