-- Every arrangement of the open tickets of a mixed run replays on trees of nodes, with the same answers and the same tree.
use Rattle.std.proofs.Common.{◌≡◌, ℕ, suc, ◌+◌, ◌*◌, ◌<◌, ◌≤◌, ◌≢◌, ◌⊎◌, List, [], ◌∷◌, sym, refl, ap, ◌∙◌, subst, inl, inr, arith}
use native.Mathlib.Decide.{ℕ_discrete}
use Rattle.path.specs.declared.coded.CodedPath.{CodedPath}
use Rattle.tree.specs.Trees.{Node, node_of}
use Rattle.model.proofs.Events.{Knows, In, Event, ask, add, rem, who, node, Makes, Takes, count, Gone, Live, Ok, Run, All, replay, Begins, Finishes, Withdraws, Arranged}
use Rattle.model.proofs.MixedRun.{Has, Ground, Adds, after, Accepted, Recorded, Standing, Mix, state, TakesTurn, Reach, start, begin, act, finish, withdraw, Agrees}
use Rattle.model.proofs.Counts.{tally_own}
use Rattle.model.proofs.Neighbours.{Fine, ok_fine, grow_closed}
use Rattle.model.proofs.Endings.{arranged_runs, replay_whole, replay_part}
use Rattle.model.proofs.Parents.{Sound, Kept, kept_known, kept_closed, act_sound, start_sound, begin_sound, finish_sound, withdraw_sound}
use Rattle.model.proofs.Forwards.{ends_after, forward}
use Rattle.model.proofs.Tables.{Table, Told, world, accepts_ok, ok_accepts, recorded_named, recorded_noded, standing_named, standing_noded, conflicts_against, run_fine, after_standing, standing_after}

-- ── a plain run with the table is a plain run on trees ──
module _ (g : Ground) (tb : Table g) where
  run_closed : (es : List (Event CodedPath)) → Run (world g tb) es → (x : ℕ) → x ≢ 0 → Live (world g tb) (λ d. In d es) x → Live (world g tb) (λ d. In d es) (tb.par x)
  run_closed [] r x nz (inl z, k) = (inl ((world g tb).first_closed x z nz), λ h. h.1)
  run_closed [] r x nz (inr t, k) = absurd t.1
  run_closed (e ∷ es) r x nz l = grow_closed (world g tb) (λ d. In d es) (λ d. In d (e ∷ es)) (count (who e) es) e r.0 (λ d i. inr i) (λ d i. elim i [ inl q ↦ inr q | inr j ↦ inl j ]) (run_closed es r.1) x nz l

  pub run_accepted : (es : List (Event CodedPath)) → Run (world g tb) es → Accepted g es
  run_accepted [] r = tt
  run_accepted (e ∷ es) r =
      let S : Event CodedPath → Type 0 = λ d. In d es in
      let fine = run_fine g tb es r.1 in (
        ok_accepts g tb (after g es) S
            (λ y a. standing_named g tb S fine y (after_standing g tb es r.1 y a))
            (λ x l. let h = standing_noded g tb S fine x l in (h.0, standing_after g tb es h.0 h.1, h.2))
            (run_closed es r.1) (count (who e) es) e r.0,
        run_accepted es r.1,
      )

-- ── the nodes of a whole mixed run, those of withdrawn tickets too ──
abbrev made : Event CodedPath → List Node → List Node
made (ask t n p found) ns = ns
made (add t n a x) ns = node_of x n a ∷ ns
made (rem t n) ns = ns

made_old : (b : Event CodedPath) (ns : List Node) (y : Node) → In y ns → In y (made b ns)
made_old (ask t n p found) ns y i = i
made_old (add t n a x) ns y i = inr i
made_old (rem t n) ns y i = i

made_new : (b : Event CodedPath) (ns : List Node) (y : Node) → Adds b y → In y (made b ns)
made_new (ask t n p found) ns y h = elim h [ ]
made_new (add t n a x) ns y h = inl h
made_new (rem t n) ns y h = elim h [ ]

module _ (g : Ground) where
  pub history : {m : Mix} → Reach g m → List Node
  history (start m h) = g.first
  history (begin r m' h n) = history r
  history (act r b m' h) = made b (history r)
  history (finish r t m' h n) = history r
  history (withdraw r ts m' h n) = history r

  -- with a table that has all of them, the invariant holds
  reach_sound : (tb : Table g) {m : Mix} (r : Reach g m) → ((y : Node) → In y (history r) → Told g tb y) → Sound (world g tb) (state m)
  unfolding history
  reach_sound tb (start m h) told = start_sound (world g tb) (state m) h
  reach_sound tb (begin {m} r m' h n) told = begin_sound (world g tb) (state m) m.next (state m') (reach_sound tb r told) h
  reach_sound tb (act {m} r b m' h) told = go (reach_sound tb r (λ y i. told y (made_old b (history r) y i)))
    where
      go : Sound (world g tb) (state m) → Sound (world g tb) (state m')
      go so =
          let w = world g tb in
          let S : Event CodedPath → Type 0 = All (state m) in
          let fine = so.inv.fine in
          let k = count (who b) ((state m).block (who b)) in
          let ok : Ok (world g tb) (All (state m)) k b = accepts_ok g tb (Standing g S) S (standing_named g tb S fine) (standing_noded g tb S fine) so.closed k b (λ y a. told y (made_new b (history r) y a)) h.ok in
          act_sound w (state m) b (state m') so (record {
            grows = h.grows;
            ok = ok;
            arrow_new = λ u d o ne i c. h.arrow_new u d o ne i
                (conflicts_against g tb (λ y. In y h.book) (Kept w (state m) so)
                (λ y j. (recorded_named g tb S fine y (h.book_only y j)).1)
                (λ x kx. let z = recorded_noded g tb S fine x kx.0 in (z.0, h.book_has z.0 z.1 (λ gn. kx.1 (subst (Gone w (λ e. In e (state m).fin)) z.2 gn)), z.2))
                (kept_closed w (state m) so) d b
                (kept_known w (state m) so u o (node d) (so.inv.known u d o i)) (fine d (inr (u, o, i)))
                (kept_known w (state m) so (who b) h.grows.opened (node b) h.grows.knows) (ok_fine w S k b ok) c);
          })
  reach_sound tb (finish {m} r t m' h n) told = finish_sound (world g tb) (state m) t (state m') (reach_sound tb r told) h
  reach_sound tb (withdraw {m} r ts m' h n) told = withdraw_sound (world g tb) (state m) ts (state m') (reach_sound tb r told) h

  -- ── no name is given twice ──
  abbrev pub Given : Mix → Node → Type 0
  Given m y = (y.name < g.base * 65536) ⊎ ((u : ℕ) × (j : ℕ) × (y.name ≡ u * 65536 + j) × (j < 65536) × (g.base ≤ u) × (u < m.next) × ((state m).Open u → j ≤ count u ((state m).block u)))

  pub record Numbered (m : Mix) (ns : List Node) : Type 0 where
    pub low : (u : ℕ) → (state m).Open u → u < m.next
    pub given : (y : Node) → In y ns → Given m y
    pub one : (y z : Node) → In y ns → In z ns → y.name ≡ z.name → y ≡ z

  -- what is given stays given, where the counts of the open tickets do not fall
  keeps : (m m' : Mix) → m.next ≤ m'.next → ((u : ℕ) → u < m.next → (state m').Open u → (state m).Open u × (count u ((state m).block u) ≤ count u ((state m').block u))) → (y : Node) → Given m y → Given m' y
  keeps m m' le h y (inl lo) = inl lo
  keeps m m' le h y (inr (u, j, e, jl, ul, un, top)) =
      inr (u, j, e, jl, ul, omega arith, λ o. let k = h u un o in let a = top k.0 in let b = k.1 in omega arith)

  count_up : (m : Mix) (b : Event CodedPath) (m' : Mix) → TakesTurn g m b m' → (u : ℕ) → count u ((state m).block u) ≤ count u ((state m').block u)
  count_up m b m' h u = go (ℕ_discrete u (who b))
    where
      go : Dec (u ≡ who b) → count u ((state m).block u) ≤ count u ((state m').block u)
      go (yes p) = subst (λ v. count v ((state m).block v) ≤ count v ((state m').block v)) (sym p)
          (subst (λ es. count (who b) ((state m).block (who b)) ≤ count (who b) es) (sym h.grows.own) (omega arith))
      go (no ne) = subst (λ es. count u ((state m).block u) ≤ count u es) (sym (h.grows.others u ne)) (omega arith)

  act_keeps : (m : Mix) (b : Event CodedPath) (m' : Mix) → TakesTurn g m b m' → (y : Node) → Given m y → Given m' y
  act_keeps m b m' h = keeps m m' (let e = h.same_next in omega arith) (λ u un o. (h.grows.open_from u o, count_up m b m' h u))

  act_numbered : (m : Mix) (b : Event CodedPath) (m' : Mix) (ns : List Node) → TakesTurn g m b m' → Numbered m ns → Numbered m' (made b ns)
  act_numbered m (ask t n p found) m' ns h num = record {
    low = λ u o. let a = num.low u (h.grows.open_from u o) in let e = h.same_next in omega arith;
    given = λ y i. act_keeps m (ask t n p found) m' h y (num.given y i);
    one = num.one;
  }
  act_numbered m (rem t n) m' ns h num = record {
    low = λ u o. let a = num.low u (h.grows.open_from u o) in let e = h.same_next in omega arith;
    given = λ y i. act_keeps m (rem t n) m' h y (num.given y i);
    one = num.one;
  }
  act_numbered m (add t n a x) m' ns h num = record {
    low = λ u o. let q = num.low u (h.grows.open_from u o) in let e = h.same_next in omega arith;
    given = given;
    one = one;
  }
    where
      k : ℕ
      k = count t ((state m).block t)

      new : Given m' (node_of x n a)
      new =
          let tl : t < m.next = num.low t h.grows.opened in
          let e = h.same_next in
          let tn : t < m'.next = omega arith in
          let tally_one = tally_own CodedPath t n a x in
          let top : suc k ≤ count t ((state m').block t) = subst (λ es. suc k ≤ count t es) (sym h.grows.own) (omega arith) in
          inr (t, suc k, h.ok.3, h.ok.2, h.ok.1, tn, λ o. top)

      given : (y : Node) → In y (node_of x n a ∷ ns) → Given m' y
      given y (inl q) = subst (Given m') (sym q) new
      given y (inr i) = act_keeps m (add t n a x) m' h y (num.given y i)

      other : (z : Node) → In z ns → Given m z → x ≡ z.name → ⊥
      other z i (inl lo) e = let q = h.ok.3 in let o = h.ok.1 in omega arith
      other z i (inr (u, j, zn, jl, ul, un, top)) e =
          let q : x ≡ t * 65536 + suc k = h.ok.3 in
          let kl : suc k < 65536 = h.ok.2 in
          let ut : u ≡ t = omega arith in
          let jk : j ≡ suc k = omega arith in
          let le : j ≤ count t ((state m).block t) = subst (λ v. j ≤ count v ((state m).block v)) ut (top (subst (state m).Open (sym ut) h.grows.opened)) in
          omega arith

      one : (y z : Node) → In y (node_of x n a ∷ ns) → In z (node_of x n a ∷ ns) → y.name ≡ z.name → y ≡ z
      one y z (inl p) (inl q) e = p ∙ sym q
      one y z (inl p) (inr j) e = absurd (other z j (num.given z j) (sym (ap (λ v. v.name) p) ∙ e))
      one y z (inr i) (inl q) e = absurd (other y i (num.given y i) (sym (ap (λ v. v.name) q) ∙ sym e))
      one y z (inr i) (inr j) e = num.one y z i j e

  pub reach_numbered : {m : Mix} (r : Reach g m) → Numbered m (history r)
  unfolding history
  reach_numbered (start m h) = record { low = λ u o. absurd (h.no_open u o); given = λ y i. inl (g.first_low y i); one = g.first_one }
  reach_numbered (begin {m} r m' h e) = go (reach_numbered r)
    where
      go : Numbered m (history r) → Numbered m' (history r)
      go num = record {
        low = λ u o. elim (h.open_from u o) [ inl k ↦ (let a = num.low u k in omega arith) | inr p ↦ omega arith ];
        given = λ y i. keeps m m' (omega arith) (λ u un o. let ne : u ≢ m.next = λ p. omega arith in
            (elim (h.open_from u o) [ inl k ↦ k | inr p ↦ absurd (ne p) ], subst (λ es. count u ((state m).block u) ≤ count u es) (sym (h.others u ne)) (omega arith))) y (num.given y i);
        one = num.one;
      }
  reach_numbered (act {m} r b m' h) = act_numbered m b m' (history r) h (reach_numbered r)
  reach_numbered (finish {m} r t m' h e) = go (reach_numbered r)
    where
      go : Numbered m (history r) → Numbered m' (history r)
      go num = record {
        low = λ u o. let a = num.low u (h.open_from u o).0 in omega arith;
        given = λ y i. keeps m m' (omega arith) (λ u un o. let k = h.open_from u o in
            (k.0, subst (λ es. count u ((state m).block u) ≤ count u es) (sym (h.others u k.1)) (omega arith))) y (num.given y i);
        one = num.one;
      }
  reach_numbered (withdraw {m} r ts m' h e) = go (reach_numbered r)
    where
      go : Numbered m (history r) → Numbered m' (history r)
      go num = record {
        low = λ u o. let a = num.low u (h.open_from u o).0 in omega arith;
        given = λ y i. keeps m m' (omega arith) (λ u un o. let k = h.open_from u o in
            (k.0, subst (λ es. count u ((state m).block u) ≤ count u es) (sym (h.others u k.1)) (omega arith))) y (num.given y i);
        one = num.one;
      }

  pub history_first : {m : Mix} (r : Reach g m) (y : Node) → In y g.first → In y (history r)
  unfolding history
  history_first (start m h) y i = i
  history_first (begin r m' h e) y i = history_first r y i
  history_first (act r b m' h) y i = made_old b (history r) y (history_first r y i)
  history_first (finish r t m' h e) y i = history_first r y i
  history_first (withdraw r ts m' h e) y i = history_first r y i

  -- what is in the history stays there
  pub history_act : {m : Mix} (r : Reach g m) (b : Event CodedPath) (m' : Mix) (h : TakesTurn g m b m') (y : Node) → In y (history r) → In y (history (act r b m' h))
  unfolding history
  history_act r b m' h y i = made_old b (history r) y i

  pub history_new : {m : Mix} (r : Reach g m) (b : Event CodedPath) (m' : Mix) (h : TakesTurn g m b m') (y : Node) → Adds b y → In y (history (act r b m' h))
  unfolding history
  history_new r b m' h y i = made_new b (history r) y i

  pub history_begin : {m : Mix} (r : Reach g m) (m' : Mix) (h : Begins (state m) m.next (state m')) (n : m'.next ≡ suc m.next) (y : Node) → In y (history r) → In y (history (begin r m' h n))
  unfolding history
  history_begin r m' h n y i = i

  pub history_finish : {m : Mix} (r : Reach g m) (t : ℕ) (m' : Mix) (h : Finishes (state m) t (state m')) (n : m'.next ≡ m.next) (y : Node) → In y (history r) → In y (history (finish r t m' h n))
  unfolding history
  history_finish r t m' h n y i = i

  pub history_withdraw : {m : Mix} (r : Reach g m) (ts : List ℕ) (m' : Mix) (h : Withdraws (state m) ts (state m')) (n : m'.next ≡ m.next) (y : Node) → In y (history r) → In y (history (withdraw r ts m' h n))
  unfolding history
  history_withdraw r ts m' h n y i = i

  -- a new name is new
  pub fresh_name : {m : Mix} (r : Reach g m) (t : ℕ) → (state m).Open t → g.base ≤ t → suc (count t ((state m).block t)) < 65536 → (z : Node) → In z (history r) → z.name ≢ t * 65536 + suc (count t ((state m).block t))
  fresh_name {m} r t o lo sm z i e = go ((reach_numbered r).given z i)
    where
      go : Given m z → ⊥
      go (inl lz) = omega arith
      go (inr (u, j, zn, jl, ul, un, top)) =
          let ut : u ≡ t = omega arith in
          let le : j ≤ count t ((state m).block t) = subst (λ v. j ≤ count v ((state m).block v)) ut (top (subst (state m).Open (sym ut) o)) in
          omega arith

-- ── the table of a list of nodes ──
abbrev pick : {A : Type 0} → Dec A → Node → Node → Node
pick (yes p) y z = y
pick (no q) y z = z

abbrev look : List Node → ℕ → Node
look [] x = node_of x 0 0
look (y ∷ ns) x = pick (ℕ_discrete y.name x) y (look ns x)

look_in : (ns : List Node) → ((y z : Node) → In y ns → In z ns → y.name ≡ z.name → y ≡ z) → (y : Node) → In y ns → look ns y.name ≡ y
look_in [] one y i = elim i [ ]
look_in (z ∷ ns) one y i = go (ℕ_discrete z.name y.name) i (look_in ns (λ a b j k. one a b (inr j) (inr k)) y)
  where
    go : (d : Dec (z.name ≡ y.name)) → In y (z ∷ ns) → (In y ns → look ns y.name ≡ y) → pick d z (look ns y.name) ≡ y
    go (yes p) j ih = one z y (inl refl) i p
    go (no q) (inl p) ih = absurd (q (ap (λ v. v.name) (sym p)))
    go (no q) (inr j) ih = ih j

module _ (g : Ground) (m : Mix) (r : Reach g m) where
  ns : List Node
  ns = history g r

  found_in : (y : Node) → In y ns → look ns y.name ≡ y
  unfolding ns
  found_in = look_in (history g r) (reach_numbered g r).one

  tb : Table g
  unfolding ns
  tb = record {
    par = λ x. (look (history g r) x).parent;
    lab = λ x. (look (history g r) x).label;
    has = λ y i. let e = found_in y (history_first g r y i) in (ap (λ v. v.parent) e, ap (λ v. v.label) e);
  }

  sound : Sound (world g tb) (state m)
  unfolding ns tb
  sound = reach_sound g tb r (λ y i. let e = found_in y i in (ap (λ v. v.parent) e, ap (λ v. v.label) e))

  pub agrees : (ts : List ℕ) → Arranged (state m) ts → Agrees g m ts
  agrees ts a = record {
    plays = forward g es (run_accepted g tb es run);
    tree_to = λ y h. to y (subst (λ T. T y) (ends_after g es) h);
    tree_from = λ y h. subst (λ T. T y) (sym (ends_after g es)) (from y h);
  }
    where
      es : List (Event CodedPath)
      es = replay (state m) ts

      run : Run (world g tb) es
      run = arranged_runs (world g tb) (state m) sound.inv ts a

      sub : (e : Event CodedPath) → In e es → All (state m) e
      sub = replay_part (world g tb) (state m) sound.inv ts a

      whole : (e : Event CodedPath) → All (state m) e → In e es
      whole = replay_whole (world g tb) (state m) sound.inv ts a.each

      same : (S R : Event CodedPath → Type 0) → ((e : Event CodedPath) → S e → R e) → ((e : Event CodedPath) → R e → S e) → (y : Node) → Standing g S y → Standing g R y
      same S R p q y (rec, k) = (elim rec [ inl i ↦ inl i | inr t ↦ inr (t.0, p t.0 t.1, t.2) ], λ t. k (t.0, q t.0 t.1, t.2))

      to : (y : Node) → after g es y → Standing g (All (state m)) y
      to y h = same (λ d. In d es) (All (state m)) sub whole y (after_standing g tb es run y h)

      from : (y : Node) → Standing g (All (state m)) y → after g es y
      from y h = standing_after g tb es y (same (All (state m)) (λ d. In d es) whole sub y h)

  -- ── facts of every state that is reached ──
  pub reach_mine : (u : ℕ) (e : Event CodedPath) → (state m).Open u → In e ((state m).block u) → who e ≡ u
  reach_mine = sound.inv.mine

  pub reach_past : (e : Event CodedPath) → In e (state m).fin → ¬ ((state m).Open (who e))
  reach_past = sound.inv.past

  abbrev MadeWell : Event CodedPath → Type 0
  MadeWell e = (x : ℕ) → Makes e x → (g.base ≤ who e) × (j : ℕ) × (j < 65536) × (x ≡ who e * 65536 + j)

  made_well : (e : Event CodedPath) → Fine (world g tb) e → MadeWell e
  made_well (ask t n p found) f x i = elim i [ ]
  made_well (add t n a y) f x i = (f.0, f.1, f.2, i ∙ f.3)
  made_well (rem t n) f x i = elim i [ ]

  pub reach_made : (e : Event CodedPath) → All (state m) e → MadeWell e
  reach_made e a = made_well e (sound.inv.fine e a)

  no_root : (e : Event CodedPath) → Fine (world g tb) e → ¬ (Takes e 0)
  no_root (ask t n p found) f i = i
  no_root (add t n a y) f i = i
  no_root (rem t n) f i = f (sym i)

  -- recorded, and not removed by a finished ticket
  abbrev pub Filed : Node → Type 0
  Filed y = Recorded g (All (state m)) y × ¬ ((e : Event CodedPath) × In e (state m).fin × Takes e y.name)

  kept_filed : (x : ℕ) → Kept (world g tb) (state m) sound x → Has Filed x
  kept_filed x k =
      let z = recorded_noded g tb (All (state m)) sound.inv.fine x k.0 in
      (z.0, (z.1, λ gn. k.1 (subst (Gone (world g tb) (λ e. In e (state m).fin)) z.2 gn)), z.2)

  pub known_filed : (u : ℕ) → (state m).Open u → (n : ℕ) → Knows ((state m).block u) n → Has Filed n
  known_filed u o n k = kept_filed n (kept_known (world g tb) (state m) sound u o n k)

  pub filed_closed : (y : Node) → Filed y → y.name ≢ 0 → Has Filed y.parent
  filed_closed y (rec, ng) nz =
      let q = recorded_named g tb (All (state m)) sound.inv.fine y rec in
      let r = kept_filed (tb.par y.name) (kept_closed (world g tb) (state m) sound y.name nz (q.0, ng)) in
      (r.0, r.1, r.2 ∙ q.1.0)

  pub standing_closed : (y : Node) → Standing g (All (state m)) y → y.name ≢ 0 → Has (Standing g (All (state m))) y.parent
  standing_closed y st nz =
      let q = standing_named g tb (All (state m)) sound.inv.fine y st in
      let r = standing_noded g tb (All (state m)) sound.inv.fine (tb.par y.name) (sound.closed y.name nz q.0) in
      (r.0, r.1, r.2 ∙ q.1.0)

  -- the root stays
  pub root_standing : Standing g (All (state m)) g.first_root.0
  root_standing =
      let z = g.first_root in
      (inl z.1, λ t. no_root t.0 (sound.inv.fine t.0 t.1) (subst (Takes t.0) z.2 t.2))
