-- An accepted action of the model is a turn of the mixed run: its ticket knows the node, and its rivals get arrows.
use Rattle.std.proofs.Common.{◌≡◌, ℕ, true, false, not, ◌&&◌, ◌||◌, eqb, ltb, ◌≢◌, ◌⊎◌, List, [], ◌∷◌, ◌++◌, map, length, is_some, Some, None, Option, sym, refl, ap, ◌∙◌, subst, inl, inr}
use native.Mathlib.Decide.{ℕ_discrete}
use Rattle.std.proofs.lemmas.Bool.{true≢false, eqb-true, eqb-false, eq-eqb, ne_eqb, or_cases, or_left, or_right, and_parts, and_from, not-true, not-false, not_from_false, ltb-true, lt-ltb}
use Rattle.words.specs.Words.{bit}
use Rattle.path.specs.declared.coded.CodedPath.{CodedPath}
use Rattle.tree.specs.Trees.{Depth, Node, actual, bare, live, nodes}
use Rattle.tree.specs.declared.record.Record.{Record}
use Rattle.tree.specs.Lists.{keep, some_of}
use Rattle.tree.specs.Records.{look, over, rises}
use Rattle.tree.proofs.Look.{in_has}
use Rattle.model.specs.Paths.{fits, fits_any}
use Rattle.model.specs.Ways.{way}
use Rattle.model.specs.Rules.{Action, Answer, adds, asks, removes}
use Rattle.model.specs.Locks.{Held, conflict, fits_way, locks_of, removal_locks}
use Rattle.model.specs.Scheduler.{Model, acts, not_open, place_of}
use Rattle.model.specs.Changes.{grant, rivals}
use Rattle.model.specs.Refusals.{marked, unknown}
use Rattle.model.specs.History.{Log, accepted, actor, block}
use Rattle.model.proofs.Events.{In, Event, ask, add, rem, Lock, read, write, who, node, Makes, Takes, Shows, Knows, count, State, All, Grows}
use Rattle.model.proofs.MixedRun.{Has, Below, self, under, Ground, Accepts, Locks, Tail, Collide, Against, Recorded, Standing, TakesTurn}
use Rattle.model.proofs.Keys.{some_true, true_some, keep_from, keep_to, map_to, map_from, key_one, keep_up, Rising, Up, Over}
use Rattle.model.proofs.Ways.{below_way, at_self}
use Rattle.model.proofs.PlainRules.{depth_part}
use Rattle.model.proofs.Tied.{event_of, events, st, mix, Booked, Books, Seats, Tied, seat_of, look_in, block_own, block_other}
use Rattle.model.proofs.Replays.{history, reach_numbered, standing_closed}

pub names_nodes : (rs : List Record) → map (λ (y : Node). y.name) (nodes rs) ≡ map (λ (r : Record). r.name) rs
names_nodes [] = refl
names_nodes (r ∷ rs) = ap (λ ns. r.name ∷ ns) (names_nodes rs)

-- the test that records rise, and rising names
pub rises_up : (rs : List Record) → rises rs ≡ true → Rising (nodes rs)
rises_up [] h = tt
rises_up (r ∷ rs) h = let p = and_parts (over r.name rs) (rises rs) h in (above rs p.0, rises_up rs p.1)
  where
    above : (xs : List Record) → over r.name xs ≡ true → Over r.name (map (λ (y : Node). y.name) (nodes xs))
    above [] o = tt
    above (x ∷ xs) o = let p = and_parts (ltb r.name x.name) (over r.name xs) o in (ltb-true r.name x.name p.0, above xs p.1)

pub up_rises : (rs : List Record) → Rising (nodes rs) → rises rs ≡ true
up_rises [] u = refl
up_rises (r ∷ rs) u = and_from (over r.name rs) (rises rs) (above rs u.0) (up_rises rs u.1)
  where
    above : (xs : List Record) → Over r.name (map (λ (y : Node). y.name) (nodes xs)) → over r.name xs ≡ true
    above [] o = refl
    above (x ∷ xs) o = and_from (ltb r.name x.name) (over r.name xs) (lt-ltb r.name x.name o.0) (above xs o.1)

pub who_event : (b : Action) (a : Answer) → who (event_of b a) ≡ actor b
who_event (asks t n p) a = refl
who_event (adds t n c) a = refl
who_event (removes t n) a = refl

-- every way in a tree is found
pub tree_way : (ys : List Node) → Rising ys → ((y : Node) → In y ys → (d : ℕ) × Depth ys y.name d) → (n m : ℕ) (ls : List ℕ) → Below (λ y. In y ys) n m ls → way ys n m ≡ Some ls
tree_way ys up leads n m ls b = go b
  where
    go : {x : ℕ} {ks : List ℕ} → Below (λ y. In y ys) n x ks → way ys n x ≡ Some ks
    go self = at_self ys up (length ys) n
    go (under {ls} y i nz c) = below_way ys up n y.name (ls ++ (y.label ∷ [])) (leads y i) (under y i nz c)

module _ (g : Ground) (gf : g.fits ≡ fits) (ga : g.fits_any ≡ fits_any) (h : Log) (m : Model) (nx : ℕ) (ti : Tied g h m nx) where
  abbrev S : State CodedPath
  S = st h m

  abbrev N : List Node
  N = nodes m.records

  abbrev hist : List Node
  hist = history g ti.reach

  abbrev bk : Books g (st h m) (history g ti.reach) m.tickets m.records
  bk = ti.books

  abbrev sts : Seats g (st h m) (history g ti.reach) m
  sts = ti.seats

  pub nodes_up : Rising N
  nodes_up = subst Up (sym (names_nodes m.records)) bk.up

  -- ── the actual tree is the standing one ──
  pub standing_actual : (y : Node) → Standing g (All S) y → In y (actual m.records)
  standing_actual y (rec, k) = go (map_from bare m.records y (bk.to y rec (λ t. k (t.0, inl t.1, t.2))))
    where
      go : (r : Record) × In r m.records × (y ≡ bare r) → In y (actual m.records)
      go (r, i, e) = side (ℕ_discrete r.mark 0)
        where
          side : Dec (r.mark ≡ 0) → In y (actual m.records)
          side (yes z) = subst (λ v. In v (actual m.records)) (sym e) (map_to bare (keep live m.records) r (keep_to live m.records r i (eq-eqb r.mark 0 z)))
          side (no nz) =
              let q = bk.mark_by r i nz in
              absurd (k (q.1, inr (r.mark, q.0, q.2), subst (Takes q.1) (sym (ap (λ (v : Node). v.name) e)) q.3))

  pub actual_standing : (y : Node) → In y (actual m.records) → Standing g (All S) y
  actual_standing y i = go (map_from bare (keep live m.records) y i)
    where
      go : (r : Record) × In r (keep live m.records) × (y ≡ bare r) → Standing g (All S) y
      go (r, j, e) =
          let q = keep_from live m.records r j in
          let f = bk.from r q.0 in
          subst (Standing g (All S)) (sym e) (f.0, λ t. gone t.0 t.1 t.2)
        where
          gone : (d : Event CodedPath) → All S d → Takes d r.name → ⊥
          gone d (inl k) tk = (bk.from r (keep_from live m.records r j).0).1 (d, k, tk)
          gone d (inr (u, o, k)) tk =
              let q = keep_from live m.records r j in
              o.0 (sym (bk.mark_of r q.0 u d o k tk) ∙ eqb-true r.mark 0 q.1)

  pub actual_up : Rising (actual m.records)
  actual_up = subst Up (sym (names_nodes (keep live m.records))) (keep_up (λ (r : Record). r.name) live m.records bk.up)

  actual_node : (y : Node) → In y (actual m.records) → In y N
  actual_node y i = let q = map_from bare (keep live m.records) y i in
      subst (λ v. In v N) (sym q.2) (map_to bare m.records q.0 (keep_from live m.records q.0 q.1).0)

  pub actual_leads : (y : Node) → In y (actual m.records) → (d : ℕ) × Depth (actual m.records) y.name d
  actual_leads y i =
      let q = bk.leads y (actual_node y i) in
      (q.0, depth_part N (actual m.records) L same up q.1 (y, i, refl))
    where
      L : ℕ → Type 0
      L n = Has (λ z. In z (actual m.records)) n

      same : (z : Node) → In z N → L z.name → In z (actual m.records)
      same z j (w, k, e) = subst (λ v. In v (actual m.records)) (key_one (λ (v : Node). v.name) N nodes_up w z (actual_node w k) j e) k

      up : (z : Node) → In z N → z.name ≢ 0 → L z.name → L z.parent
      up z j nz l =
          let c = standing_closed g (mix h m nx) ti.reach z (actual_standing z (same z j l)) nz in
          (c.0, standing_actual c.0 c.1, c.2)

  -- ── what the tests say of the node ──
  pub node_known : (t n : ℕ) → m.tickets (place_of m t) ≡ t → t ≢ 0 → unknown (look n m.records) n (place_of m t) ≡ false → marked (look n m.records) ≡ false
      → (r : Record) × (look n m.records ≡ Some r) × In r m.records × (r.name ≡ n) × (r.mark ≡ 0) × Knows (S.block t) n × Has (Standing g (All S)) n
  node_known t n seat t0 = go (look n m.records) refl
    where
      Out : Type 0
      Out = (r : Record) × (look n m.records ≡ Some r) × In r m.records × (r.name ≡ n) × (r.mark ≡ 0) × Knows (S.block t) n × Has (Standing g (All S)) n

      go : (o : Option Record) → look n m.records ≡ o → unknown o n (place_of m t) ≡ false → marked o ≡ false → Out
      go None e un mk = absurd (true≢false un)
      go (Some r) e un mk =
          let q = look_in m.records n r e in
          let lv : live r ≡ true = not-false (live r) mk in
          let st : In (bare r) (actual m.records) = map_to bare (keep live m.records) r (keep_to live m.records r q.0 lv) in
          (r, e, q.0, q.1, eqb-true r.mark 0 lv, kn (or_cases (eqb n 0) (bit r.note (place_of m t)) (not-false (eqb n 0 || bit r.note (place_of m t)) un)), (bare r, actual_standing (bare r) st, q.1))
        where
          kn : (eqb n 0 ≡ true) ⊎ (bit r.note (place_of m t) ≡ true) → Knows (S.block t) n
          kn (inl z) = inl (eqb-true n 0 z)
          kn (inr noted) =
              let q = look_in m.records n r e in
              let k = bk.note_known r q.0 (place_of m t) noted (λ z. t0 (sym seat ∙ z)) in
              inr (k.0, subst (λ u. In k.0 (S.block u)) seat k.1, subst (λ v. Makes k.0 v ⊎ Shows k.0 v) q.1 k.2)

  -- ── conflicts ──
  tail_fits : (n mm : ℕ) (p : CodedPath) (f : Option ℕ) (ls : List ℕ) → Below (λ y. In y N) n mm ls → Tail g ls f p → fits_way (way N n mm) f p ≡ true
  tail_fits n mm p None ls b t = ap (λ o. fits_way o None p) (tree_way N nodes_up bk.leads n mm ls b) ∙ subst (λ f. f ls p ≡ true) ga t
  tail_fits n mm p (Some c) ls b t = ap (λ o. fits_way o (Some c) p) (tree_way N nodes_up bk.leads n mm ls b) ∙ subst (λ f. f (ls ++ (c ∷ [])) p ≡ true) gf t

  collide_conflict : (l k : Lock CodedPath) → Collide g (λ y. In y N) l k → conflict N l k ≡ true
  collide_conflict (read n p) (read mm q) c = elim c [ ]
  collide_conflict (read n p) (write mm f) (ls, b, t) = tail_fits n mm p f ls b t
  collide_conflict (write mm f) (read n p) (ls, b, t) = tail_fits n mm p f ls b t
  collide_conflict (write mm f) (write n k) c = elim c [ ]

  -- the locks of an open ticket's event are in the book
  booked_lock : (i : ℕ) (d : Event CodedPath) (l : Lock CodedPath) → Booked hist m.locks i d → Locks g (λ y. In y N) d l → In (record { holder = i; lock = l }) m.locks
  booked_lock i (ask t n p xs) l bo e = subst (λ v. In (record { holder = i; lock = v }) m.locks) (sym e) bo
  booked_lock i (add t n c x) l bo e = subst (λ v. In (record { holder = i; lock = v }) m.locks) (sym e) bo
  booked_lock i (rem t n) l bo (inl e) = subst (λ v. In (record { holder = i; lock = v }) m.locks) (sym e) bo.0
  booked_lock i (rem t n) l bo (inr (y, j, nm, e)) =
      let z = bo.1 in
      let same : z.0 ≡ y = (reach_numbered g ti.reach).one z.0 y z.1 (bk.listed y j) (z.2 ∙ sym nm) in
      subst (λ v. In (record { holder = i; lock = v }) m.locks) (sym e)
      (subst (λ (v : Node). In (record { holder = i; lock = write v.parent (Some v.label) }) m.locks) same z.3)

  -- the locks that the action needs are those that the model takes
  pub needed : (b : Action) (a : Answer) (k : Lock CodedPath) → Locks g (λ y. In y N) (event_of b a) k → In k (locks_of m.records b)
  needed (asks t n p) a k e = inl e
  needed (adds t n c) a k e = inl e
  needed (removes t n) a k e = go (look n m.records) refl e
    where
      go : (o : Option Record) → look n m.records ≡ o → (k ≡ write n None) ⊎ ((y : Node) × In y N × (y.name ≡ n) × (k ≡ write y.parent (Some y.label))) → In k (removal_locks o n)
      go None w (inl p) = inl p
      go (Some r) w (inl p) = inl p
      go None w (inr (y, j, nm, p)) =
          let q = map_from bare m.records y j in
          let there = in_has m.records q.0 q.1 in
          let same : q.0.name ≡ n = sym (ap (λ (v : Node). v.name) q.2) ∙ nm in
          absurd (true≢false (sym there ∙ ap (λ x. is_some (look x m.records)) same ∙ ap is_some w))
      go (Some r) w (inr (y, j, nm, p)) =
          let q = look_in m.records n r w in
          let same : y ≡ bare r = key_one (λ (v : Node). v.name) N nodes_up y (bare r) j (map_to bare m.records r q.0) (nm ∙ sym q.1) in
          inr (inl (p ∙ ap (λ (v : Node). write v.parent (Some v.label)) same))

  -- ── a rival is another open place ──
  pub rival_open : (p : ℕ) (ls : List (Lock CodedPath)) (i : ℕ) → rivals m p ls i ≡ true → (m.tickets i ≢ 0) × (i ≢ p)
  rival_open p ls i e =
      let r = some_true (λ k. eqb k.holder i && not (eqb i p) && some_of (conflict N k.lock) ls) m.locks e in
      let k : Held = r.0 in
      let q = and_parts (eqb k.holder i && not (eqb i p)) (some_of (conflict N k.lock) ls) r.2 in
      let s = and_parts (eqb k.holder i) (not (eqb i p)) q.0 in
      (subst (λ v. m.tickets v ≢ 0) (eqb-true k.holder i s.0) (sts.held k r.1), eqb-false i p (not-true (eqb i p) s.1))

  module _ (room : ℕ) (b : Action) (a : Answer) (rs : List Record) (added : ℕ → ℕ) (acc : accepted a ≡ true) (op : not_open m (actor b) ≡ false) where
    abbrev pub e : Event CodedPath
    e = event_of b a

    abbrev p : ℕ
    p = place_of m (actor b)

    abbrev ls : List (Lock CodedPath)
    ls = locks_of m.records b

    abbrev m' : Model
    m' = grant m (place_of m (actor b)) (locks_of m.records b) rs added

    abbrev h' : Log
    h' = (acts room b, a) ∷ h

    pub seat : m.tickets p ≡ actor b
    seat = (seat_of m (actor b) op).1

    pub t0 : actor b ≢ 0
    t0 = (seat_of m (actor b) op).0

    we : who (event_of b a) ≡ actor b
    we = who_event b a

    pub grows : Knows (S.block (actor b)) (node (event_of b a)) → Grows S (event_of b a) (st h' m')
    grows kn = record {
      opened = subst S.Open (sym we) (t0, p, seat);
      knows = subst (λ u. Knows (S.block u) (node (event_of b a))) (sym we) kn;
      own = subst (λ u. events (block u h') ≡ event_of b a ∷ events (block u h)) (sym we) (ap events (block_own room b a h acc));
      others = λ u ne. ap events (block_other room b a h u (λ q. ne (q ∙ sym we)));
      same_fin = refl;
      open_to = λ u o. o;
      open_from = λ u o. o;
      arrow_old = λ u v x. (x.0, x.1, x.2, x.3, or_left (m.arrows x.0 x.1) (eqb x.1 p && rivals m p ls x.0) x.4);
      arrow_only = λ u v x. only u v x.0 x.1 x.2 x.3 (or_cases (m.arrows x.0 x.1) (eqb x.1 p && rivals m p ls x.0) x.4);
    }
      where
        only : (u v i j : ℕ) → m.tickets i ≡ u → m.tickets j ≡ v → (m.arrows i j ≡ true) ⊎ ((eqb j p && rivals m p ls i) ≡ true) → S.Arrow u v ⊎ ((v ≡ who (event_of b a)) × S.Open u × (u ≢ who (event_of b a)))
        only u v i j eu ev (inl x) = inl (i, j, eu, ev, x)
        only u v i j eu ev (inr x) =
            let q = and_parts (eqb j p) (rivals m p ls i) x in
            let r = rival_open p ls i q.1 in
            let jp = eqb-true j p q.0 in
            inr (
              sym ev ∙ ap m.tickets jp ∙ seat ∙ sym we,
              (λ z. r.0 (eu ∙ z), i, eu),
              λ z. r.1 (sts.place_one i p (eu ∙ z ∙ we ∙ sym seat) r.0),
            )

    pub turn : Knows (S.block (actor b)) (node (event_of b a)) → Accepts g (Standing g (All S)) (count (who (event_of b a)) (S.block (who (event_of b a)))) (event_of b a) → TakesTurn g (mix h m nx) (event_of b a) (mix h' m' nx)
    turn kn ok = record {
      grows = grows kn;
      ok = ok;
      book = N;
      book_has = λ y rc ng. bk.to y rc ng;
      book_only = λ y i. let q = map_from bare m.records y i in subst (Recorded g (All S)) (sym q.2) (bk.from q.0 q.1).0;
      arrow_new = new;
      same_next = refl;
    }
      where
        new : (u : ℕ) (d : Event CodedPath) → S.Open u → u ≢ who (event_of b a) → In d (S.block u) → Against g (λ y. In y N) d (event_of b a) → (st h' m').Arrow u (who (event_of b a))
        new u d (u0, i, eu) ne j (l, ld, k, lk, c) = (i, p, eu, seat ∙ sym we, or_right (m.arrows i p) (eqb p p && rivals m p ls i) (and_from (eqb p p) (rivals m p ls i) (eq-eqb p p refl) riv))
          where
            held : In (record { holder = i; lock = l }) m.locks
            held = booked_lock i d l (sts.booked i (λ z. u0 (sym eu ∙ z)) d (subst (λ v. In d (S.block v)) (sym eu) j)) ld

            ip : i ≢ p
            ip z = ne (sym eu ∙ ap m.tickets z ∙ seat ∙ sym we)

            riv : rivals m p ls i ≡ true
            riv = true_some (λ k. eqb k.holder i && not (eqb i p) && some_of (conflict N k.lock) ls) m.locks (record { holder = i; lock = l }) held
                (and_from (eqb i i && not (eqb i p)) (some_of (conflict N l) ls)
                (and_from (eqb i i) (not (eqb i p)) (eq-eqb i i refl) (not_from_false (eqb i p) (ne_eqb i p ip)))
                (true_some (conflict N l) ls k (needed b a k lk) (collide_conflict l k c)))
