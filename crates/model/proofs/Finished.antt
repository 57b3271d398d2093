-- Freed places, and that a finish keeps the tie.
use Rattle.std.proofs.Common.{◌≡◌, ℕ, ◌+◌, ◌*◌, ◌<◌, ◌≤◌, true, false, not, ◌&&◌, eqb, ltb, ◌≢◌, ◌⊎◌, List, [], ◌∷◌, ◌++◌, Some, None, sym, refl, ap, ◌∙◌, subst, inl, inr, arith}
use native.Mathlib.Decide.{ℕ_discrete}
use Rattle.std.proofs.lemmas.Bool.{both_ways, eqb-false, ne_eqb, and_parts, and_from, cases_Bool, not-true, not_from_false, cond-true, cond-false, and_left, and_right, not_from_true}
use Rattle.words.specs.Words.{bit}
use Rattle.words.proofs.Sets.{bit_word}
use Rattle.path.specs.declared.coded.CodedPath.{CodedPath}
use Rattle.tree.specs.Trees.{Depth, Node, bare, nodes}
use Rattle.tree.specs.declared.record.Record.{Record}
use Rattle.tree.specs.Lists.{keep, some_of}
use Rattle.model.specs.Numbers.{member, places}
use Rattle.model.specs.Paths.{fits, fits_any}
use Rattle.model.specs.Rules.{finished}
use Rattle.model.specs.Locks.{Held}
use Rattle.model.specs.Arrows.{arrow_into}
use Rattle.model.specs.Scheduler.{Model, finishes, not_open, place_of}
use Rattle.model.specs.Changes.{free, forgets}
use Rattle.model.specs.History.{Log, block, past}
use Rattle.model.proofs.Events.{In, Event, ask, add, rem, read, write, Makes, Takes, Shows, count, State, All, Finishes}
use Rattle.model.proofs.MixedRun.{Has, Ground, Reach, Recorded, finish}
use Rattle.model.proofs.Lists.{in_append, in_left, in_right, map_append, map_length, keep_length}
use Rattle.model.proofs.Keys.{some_false, keep_from, keep_to, map_to, map_from, map_up, key_one, keep_up, member_in, not_member, Up}
use Rattle.model.proofs.Tied.{event, events, st, mix, Booked, Books, Seats, Tied, seat_of, takes_listed}
use Rattle.model.proofs.PlainRules.{depth_part}
use Rattle.model.proofs.Turn.{nodes_up}
use Rattle.model.proofs.Replays.{history, history_finish, reach_numbered, reach_mine, filed_closed}
use Rattle.model.proofs.Reached.{place_to}

-- a note bit that is left was there, and is of no freed place
pub forgets_note : (ps : List ℕ) (r : Record) (i : ℕ) → bit (forgets ps r).note i ≡ (ltb i 32 && (bit r.note i && not (member i ps)))
forgets_note ps r i = bit_word (λ k. bit r.note k && not (member k ps)) i

module _ (g : Ground) (gf : g.fits ≡ fits) (ga : g.fits_any ≡ fits_any) (h : Log) (m : Model) (nx : ℕ) (ti : Tied g h m nx) where
  abbrev S : State CodedPath
  S = st h m

  abbrev R : List Record
  R = m.records

  abbrev bk : Books g (st h m) (history g ti.reach) m.tickets m.records
  bk = ti.books

  abbrev sts : Seats g (st h m) (history g ti.reach) m
  sts = ti.seats

  -- ── freed places ──
  module _ (ps : List ℕ) (rs : List Record) (k : ℕ) where
    abbrev m' : Model
    m' = free m ps rs k

    pub freed_off : (i : ℕ) → m'.tickets i ≢ 0 → ¬ (In i ps) × (m'.tickets i ≡ m.tickets i) × (m.tickets i ≢ 0)
    freed_off i nz = go (cases_Bool (member i ps))
      where
        go : (member i ps ≡ true) ⊎ (member i ps ≡ false) → ¬ (In i ps) × (m'.tickets i ≡ m.tickets i) × (m.tickets i ≢ 0)
        go (inl e) = absurd (nz (cond-true (member i ps) 0 (m.tickets i) e))
        go (inr e) = let c = cond-false (member i ps) 0 (m.tickets i) e in (not_member i ps e, c, λ z. nz (c ∙ z))

    pub kept_on : (i : ℕ) → ¬ (In i ps) → (m'.tickets i ≡ m.tickets i) × (m'.added i ≡ m.added i)
    kept_on i out = go (cases_Bool (member i ps))
      where
        go : (member i ps ≡ true) ⊎ (member i ps ≡ false) → (m'.tickets i ≡ m.tickets i) × (m'.added i ≡ m.added i)
        go (inl e) = absurd (out (member_in i ps e))
        go (inr e) = (cond-false (member i ps) 0 (m.tickets i) e, cond-false (member i ps) 0 (m.added i) e)

    pub freed_arrow : (i j : ℕ) → m'.arrows i j ≡ true → (m.arrows i j ≡ true) × ¬ (In i ps) × ¬ (In j ps)
    freed_arrow i j x =
        let q = and_parts (m.arrows i j && not (member i ps)) (not (member j ps)) x in
        let r = and_parts (m.arrows i j) (not (member i ps)) q.0 in
        (r.0, not_member i ps (not-true (member i ps) r.1), not_member j ps (not-true (member j ps) q.1))

    pub kept_arrow : (i j : ℕ) → m.arrows i j ≡ true → ¬ (In i ps) → ¬ (In j ps) → m'.arrows i j ≡ true
    kept_arrow i j x oi oj = and_from (m.arrows i j && not (member i ps)) (not (member j ps)) (and_from (m.arrows i j) (not (member i ps)) x (out i oi)) (out j oj)
      where
        out : (n : ℕ) → ¬ (In n ps) → not (member n ps) ≡ true
        out n o = go (cases_Bool (member n ps))
          where
            go : (member n ps ≡ true) ⊎ (member n ps ≡ false) → not (member n ps) ≡ true
            go (inl e) = absurd (o (member_in n ps e))
            go (inr e) = not_from_false (member n ps) e

    -- open before, and not at a freed place
    pub open_was : (u : ℕ) → (u ≢ 0) × (i : ℕ) × (m'.tickets i ≡ u) → (u ≢ 0) × (i : ℕ) × (m.tickets i ≡ u) × ¬ (In i ps)
    open_was u (u0, i, e) = let q = freed_off i (λ z. u0 (sym e ∙ z)) in (u0, i, sym q.1 ∙ e, q.0)

    pub open_still : (u i : ℕ) → u ≢ 0 → m.tickets i ≡ u → ¬ (In i ps) → (u ≢ 0) × (j : ℕ) × (m'.tickets j ≡ u)
    open_still u i u0 e out = (u0, i, (kept_on i out).0 ∙ e)

    module _ (h' : Log) (same : (u : ℕ) → block u h' ≡ block u h) (hist' : List Node) (wider_hist : (y : Node) → In y (history g ti.reach) → In y hist') where
      keeps_lock : (q : Held) → In q m.locks → ¬ (In q.holder ps) → In q m'.locks
      keeps_lock q i out = keep_to (λ (v : Held). not (member v.holder ps)) m.locks q i (go (cases_Bool (member q.holder ps)))
        where
          go : (member q.holder ps ≡ true) ⊎ (member q.holder ps ≡ false) → not (member q.holder ps) ≡ true
          go (inl e) = absurd (out (member_in q.holder ps e))
          go (inr e) = not_from_false (member q.holder ps) e

      booked_kept : (i : ℕ) (d : Event CodedPath) → ¬ (In i ps) → Booked (history g ti.reach) m.locks i d → Booked hist' m'.locks i d
      booked_kept i (ask t n q xs) out bo = keeps_lock (record { holder = i; lock = read n q }) bo out
      booked_kept i (add t n c x) out bo = keeps_lock (record { holder = i; lock = write n (Some c) }) bo out
      booked_kept i (rem t n) out bo =
          let z = bo.1 in
          (keeps_lock (record { holder = i; lock = write n None }) bo.0 out, (z.0, wider_hist z.0 z.1, z.2, keeps_lock (record { holder = i; lock = write z.0.parent (Some z.0.label) }) z.3 out))

      in_same : (u : ℕ) (d : Event CodedPath) → In d (events (block u h)) → In d (events (block u h'))
      in_same u d i = subst (λ xs. In d (events xs)) (sym (same u)) i

      in_was : (u : ℕ) (d : Event CodedPath) → In d (events (block u h')) → In d (events (block u h))
      in_was u d i = subst (λ xs. In d (events xs)) (same u) i

      pub freed_seats : Seats g (st h' m') hist' m'
      freed_seats = record {
        place_one = λ i j e nz. let q = freed_off i nz in let r = freed_off j (λ z. nz (e ∙ z)) in sts.place_one i j (sym q.1 ∙ e ∙ r.1) q.2;
        place_low = λ i nz. sts.place_low i (freed_off i nz).2;
        first_low = λ i nz. let q = freed_off i nz in subst (λ v. g.base ≤ v) (sym q.1) (sts.first_low i q.2);
        added_count = λ i nz. let q = freed_off i nz in (kept_on i q.0).1 ∙ sts.added_count i q.2 ∙ ap (λ u. count u (S.block u)) (sym q.1) ∙ ap (λ xs. count (m'.tickets i) (events xs)) (sym (same (m'.tickets i)));
        numbers = λ i nz j lo hi. let q = freed_off i nz in
            let r = sts.numbers i q.2 j lo (subst (λ v. j ≤ v) (kept_on i q.0).1 hi) in
            (r.0, in_same (m'.tickets i) r.0 (subst (λ u. In r.0 (S.block u)) (sym q.1) r.1), subst (λ u. Makes r.0 (u * 65536 + j)) (sym q.1) r.2);
        held = λ v i. let q = keep_from (λ (v : Held). not (member v.holder ps)) m.locks v i in
            let out = not_member v.holder ps (not-true (member v.holder ps) q.1) in
            λ z. sts.held v q.0 (sym (kept_on v.holder out).0 ∙ z);
        booked = λ i nz d j. let q = freed_off i nz in booked_kept i d q.0 (sts.booked i q.2 d (subst (λ u. In d (S.block u)) q.1 (in_was (m'.tickets i) d j)));
        arrow_ends = λ i j x. let q = freed_arrow i j x in let r = sts.arrow_ends i j q.0 in
            (λ z. r.0 (sym (kept_on i q.1).0 ∙ z), λ z. r.1 (sym (kept_on j q.2).0 ∙ z));
      }

  -- ── finish ──
  module _ (t : ℕ) (op : not_open m t ≡ false) (no_in : arrow_into m.arrows (place_of m t) ≡ false) where
    abbrev p : ℕ
    p = place_of m t

    abbrev ps : List ℕ
    ps = place_of m t ∷ []

    abbrev k1 : List Record
    k1 = keep (λ r. not (eqb r.mark t)) R

    abbrev mf : Model
    mf = free m (place_of m t ∷ []) (keep (λ r. not (eqb r.mark t)) m.records) 1

    abbrev hf : Log
    hf = (finishes t, finished (m.done + 1)) ∷ h

    abbrev Sf : State CodedPath
    Sf = st hf mf

    seat_t : m.tickets p ≡ t
    seat_t = (seat_of m t op).1

    t≢0 : t ≢ 0
    t≢0 = (seat_of m t op).0

    p≢0 : m.tickets p ≢ 0
    p≢0 z = t≢0 (sym seat_t ∙ z)

    off_p : (i : ℕ) → i ≢ p → ¬ (In i ps)
    off_p i ne (inl e) = ne e
    off_p i ne (inr e) = e

    no_arrow : (i : ℕ) → m.arrows i p ≡ true → ⊥
    no_arrow i x =
        let none_in : some_of (λ j. m.arrows j p) places ≡ false = no_in in
        both_ways (m.arrows i p) (some_false (λ j. m.arrows j p) places none_in i (place_to i (sts.place_low i (sts.arrow_ends i p x).0))) x

    fin_is : events (past hf) ≡ events (block t h) ++ events (past h)
    fin_is = map_append event (block t h) (past h)

    fins : Finishes S t Sf
    fins = record {
      opened = (t≢0, p, seat_t);
      free = λ u x. no_arrow x.0 (subst (λ j. m.arrows x.0 j ≡ true) (sts.place_one x.1 p (x.3 ∙ sym seat_t) (λ z. t≢0 (sym x.3 ∙ z))) x.4);
      grows = fin_is;
      others = λ u ne. refl;
      open_to = λ u o ne. open_still ps k1 1 u o.1 o.0 o.2 (off_p o.1 (λ z. ne (sym o.2 ∙ ap m.tickets z ∙ seat_t)));
      open_from = λ u o. let q = open_was ps k1 1 u o in ((q.0, q.1, q.2), λ z. q.3 (inl (sts.place_one q.1 p (q.2 ∙ z ∙ sym seat_t) (λ w. q.0 (sym q.2 ∙ w)))));
      arrow_old = λ u v x ne. let oi = off_p x.0 (λ z. ne (sym x.2 ∙ ap m.tickets z ∙ seat_t)) in
          let oj = off_p x.1 (λ z. no_arrow x.0 (subst (λ j. m.arrows x.0 j ≡ true) z x.4)) in
          (x.0, x.1, (kept_on ps k1 1 x.0 oi).0 ∙ x.2, (kept_on ps k1 1 x.1 oj).0 ∙ x.3, kept_arrow ps k1 1 x.0 x.1 x.4 oi oj);
      arrow_only = λ u v x. let q = freed_arrow ps k1 1 x.0 x.1 x.4 in
          let ei = sym (kept_on ps k1 1 x.0 q.1).0 ∙ x.2 in (
            (x.0, x.1, ei, sym (kept_on ps k1 1 x.1 q.2).0 ∙ x.3, q.0),
            λ z. q.1 (inl (sts.place_one x.0 p (ei ∙ z ∙ sym seat_t) (sts.arrow_ends x.0 x.1 q.0).0)),
          );
    }

    reach_f : Reach g (mix hf mf nx)
    reach_f = finish ti.reach t (mix hf mf nx) fins refl

    abbrev hist_f : List Node
    hist_f = history g (finish ti.reach t (mix hf mf nx) fins refl)

    more_f : (y : Node) → In y (history g ti.reach) → In y hist_f
    more_f y i = history_finish g ti.reach t (mix hf mf nx) fins refl y i

    fin_in : (d : Event CodedPath) → In d (events (past hf)) → In d (S.block t) ⊎ In d S.fin
    fin_in d i = in_append d (events (block t h)) (events (past h)) (subst (In d) fin_is i)

    fin_own : (d : Event CodedPath) → In d (S.block t) → In d (events (past hf))
    fin_own d i = subst (In d) (sym fin_is) (in_left d (events (block t h)) (events (past h)) i)

    fin_old : (d : Event CodedPath) → In d S.fin → In d (events (past hf))
    fin_old d i = subst (In d) (sym fin_is) (in_right d (events (block t h)) (events (past h)) i)

    all_to : (d : Event CodedPath) → All S d → All Sf d
    all_to d (inl i) = inl (fin_old d i)
    all_to d (inr (u, o, i)) = go (ℕ_discrete u t)
      where
        go : Dec (u ≡ t) → All Sf d
        go (yes e) = inl (fin_own d (subst (λ v. In d (S.block v)) e i))
        go (no ne) = inr (u, fins.open_to u o ne, i)

    all_from : (d : Event CodedPath) → All Sf d → All S d
    all_from d (inl i) = elim (fin_in d i) [ inl j ↦ inr (t, (t≢0, p, seat_t), j) | inr j ↦ inl j ]
    all_from d (inr (u, o, i)) = inr (u, (fins.open_from u o).0, i)

    rec_to : (y : Node) → Recorded g (All S) y → Recorded g (All Sf) y
    rec_to y (inl i) = inl i
    rec_to y (inr (d, a, ad)) = inr (d, all_to d a, ad)

    rec_from : (y : Node) → Recorded g (All Sf) y → Recorded g (All S) y
    rec_from y (inl i) = inl i
    rec_from y (inr (d, a, ad)) = inr (d, all_from d a, ad)

    was : (r : Record) → In r mf.records → (r0 : Record) × In r0 R × (r0.mark ≢ t) × (r ≡ forgets ps r0)
    was r i =
        let q = map_from (forgets ps) k1 r i in
        let s = keep_from (λ (v : Record). not (eqb v.mark t)) R q.0 q.1 in
        (q.0, s.0, eqb-false q.0.mark t (not-true (eqb q.0.mark t) s.1), q.2)

    still : (r : Record) → In r R → r.mark ≢ t → In (bare r) (nodes mf.records)
    still r i ne = map_to bare mf.records (forgets ps r) (map_to (forgets ps) k1 r (keep_to (λ (v : Record). not (eqb v.mark t)) R r i (not_from_false (eqb r.mark t) (ne_eqb r.mark t ne))))

    froms : (r : Record) → In r mf.records → Recorded g (All Sf) (bare r) × ¬ ((d : Event CodedPath) × In d (events (past hf)) × Takes d r.name)
    froms r i = go (was r i)
      where
        go : (r0 : Record) × In r0 R × (r0.mark ≢ t) × (r ≡ forgets ps r0) → Recorded g (All Sf) (bare r) × ¬ ((d : Event CodedPath) × In d (events (past hf)) × Takes d r.name)
        go (r0, j, ne, e) =
            let f = bk.from r0 j in (
              rec_to (bare r) (subst (Recorded g (All S)) (sym (ap bare e)) f.0),
              λ w. gone w.0 (fin_in w.0 w.1) (subst (Takes w.0) (ap (λ (v : Record). v.name) e) w.2),
            )
          where
            gone : (d : Event CodedPath) → In d (S.block t) ⊎ In d S.fin → Takes d r0.name → ⊥
            gone d (inl q) tk = ne (bk.mark_of r0 j t d (t≢0, p, seat_t) q tk)
            gone d (inr q) tk = (bk.from r0 j).1 (d, q, tk)

    tos : (y : Node) → Recorded g (All Sf) y → ¬ ((d : Event CodedPath) × In d (events (past hf)) × Takes d y.name) → In y (nodes mf.records)
    tos y rc ng = go (map_from bare R y (bk.to y (rec_from y rc) (λ w. ng (w.0, fin_old w.0 w.1, w.2))))
      where
        go : (r : Record) × In r R × (y ≡ bare r) → In y (nodes mf.records)
        go (r, i, e) = subst (λ v. In v (nodes mf.records)) (sym e) (still r i ne)
          where
            ne : r.mark ≢ t
            ne z =
                let q = bk.mark_by r i (λ w. t≢0 (sym z ∙ w)) in
                ng (q.1, fin_own q.1 (subst (λ v. In q.1 (S.block v)) z q.2), subst (Takes q.1) (sym (ap (λ (v : Node). v.name) e)) q.3)

    files : (r : Record) → In r mf.records → In (bare r) (nodes R)
    files r i = let q = was r i in subst (λ v. In v (nodes R)) (sym (ap bare q.3)) (map_to bare R q.0 q.1)

    leads_f : (y : Node) → In y (nodes mf.records) → (d : ℕ) × Depth (nodes mf.records) y.name d
    leads_f y i =
        let q = map_from bare mf.records y i in
        let yN : In y (nodes R) = subst (λ v. In v (nodes R)) (sym q.2) (files q.0 q.1) in
        let l = bk.leads y yN in
        (l.0, depth_part (nodes R) (nodes mf.records) L same up l.1 (y, i, refl))
      where
        L : ℕ → Type 0
        L n = Has (λ z. In z (nodes mf.records)) n

        same : (z : Node) → In z (nodes R) → L z.name → In z (nodes mf.records)
        same z j (w, v, e) =
            let q = map_from bare mf.records w v in
            let wN : In w (nodes R) = subst (λ v. In v (nodes R)) (sym q.2) (files q.0 q.1) in
            subst (λ v. In v (nodes mf.records)) (key_one (λ (v : Node). v.name) (nodes R) (nodes_up g gf ga h m nx ti) w z wN j e) v

        up : (z : Node) → In z (nodes R) → z.name ≢ 0 → L z.name → L z.parent
        up z j nz l =
            let q = map_from bare mf.records z (same z j l) in
            let f = froms q.0 q.1 in
            let c = filed_closed g (mix hf mf nx) reach_f z (subst (Recorded g (All Sf)) (sym q.2) f.0, λ w. f.1 (w.0, w.1, subst (Takes w.0) (ap (λ (v : Node). v.name) q.2) w.2)) nz in
            (c.0, tos c.0 c.1.0 c.1.1, c.2)

    books_f : Books g Sf hist_f mf.tickets mf.records
    books_f = record {
      up = subst Up (sym (map_up (λ (r : Record). r.name) (forgets ps) (λ r. refl) k1)) (keep_up (λ (r : Record). r.name) (λ (v : Record). not (eqb v.mark t)) R bk.up);
      leads = leads_f;
      from = froms;
      to = tos;
      listed = λ y i. let q = map_from bare mf.records y i in more_f y (bk.listed y (subst (λ v. In v (nodes R)) (sym q.2) (files q.0 q.1)));
      gone_listed = λ d i x tk. elim (fin_in d i) [
        | inl j ↦ (let q = takes_listed (history g ti.reach) m.locks p d x (sts.booked p p≢0 d (subst (λ v. In d (S.block v)) (sym seat_t) j)) tk in (q.0, more_f q.0 q.1, q.2))
        | inr j ↦ (let q = bk.gone_listed d j x tk in (q.0, more_f q.0 q.1, q.2))
      ];
      mark_of = λ r i u d o j tk. let q = was r i in let w = (fins.open_from u o).0 in
          ap (λ (v : Record). v.mark) q.3 ∙ bk.mark_of q.0 q.1 u d w j (subst (Takes d) (ap (λ (v : Record). v.name) q.3) tk);
      mark_by = λ r i nz. let q = was r i in let e : r.mark ≡ q.0.mark = ap (λ (v : Record). v.mark) q.3 in
          let w = bk.mark_by q.0 q.1 (λ z. nz (e ∙ z)) in
          (subst Sf.Open (sym e) (fins.open_to q.0.mark w.0 q.2), w.1, subst (λ v. In w.1 (S.block v)) (sym e) w.2, subst (Takes w.1) (sym (ap (λ (v : Record). v.name) q.3)) w.3);
      note_known = λ r i j noted nz. let q = was r i in
          let b = and_parts (bit q.0.note j) (not (member j ps)) (and_parts (ltb j 32) (bit q.0.note j && not (member j ps)) (sym (forgets_note ps q.0 j) ∙ ap (λ (v : Record). bit v.note j) (sym q.3) ∙ noted)).1 in
          let o = freed_off ps k1 1 j nz in
          let w = bk.note_known q.0 q.1 j b.0 o.2 in
          (w.0, subst (λ v. In w.0 (S.block v)) (sym o.1) w.1, subst (λ v. Makes w.0 v ⊎ Shows w.0 v) (sym (ap (λ (v : Record). v.name) q.3)) w.2);
      note_free = λ r i j lt z. note_free r (was r i) j lt z (cases_Bool (member j ps));
    }
      where
        note_free : (r : Record) → (r0 : Record) × In r0 R × (r0.mark ≢ t) × (r ≡ forgets ps r0) → (j : ℕ) → j < 32 → mf.tickets j ≡ 0 → (member j ps ≡ true) ⊎ (member j ps ≡ false) → bit r.note j ≡ false
        note_free r (r0, i, ne, e) j lt z w = ap (λ (v : Record). bit v.note j) e ∙ forgets_note ps r0 j ∙ and_right (ltb j 32) (bit r0.note j && not (member j ps)) (off w)
          where
            off : (member j ps ≡ true) ⊎ (member j ps ≡ false) → (bit r0.note j && not (member j ps)) ≡ false
            off (inl b) = and_right (bit r0.note j) (not (member j ps)) (not_from_true (member j ps) b)
            off (inr b) = and_left (bit r0.note j) (not (member j ps)) (bk.note_free r0 i j lt (sym (kept_on ps k1 1 j (not_member j ps b)).0 ∙ z))

    pub finished_tied : Tied g hf mf nx
    finished_tied = record {
      reach = finish ti.reach t (mix hf mf nx) fins refl;
      books = books_f;
      seats = freed_seats ps k1 1 hf (λ u. refl) hist_f more_f;
      fit = ti.fit;
      next = ti.next;
      base = ti.base;
      room = (let a = keep_length (λ (v : Record). not (eqb v.mark t)) R in let b = map_length (forgets ps) k1 in let c = ti.room.0 in omega arith, ti.room.1);
      told = ti.told;
      told_past = λ x i. elim (in_append x (block t h) (past h) i) [ inl j ↦ ti.told t x j | inr j ↦ ti.told_past x j ];
      new = ti.new;
      past_low = λ d i. elim (fin_in d i) [
        | inl j ↦ (let lo = (reach_numbered g ti.reach).low t (t≢0, p, seat_t) in let e = reach_mine g (mix h m nx) ti.reach t d (t≢0, p, seat_t) j in omega arith)
        | inr j ↦ ti.past_low d j
      ];
    }
