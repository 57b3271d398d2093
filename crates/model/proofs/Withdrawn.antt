-- A withdrawal keeps the tie.
use Rattle.std.proofs.Common.{◌≡◌, ℕ, ◌+◌, ◌*◌, ◌/◌, ◌<◌, ◌≤◌, Bool, true, false, cond, not, ◌&&◌, ltb, ◌≢◌, ◌⊎◌, List, ◌∷◌, map, sym, refl, ap, ◌∙◌, subst, inl, inr, arith}
use Rattle.std.proofs.lemmas.Bool.{and_parts, cases_Bool, not-true, not_from_false, and_left, and_right, not_from_true}
use Rattle.words.specs.Words.{bit}
use Rattle.path.specs.declared.coded.CodedPath.{CodedPath}
use Rattle.tree.specs.Trees.{Depth, Node, bare, nodes}
use Rattle.tree.specs.declared.record.Record.{Record}
use Rattle.tree.specs.Lists.{keep}
use Rattle.model.specs.Numbers.{member}
use Rattle.model.specs.Paths.{fits, fits_any}
use Rattle.model.specs.Rules.{withdrawn}
use Rattle.model.specs.Scheduler.{Model, not_open, place_of, withdraws}
use Rattle.model.specs.Changes.{fallen, falling, free, undone, with_mark, forgets}
use Rattle.model.specs.History.{Log}
use Rattle.model.proofs.Events.{In, Event, who, Makes, Takes, Shows, State, All, Withdraws}
use Rattle.model.proofs.MixedRun.{Has, Ground, Reach, Recorded, withdraw}
use Rattle.model.proofs.Keys.{keep_from, keep_to, map_to, map_from, map_up, key_one, keep_up, member_in, not_member, Up}
use Rattle.model.proofs.Tied.{st, mix, Books, Seats, Tied, seat_of}
use Rattle.model.proofs.PlainRules.{depth_part}
use Rattle.model.proofs.Turn.{nodes_up}
use Rattle.model.proofs.Replays.{history, history_withdraw, reach_mine, reach_past, reach_made, filed_closed}
use Rattle.model.proofs.Reached.{reached_closed, reached_all, sorted_from, sorted_to}
use Rattle.model.proofs.Finished.{freed_off, kept_on, freed_arrow, kept_arrow, open_was, open_still, freed_seats, forgets_note}
use Rattle.model.proofs.Lists.{map_length, keep_length}
use Rattle.model.proofs.Tables.{adds_makes}

module _ (g : Ground) (gf : g.fits ≡ fits) (ga : g.fits_any ≡ fits_any) (h : Log) (m : Model) (nx : ℕ) (ti : Tied g h m nx) (room t : ℕ) (op : not_open m t ≡ false) where
  abbrev S : State CodedPath
  S = st h m

  abbrev R : List Record
  R = m.records

  abbrev bk : Books g (st h m) (history g ti.reach) m.tickets m.records
  bk = ti.books

  abbrev sts : Seats g (st h m) (history g ti.reach) m
  sts = ti.seats

  abbrev p : ℕ
  p = place_of m t

  abbrev ps : List ℕ
  ps = falling m t

  abbrev ws : List ℕ
  ws = fallen m t

  abbrev mw : Model
  mw = free m (falling m t) (undone m t) 0

  abbrev hw : Log
  hw = (withdraws room t, withdrawn (fallen m t)) ∷ h

  abbrev Sw : State CodedPath
  Sw = st hw mw

  seat_t : m.tickets p ≡ t
  seat_t = (seat_of m t op).1

  t≢0 : t ≢ 0
  t≢0 = (seat_of m t op).0

  taken : (i : ℕ) → In i ps → m.tickets i ≢ 0
  taken = reached_all m.arrows (λ i. m.tickets i ≢ 0) (λ i j was x. (sts.arrow_ends i j x).1) p (λ z. t≢0 (sym seat_t ∙ z))

  closed : (i j : ℕ) → In i ps → m.arrows i j ≡ true → In j ps
  closed i j k x = reached_closed m.arrows p (seat_of m t op).2 i j k x (sts.place_low j (sts.arrow_ends i j x).1)

  -- a withdrawn ticket sits at a place that is reached
  falls : (u : ℕ) → In u ws → (i : ℕ) × In i ps × (m.tickets i ≡ u)
  falls u k = let q = map_from m.tickets ps u (sorted_from (map m.tickets ps) u k) in (q.0, q.1, sym q.2)

  pub falls_to : (u i : ℕ) → In i ps → m.tickets i ≡ u → In u ws
  falls_to u i k e = sorted_to (map m.tickets ps) u (subst (λ v. In v (map m.tickets ps)) e (map_to m.tickets ps i k))

  at_fallen : (u i : ℕ) → u ≢ 0 → m.tickets i ≡ u → In u ws → In i ps
  at_fallen u i u0 e k = let q = falls u k in subst (λ v. In v ps) (sts.place_one q.0 i (q.2 ∙ sym e) (taken q.0 q.1)) q.1

  wd : Withdraws S ws Sw
  wd = record {
    closed = λ u v x k. let q = sts.arrow_ends x.0 x.1 x.4 in
        falls_to v x.1 (closed x.0 x.1 (at_fallen u x.0 (λ z. q.0 (x.2 ∙ z)) x.2 k) x.4) x.3;
    same_fin = refl;
    others = λ u ne. refl;
    open_to = λ u o out. open_still g gf ga h m nx ti ps (undone m t) 0 u o.1 o.0 o.2 (λ k. out (falls_to u o.1 k o.2));
    open_from = λ u o. let q = open_was g gf ga h m nx ti ps (undone m t) 0 u o in ((q.0, q.1, q.2), λ k. q.3 (at_fallen u q.1 q.0 q.2 k));
    arrow_old = λ u v x ou ov.
        let oi : ¬ (In x.0 ps) = λ k. ou (falls_to u x.0 k x.2) in
        let oj : ¬ (In x.1 ps) = λ k. ov (falls_to v x.1 k x.3) in
        (x.0, x.1, (kept_on g gf ga h m nx ti ps (undone m t) 0 x.0 oi).0 ∙ x.2, (kept_on g gf ga h m nx ti ps (undone m t) 0 x.1 oj).0 ∙ x.3, kept_arrow g gf ga h m nx ti ps (undone m t) 0 x.0 x.1 x.4 oi oj);
    arrow_only = λ u v x.
        let q = freed_arrow g gf ga h m nx ti ps (undone m t) 0 x.0 x.1 x.4 in
        let ei = sym (kept_on g gf ga h m nx ti ps (undone m t) 0 x.0 q.1).0 ∙ x.2 in
        let ends = sts.arrow_ends x.0 x.1 q.0 in
        ((x.0, x.1, ei, sym (kept_on g gf ga h m nx ti ps (undone m t) 0 x.1 q.2).0 ∙ x.3, q.0), λ k. q.1 (at_fallen u x.0 (λ z. ends.0 (ei ∙ z)) ei k));
  }

  reach_w : Reach g (mix hw mw nx)
  reach_w = withdraw ti.reach ws (mix hw mw nx) wd refl

  abbrev hist_w : List Node
  hist_w = history g (withdraw ti.reach ws (mix hw mw nx) wd refl)

  more_w : (y : Node) → In y (history g ti.reach) → In y hist_w
  more_w y i = history_withdraw g ti.reach ws (mix hw mw nx) wd refl y i

  all_from : (d : Event CodedPath) → All Sw d → All S d
  all_from d (inl i) = inl i
  all_from d (inr (u, o, i)) = inr (u, (wd.open_from u o).0, i)

  abbrev unmark : Record → Record
  unmark r = cond (member r.mark (fallen m t)) (with_mark r 0) r

  abbrev kp : Record → Bool
  kp r = not (member (r.name / 65536) (fallen m t))

  un_bare : (r : Record) → bare (forgets ps (unmark r)) ≡ bare r
  un_bare r = go (member r.mark ws)
    where
      go : (c : Bool) → bare (forgets ps (cond c (with_mark r 0) r)) ≡ bare r
      go true = refl
      go false = refl

  un_note : (r : Record) (i : ℕ) → bit (forgets ps (unmark r)).note i ≡ (ltb i 32 && (bit r.note i && not (member i ps)))
  un_note r i = go (member r.mark ws)
    where
      go : (c : Bool) → bit (forgets ps (cond c (with_mark r 0) r)).note i ≡ (ltb i 32 && (bit r.note i && not (member i ps)))
      go true = forgets_note ps r i
      go false = forgets_note ps r i

  un_mark : (r : Record) → ((member r.mark ws ≡ true) × ((forgets ps (unmark r)).mark ≡ 0)) ⊎ ((member r.mark ws ≡ false) × ((forgets ps (unmark r)).mark ≡ r.mark))
  un_mark r = go (member r.mark ws) refl
    where
      go : (c : Bool) → member r.mark ws ≡ c → ((member r.mark ws ≡ true) × ((forgets ps (cond c (with_mark r 0) r)).mark ≡ 0)) ⊎ ((member r.mark ws ≡ false) × ((forgets ps (cond c (with_mark r 0) r)).mark ≡ r.mark))
      go true e = inl (e, refl)
      go false e = inr (e, refl)

  was : (r : Record) → In r mw.records → (r0 : Record) × In r0 R × ¬ (In (r0.name / 65536) ws) × (r ≡ forgets ps (unmark r0))
  was r i =
      let q = map_from (forgets ps) (undone m t) r i in
      let s = map_from unmark (keep kp R) q.0 q.1 in
      let k = keep_from kp R s.0 s.1 in
      (s.0, k.0, not_member (s.0.name / 65536) ws (not-true (member (s.0.name / 65536) ws) k.1), q.2 ∙ ap (forgets ps) s.2)

  name_was : (r r0 : Record) → r ≡ forgets ps (unmark r0) → r.name ≡ r0.name
  name_was r r0 e = ap (λ (v : Record). v.name) e ∙ ap (λ (y : Node). y.name) (un_bare r0)

  still : (r : Record) → In r R → ¬ (In (r.name / 65536) ws) → In (bare r) (nodes mw.records)
  still r i out = subst (λ y. In y (nodes mw.records)) (un_bare r)
      (map_to bare mw.records (forgets ps (unmark r)) (map_to (forgets ps) (undone m t) (unmark r) (map_to unmark (keep kp R) r (keep_to kp R r i (go (cases_Bool (member (r.name / 65536) ws)))))))
    where
      go : (member (r.name / 65536) ws ≡ true) ⊎ (member (r.name / 65536) ws ≡ false) → kp r ≡ true
      go (inl e) = absurd (out (member_in (r.name / 65536) ws e))
      go (inr e) = not_from_false (member (r.name / 65536) ws) e

  -- the ticket of a name
  ticket_of : (x u j : ℕ) → j < 65536 → x ≡ u * 65536 + j → x / 65536 ≡ u
  ticket_of x u j lt e = omega arith

  rec_to : (y : Node) → ¬ (In (y.name / 65536) ws) → Recorded g (All S) y → Recorded g (All Sw) y
  rec_to y out (inl i) = inl i
  rec_to y out (inr (d, inl i, ad)) = inr (d, inl i, ad)
  rec_to y out (inr (d, inr (u, o, i), ad)) = inr (d, inr (u, wd.open_to u o (λ k. out (subst (λ v. In v ws) (sym same) k)), i), ad)
    where
      same : y.name / 65536 ≡ u
      same =
          let q = reach_made g (mix h m nx) ti.reach d (inr (u, o, i)) y.name (adds_makes d y ad) in
          ticket_of y.name (who d) q.1 q.2 q.3 ∙ reach_mine g (mix h m nx) ti.reach u d o i

  rec_from : (y : Node) → Recorded g (All Sw) y → Recorded g (All S) y
  rec_from y (inl i) = inl i
  rec_from y (inr (d, a, ad)) = inr (d, all_from d a, ad)

  not_fallen : (y : Node) → Recorded g (All Sw) y → ¬ (In (y.name / 65536) ws)
  not_fallen y rc k = go rc (falls (y.name / 65536) k)
    where
      go : Recorded g (All Sw) y → (i : ℕ) × In i ps × (m.tickets i ≡ y.name / 65536) → ⊥
      go (inl f) (i, j, e) =
          let a = g.first_low y f in
          let b : g.base ≤ y.name / 65536 = subst (λ v. g.base ≤ v) e (sts.first_low i (taken i j)) in
          omega arith
      go (inr (d, al, ad)) (i, j, e) = by al
        where
          q : (g.base ≤ who d) × (c : ℕ) × (c < 65536) × (y.name ≡ who d * 65536 + c)
          q = reach_made g (mix h m nx) ti.reach d (all_from d al) y.name (adds_makes d y ad)

          same : y.name / 65536 ≡ who d
          same = ticket_of y.name (who d) q.1 q.2 q.3

          by : All Sw d → ⊥
          by (inl f) = reach_past g (mix h m nx) ti.reach d f ((λ z. taken i j (e ∙ same ∙ z)), i, e ∙ same)
          by (inr (u, o, f)) =
              let w = wd.open_from u o in
              w.1 (subst (λ v. In v ws) (same ∙ reach_mine g (mix h m nx) ti.reach u d w.0 f) k)

  froms : (r : Record) → In r mw.records → Recorded g (All Sw) (bare r) × ¬ ((d : Event CodedPath) × In d S.fin × Takes d r.name)
  froms r i =
      let q = was r i in
      let f = bk.from q.0 q.1 in
      (subst (Recorded g (All Sw)) (sym (ap bare q.3 ∙ un_bare q.0)) (rec_to (bare q.0) q.2 f.0), λ w. f.1 (w.0, w.1, subst (Takes w.0) (name_was r q.0 q.3) w.2))

  tos : (y : Node) → Recorded g (All Sw) y → ¬ ((d : Event CodedPath) × In d S.fin × Takes d y.name) → In y (nodes mw.records)
  tos y rc ng =
      let q = map_from bare R y (bk.to y (rec_from y rc) ng) in
      subst (λ v. In v (nodes mw.records)) (sym q.2) (still q.0 q.1 (subst (λ (v : Node). ¬ (In (v.name / 65536) ws)) q.2 (not_fallen y rc)))

  files : (r : Record) → In r mw.records → In (bare r) (nodes R)
  files r i = let q = was r i in subst (λ v. In v (nodes R)) (sym (ap bare q.3 ∙ un_bare q.0)) (map_to bare R q.0 q.1)

  filed : (y : Node) → In y (nodes mw.records) → In y (nodes R)
  filed y i = let q = map_from bare mw.records y i in subst (λ v. In v (nodes R)) (sym q.2) (files q.0 q.1)

  leads_w : (y : Node) → In y (nodes mw.records) → (d : ℕ) × Depth (nodes mw.records) y.name d
  leads_w y i =
      let l = bk.leads y (filed y i) in
      (l.0, depth_part (nodes R) (nodes mw.records) L same up l.1 (y, i, refl))
    where
      L : ℕ → Type 0
      L n = Has (λ z. In z (nodes mw.records)) n

      same : (z : Node) → In z (nodes R) → L z.name → In z (nodes mw.records)
      same z j (w, v, e) = subst (λ v. In v (nodes mw.records)) (key_one (λ (v : Node). v.name) (nodes R) (nodes_up g gf ga h m nx ti) w z (filed w v) j e) v

      up : (z : Node) → In z (nodes R) → z.name ≢ 0 → L z.name → L z.parent
      up z j nz l =
          let q = map_from bare mw.records z (same z j l) in
          let f = froms q.0 q.1 in
          let c = filed_closed g (mix hw mw nx) reach_w z (subst (Recorded g (All Sw)) (sym q.2) f.0, λ w. f.1 (w.0, w.1, subst (Takes w.0) (ap (λ (v : Node). v.name) q.2) w.2)) nz in
          (c.0, tos c.0 c.1.0 c.1.1, c.2)

  books_w : Books g Sw hist_w mw.tickets mw.records
  books_w = record {
    up = subst Up (sym (map_up (λ (r : Record). r.name) (forgets ps) (λ r. refl) (undone m t) ∙ map_up (λ (r : Record). r.name) unmark (λ r. ap (λ (y : Node). y.name) (un_bare r)) (keep kp R))) (keep_up (λ (r : Record). r.name) kp R bk.up);
    leads = leads_w;
    from = froms;
    to = tos;
    listed = λ y i. more_w y (bk.listed y (filed y i));
    gone_listed = λ d i x tk. let q = bk.gone_listed d i x tk in (q.0, more_w q.0 q.1, q.2);
    mark_of = λ r i u d o j tk. mark_of r (was r i) u d o j tk;
    mark_by = λ r i nz. mark_by r (was r i) nz;
    note_known = λ r i j noted nz. let q = was r i in
        let b = and_parts (bit q.0.note j) (not (member j ps)) (and_parts (ltb j 32) (bit q.0.note j && not (member j ps)) (sym (un_note q.0 j) ∙ ap (λ (v : Record). bit v.note j) (sym q.3) ∙ noted)).1 in
        let o = freed_off g gf ga h m nx ti ps (undone m t) 0 j nz in
        let w = bk.note_known q.0 q.1 j b.0 o.2 in
        (w.0, subst (λ v. In w.0 (S.block v)) (sym o.1) w.1, subst (λ v. Makes w.0 v ⊎ Shows w.0 v) (sym (name_was r q.0 q.3)) w.2);
    note_free = λ r i j lt z. note_free r (was r i) j lt z (cases_Bool (member j ps));
  }
    where
      Was : Record → Type 0
      Was r = (r0 : Record) × In r0 R × ¬ (In (r0.name / 65536) ws) × (r ≡ forgets ps (unmark r0))

      mark_of : (r : Record) → Was r → (u : ℕ) (d : Event CodedPath) → Sw.Open u → In d (S.block u) → Takes d r.name → r.mark ≡ u
      mark_of r (r0, i, out, e) u d o j tk =
          let w = wd.open_from u o in
          let k : r0.mark ≡ u = bk.mark_of r0 i u d w.0 j (subst (Takes d) (name_was r r0 e) tk) in
          ap (λ (v : Record). v.mark) e ∙ elim (un_mark r0) [
            | inl q ↦ absurd (w.1 (subst (λ v. In v ws) k (member_in r0.mark ws q.0)))
            | inr q ↦ q.1 ∙ k
          ]

      mark_by : (r : Record) → Was r → r.mark ≢ 0 → Sw.Open r.mark × (d : Event CodedPath) × In d (S.block r.mark) × Takes d r.name
      mark_by r (r0, i, out, e) nz = go (un_mark r0)
        where
          me : r.mark ≡ (forgets ps (unmark r0)).mark
          me = ap (λ (v : Record). v.mark) e

          go : ((member r0.mark ws ≡ true) × ((forgets ps (unmark r0)).mark ≡ 0)) ⊎ ((member r0.mark ws ≡ false) × ((forgets ps (unmark r0)).mark ≡ r0.mark)) → Sw.Open r.mark × (d : Event CodedPath) × In d (S.block r.mark) × Takes d r.name
          go (inl q) = absurd (nz (me ∙ q.1))
          go (inr q) =
              let same : r.mark ≡ r0.mark = me ∙ q.1 in
              let w = bk.mark_by r0 i (λ z. nz (same ∙ z)) in
              (subst Sw.Open (sym same) (wd.open_to r0.mark w.0 (not_member r0.mark ws q.0)), w.1, subst (λ v. In w.1 (S.block v)) (sym same) w.2, subst (Takes w.1) (sym (name_was r r0 e)) w.3)

      note_free : (r : Record) → Was r → (j : ℕ) → j < 32 → mw.tickets j ≡ 0 → (member j ps ≡ true) ⊎ (member j ps ≡ false) → bit r.note j ≡ false
      note_free r (r0, i, out, e) j lt z w = ap (λ (v : Record). bit v.note j) e ∙ un_note r0 j ∙ and_right (ltb j 32) (bit r0.note j && not (member j ps)) (off w)
        where
          off : (member j ps ≡ true) ⊎ (member j ps ≡ false) → (bit r0.note j && not (member j ps)) ≡ false
          off (inl b) = and_right (bit r0.note j) (not (member j ps)) (not_from_true (member j ps) b)
          off (inr b) = and_left (bit r0.note j) (not (member j ps)) (bk.note_free r0 i j lt (sym (kept_on g gf ga h m nx ti ps (undone m t) 0 j (not_member j ps b)).0 ∙ z))

  pub withdrawn_tied : Tied g hw mw nx
  withdrawn_tied = record {
    reach = withdraw ti.reach ws (mix hw mw nx) wd refl;
    books = books_w;
    seats = freed_seats g gf ga h m nx ti ps (undone m t) 0 hw (λ u. refl) hist_w more_w;
    fit = ti.fit;
    next = ti.next;
    base = ti.base;
    room = (let a = keep_length kp R in let b = map_length (forgets ps) (undone m t) in let d = map_length unmark (keep kp R) in let c = ti.room.0 in omega arith, ti.room.1);
    told = ti.told;
    told_past = ti.told_past;
    new = ti.new;
    past_low = ti.past_low;
  }
