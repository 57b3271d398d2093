-- An add keeps the tie: its name is new, and its ticket knows it.
use Rattle.std.proofs.Common.{◌≡◌, ℕ, suc, ◌+◌, ◌*◌, ◌<◌, ◌≤◌, true, false, cond, eqb, ◌≢◌, ◌⊎◌, List, [], ◌∷◌, length, Some, sym, refl, ap, ◌∙◌, subst, inl, inr, arith}
use native.Mathlib.Decide.{ℕ_discrete}
use Rattle.std.proofs.lemmas.Bool.{eqb-true, eq-eqb, ne_eqb, leb-false, cond-true, cond-false}
use Rattle.words.specs.Words.{bit}
use Rattle.words.proofs.Bits.{bit_one}
use Rattle.path.specs.declared.coded.CodedPath.{CodedPath}
use Rattle.tree.specs.Trees.{Depth, Node, bare, down, nodes}
use Rattle.tree.specs.declared.record.Record.{Record}
use Rattle.tree.specs.Records.{look, placed}
use Rattle.tree.specs.Names.{name_of}
use Rattle.tree.proofs.Look.{in_placed, length_placed}
use Rattle.model.specs.Paths.{fits, fits_any}
use Rattle.model.specs.Rules.{adds, insert, made}
use Rattle.model.specs.Scheduler.{Model, acts, place_of}
use Rattle.model.specs.Changes.{change, new_record}
use Rattle.model.specs.Refusals.{rows}
use Rattle.model.specs.History.{Log, block, past}
use Rattle.model.proofs.Events.{In, Event, add, write, Makes, Takes, Shows, Knows, count, tally, State, All}
use Rattle.model.proofs.MixedRun.{Has, Ground, act, Recorded, Standing, TakesTurn}
use Rattle.model.proofs.Lists.{in_right}
use Rattle.model.proofs.Counts.{tally_own}
use Rattle.model.proofs.Keys.{map_to, Rising, Up}
use Rattle.model.proofs.PlainRules.{insert_from, insert_new, insert_old, insert_up, depth_more}
use Rattle.model.proofs.Tied.{events, st, mix, Books, Seats, Tied, seat_of, block_own, block_other, Passed, takes_listed}
use Rattle.model.proofs.Turn.{names_nodes, nodes_up, node_known, turn}
use Rattle.model.proofs.Replays.{history, history_act, history_new, fresh_name}
use Rattle.model.proofs.Acted.{place_nodes, added_room, own_in, block_sub, block_plus, rec_more, rec_less, acted}

module _ (g : Ground) (gf : g.fits ≡ fits) (ga : g.fits_any ≡ fits_any) (h : Log) (m : Model) (nx : ℕ) (ti : Tied g h m nx) where
  abbrev S : State CodedPath
  S = st h m

  abbrev R : List Record
  R = m.records

  abbrev bk : Books g (st h m) (history g ti.reach) m.tickets m.records
  bk = ti.books

  abbrev sts : Seats g (st h m) (history g ti.reach) m
  sts = ti.seats

  module _ (room t n c : ℕ) (ok : Passed (rows m room (adds t n c))) where
    abbrev i2 : ℕ
    i2 = place_of m t

    abbrev x : ℕ
    x = name_of t (suc (m.added (place_of m t)))

    abbrev nr : Record
    nr = new_record (place_of m t) (name_of t (suc (m.added (place_of m t)))) n c

    abbrev rs2 : List Record
    rs2 = placed nr R

    abbrev added2 : ℕ → ℕ
    added2 j = cond (eqb j (place_of m t)) (suc (m.added (place_of m t))) (m.added j)

    abbrev h2 : Log
    h2 = (acts room (adds t n c), made x) ∷ h

    abbrev m2 : Model
    m2 = (change m (adds t n c)).0

    st_t2 : m.tickets i2 ≡ t
    st_t2 = (seat_of m t ok.1.0).1

    t2≢0 : t ≢ 0
    t2≢0 = (seat_of m t ok.1.0).0

    i2≢0 : m.tickets i2 ≢ 0
    i2≢0 z = t2≢0 (sym st_t2 ∙ z)

    known2 : (r : Record) × (look n R ≡ Some r) × In r R × (r.name ≡ n) × (r.mark ≡ 0) × Knows (S.block t) n × Has (Standing g (All S)) n
    known2 = node_known g gf ga h m nx ti t n st_t2 t2≢0 ok.1.1.0 ok.1.1.1.0

    counted : m.added i2 ≡ count t (S.block t)
    counted = sts.added_count i2 i2≢0 ∙ ap (λ u. count u (S.block u)) st_t2

    based : g.base ≤ t
    based = subst (λ u. g.base ≤ u) st_t2 (sts.first_low i2 i2≢0)

    small : suc (count t (S.block t)) < 65536
    small =
        let a = added_room g gf ga h m nx ti i2 i2≢0 in
        let b = ti.room.0 in
        let d = ti.room.1 in
        let e = counted in
        omega arith

    x_is : x ≡ t * 65536 + suc (count t (S.block t))
    x_is = ap (λ k. t * 65536 + suc k) counted

    fresh : (z : Node) → In z (history g ti.reach) → z.name ≢ x
    fresh z i e = fresh_name g ti.reach t (t2≢0, i2, st_t2) based small z i (e ∙ x_is)

    add_turn : TakesTurn g (mix h m nx) (add t n c x) (mix h2 m2 nx)
    add_turn = turn g gf ga h m nx ti room (adds t n c) (made x) rs2 added2 refl ok.1.0 known2.5 (known2.6, based, small, x_is)

    abbrev hist2 : List Node
    hist2 = history g (act ti.reach (add t n c x) (mix h2 m2 nx) add_turn)

    old_hist : (y : Node) → In y (history g ti.reach) → In y hist2
    old_hist y i = history_act g ti.reach (add t n c x) (mix h2 m2 nx) add_turn y i

    own2 : In (add t n c x) (events (block t h2))
    own2 = own_in g gf ga h m nx ti room (adds t n c) (made x) rs2 added2 refl ok.1.0

    sub2 : (u : ℕ) (d : Event CodedPath) → In d (S.block u) → In d (events (block u h2))
    sub2 = block_sub g gf ga h m nx ti room (adds t n c) (made x) rs2 added2 refl ok.1.0

    plus2 : (u : ℕ) (d : Event CodedPath) → In d (events (block u h2)) → In d (S.block u) ⊎ ((d ≡ add t n c x) × (u ≡ t))
    plus2 = block_plus g gf ga h m nx ti room (adds t n c) (made x) rs2 added2 refl ok.1.0

    leads2 : (y : Node) → In y (insert (bare nr) (nodes R)) → (d : ℕ) × Depth (insert (bare nr) (nodes R)) y.name d
    leads2 y i = go (insert_from (bare nr) (nodes R) y i)
      where
        wide : {k d : ℕ} → Depth (nodes R) k d → Depth (insert (bare nr) (nodes R)) k d
        wide k = depth_more (nodes R) (insert (bare nr) (nodes R)) (λ z j. insert_old (bare nr) (nodes R) z j) k

        go : (y ≡ bare nr) ⊎ In y (nodes R) → (d : ℕ) × Depth (insert (bare nr) (nodes R)) y.name d
        go (inr j) = let q = bk.leads y j in (q.0, wide q.1)
        go (inl p) =
            let q = bk.leads (bare known2.0) (map_to bare R known2.0 known2.2) in
            let nz : x ≢ 0 = λ z. (let e : t * 65536 + suc (m.added i2) ≡ 0 = z in omega arith) in
            subst (λ (v : Node). (d : ℕ) × Depth (insert (bare nr) (nodes R)) v.name d) (sym p)
            (suc q.0, down (bare nr) (insert_new (bare nr) (nodes R)) nz (subst (λ v. Depth (insert (bare nr) (nodes R)) v q.0) known2.3 (wide q.1)))

    books2 : Books g (st h2 m2) hist2 m.tickets rs2
    books2 = record {
      up = subst Up (names_nodes rs2) (subst Rising (sym (place_nodes nr R)) (insert_up (bare nr) (nodes R) (nodes_up g gf ga h m nx ti) (λ y i. fresh y (bk.listed y i))));
      leads = subst (λ ys. (y : Node) → In y ys → (d : ℕ) × Depth ys y.name d) (sym (place_nodes nr R)) leads2;
      from = λ r i. from r (in_placed nr R r i);
      to = λ y rc ng. subst (In y) (sym (place_nodes nr R)) (elim (rec_less g gf ga h m nx ti room (adds t n c) (made x) rs2 added2 refl ok.1.0 y rc) [
        | inl k ↦ insert_old (bare nr) (nodes R) y (bk.to y k ng)
        | inr ad ↦ subst (λ v. In v (insert (bare nr) (nodes R))) (sym ad) (insert_new (bare nr) (nodes R))
      ]);
      listed = λ y i. elim (insert_from (bare nr) (nodes R) y (subst (In y) (place_nodes nr R) i)) [
        | inl p ↦ history_new g ti.reach (add t n c x) (mix h2 m2 nx) add_turn y p
        | inr j ↦ old_hist y (bk.listed y j)
      ];
      gone_listed = λ d i z k. let q = bk.gone_listed d i z k in (q.0, old_hist q.0 q.1, q.2);
      mark_of = λ r i u d o j k. mark_of r (in_placed nr R r i) u d o (plus2 u d j) k;
      mark_by = λ r i nz. mark_by r (in_placed nr R r i) nz;
      note_known = λ r i j noted z. known r (in_placed nr R r i) j noted z;
      note_free = λ r i j lt z. free r (in_placed nr R r i) j lt z;
    }
      where
        from : (r : Record) → (r ≡ nr) ⊎ In r R → Recorded g (All (st h2 m2)) (bare r) × ¬ ((d : Event CodedPath) × In d (events (past h)) × Takes d r.name)
        from r (inl p) = (
          inr (add t n c x, inr (t, (t2≢0, i2, st_t2), own2), ap bare p),
          λ w. let q = bk.gone_listed w.0 w.1 r.name w.2 in fresh q.0 q.1 (q.2 ∙ ap (λ (v : Record). v.name) p),
        )
        from r (inr i) = let k = bk.from r i in (rec_more g gf ga h m nx ti room (adds t n c) (made x) rs2 added2 refl ok.1.0 (bare r) k.0, k.1)

        mark_of : (r : Record) → (r ≡ nr) ⊎ In r R → (u : ℕ) (d : Event CodedPath) → S.Open u → In d (S.block u) ⊎ ((d ≡ add t n c x) × (u ≡ t)) → Takes d r.name → r.mark ≡ u
        mark_of r w u d o (inr z) k = absurd (subst (λ v. Takes v r.name) z.0 k)
        mark_of r (inr i) u d o (inl j) k = bk.mark_of r i u d o j k
        mark_of r (inl p) u d (u0, iu, eu) (inl j) k =
            let bo = sts.booked iu (λ z. u0 (sym eu ∙ z)) d (subst (λ v. In d (S.block v)) (sym eu) j) in
            let q = takes_listed (history g ti.reach) m.locks iu d r.name bo k in
            absurd (fresh q.0 q.1 (q.2 ∙ ap (λ (v : Record). v.name) p))

        mark_by : (r : Record) → (r ≡ nr) ⊎ In r R → r.mark ≢ 0 → S.Open r.mark × (d : Event CodedPath) × In d (events (block r.mark h2)) × Takes d r.name
        mark_by r (inl p) nz = absurd (nz (ap (λ (v : Record). v.mark) p))
        mark_by r (inr i) nz = let k = bk.mark_by r i nz in (k.0, k.1, sub2 r.mark k.1 k.2, k.3)

        known : (r : Record) → (r ≡ nr) ⊎ In r R → (j : ℕ) → bit r.note j ≡ true → m.tickets j ≢ 0 → (d : Event CodedPath) × In d (events (block (m.tickets j) h2)) × (Makes d r.name ⊎ Shows d r.name)
        known r (inr i) j noted z = let k = bk.note_known r i j noted z in (k.0, sub2 (m.tickets j) k.0 k.1, k.2)
        known r (inl p) j noted z =
            let at : i2 ≡ j = sym (eqb-true j i2 (sym (bit_one i2 j) ∙ ap (λ (v : Record). bit v.note j) (sym p) ∙ noted)) in
            (add t n c x, subst (λ v. In (add t n c x) (events (block v h2))) (sym st_t2 ∙ ap m.tickets at) own2, inl (ap (λ (v : Record). v.name) p))

        free : (r : Record) → (r ≡ nr) ⊎ In r R → (j : ℕ) → j < 32 → m.tickets j ≡ 0 → bit r.note j ≡ false
        free r (inr i) j lt z = bk.note_free r i j lt z
        free r (inl p) j lt z = ap (λ (v : Record). bit v.note j) p ∙ bit_one i2 j ∙ ne_eqb j i2 (λ e. i2≢0 (ap m.tickets (sym e) ∙ z))

    pub grown : Tied g h2 m2 nx
    grown = acted g gf ga h m nx ti room (adds t n c) (made x) rs2 added2 refl ok.1.0 add_turn books2
        (λ i i≢0. counts i i≢0 (ℕ_discrete i i2))
        (λ i i≢0 j lo hi. nums i i≢0 j lo hi (ℕ_discrete i i2))
        (in_right (record { holder = i2; lock = write n (Some c) }) m.locks (record { holder = i2; lock = write n (Some c) } ∷ []) (inl refl))
        (let e = length_placed nr R in let lt = leb-false m.limit (length R) ok.1.1.1.1.1.1.0 in omega arith)
        (refl, refl, tt)
      where
        at2 : (i : ℕ) → i ≡ i2 → added2 i ≡ suc (m.added i2)
        at2 i e = cond-true (eqb i i2) (suc (m.added i2)) (m.added i) (eq-eqb i i2 e)

        off2 : (i : ℕ) → i ≢ i2 → added2 i ≡ m.added i
        off2 i ne = cond-false (eqb i i2) (suc (m.added i2)) (m.added i) (ne_eqb i i2 ne)

        counts : (i : ℕ) → m.tickets i ≢ 0 → Dec (i ≡ i2) → added2 i ≡ count (m.tickets i) (events (block (m.tickets i) h2))
        counts i i≢0 (yes e) =
            let one : count t (events (block t h2)) ≡ tally {P = CodedPath} t (add t n c x) + count t (events (block t h)) = ap (λ ys. count t (events ys)) (block_own room (adds t n c) (made x) h refl) in
            let two = tally_own CodedPath t n c x in
            let three = counted in
            let four : suc (m.added i2) ≡ count t (events (block t h2)) = omega arith in
            at2 i e ∙ subst (λ u. suc (m.added i2) ≡ count u (events (block u h2))) (sym (ap m.tickets e ∙ st_t2)) four
        counts i i≢0 (no ne) =
            let nt : m.tickets i ≢ t = λ z. ne (sts.place_one i i2 (z ∙ sym st_t2) i≢0) in
            off2 i ne ∙ sts.added_count i i≢0 ∙ sym (ap (λ ys. count (m.tickets i) (events ys)) (block_other room (adds t n c) (made x) h (m.tickets i) nt))

        nums : (i : ℕ) → m.tickets i ≢ 0 → (j : ℕ) → 1 ≤ j → j ≤ added2 i → Dec (i ≡ i2) → (d : Event CodedPath) × In d (events (block (m.tickets i) h2)) × Makes d (m.tickets i * 65536 + j)
        nums i i≢0 j lo hi (no ne) = let k = sts.numbers i i≢0 j lo (subst (λ v. j ≤ v) (off2 i ne) hi) in (k.0, sub2 (m.tickets i) k.0 k.1, k.2)
        nums i i≢0 j lo hi (yes e) = last (ℕ_discrete j (suc (m.added i2)))
          where
            hi2 : j ≤ suc (m.added i2)
            hi2 = subst (λ v. j ≤ v) (at2 i e) hi

            ee : m.tickets i ≡ t
            ee = ap m.tickets e ∙ st_t2

            last : Dec (j ≡ suc (m.added i2)) → (d : Event CodedPath) × In d (events (block (m.tickets i) h2)) × Makes d (m.tickets i * 65536 + j)
            last (yes q) = (add t n c x, subst (λ v. In (add t n c x) (events (block v h2))) (sym ee) own2, ap (λ v. v * 65536 + j) ee ∙ ap (λ v. t * 65536 + v) q)
            last (no ne) =
                let hh = hi2 in
                let le : j ≤ m.added i2 = omega arith in
                let k = sts.numbers i i≢0 j lo (subst (λ v. j ≤ m.added v) (sym e) le) in
                (k.0, sub2 (m.tickets i) k.0 k.1, k.2)
