-- A remove keeps the tie: the node has its ticket as its mark.
use Rattle.std.proofs.Common.{◌≡◌, ℕ, Bool, true, false, cond, not, eqb, ◌≢◌, ◌⊎◌, List, ◌∷◌, ◌++◌, map, Some, None, sym, refl, ap, ◌∙◌, subst, inl, inr, arith}
use native.Mathlib.Decide.{ℕ_discrete}
use Rattle.std.proofs.lemmas.Bool.{true≢false, eqb-false, eq-eqb, ne_eqb, and_from, not_from_false}
use Rattle.words.specs.Words.{bit}
use Rattle.path.specs.declared.coded.CodedPath.{CodedPath}
use Rattle.tree.specs.Trees.{actual, bare}
use Rattle.tree.specs.declared.record.Record.{Record}
use Rattle.tree.specs.Records.{look}
use Rattle.model.specs.Paths.{fits, fits_any}
use Rattle.model.specs.Ways.{child_of}
use Rattle.model.specs.Rules.{Action, Answer, removed, removes}
use Rattle.model.specs.Locks.{Held, removal_locks}
use Rattle.model.specs.Scheduler.{Model, acts, place_of}
use Rattle.model.specs.Changes.{change, with_mark}
use Rattle.model.specs.Refusals.{rows}
use Rattle.model.specs.History.{Log, block}
use Rattle.model.proofs.Events.{In, Event, rem, write, Takes, Knows, count, State, All}
use Rattle.model.proofs.MixedRun.{Has, Ground, Accepts, act, Standing, TakesTurn}
use Rattle.model.proofs.Lists.{in_right, map_length}
use Rattle.model.proofs.Keys.{some_false, map_to, key_one}
use Rattle.model.proofs.Tied.{events, st, mix, Booked, Books, Seats, Tied, seat_of, Passed}
use Rattle.model.proofs.Turn.{standing_actual, node_known, turn}
use Rattle.model.proofs.Replays.{history, history_act}
use Rattle.model.proofs.Acted.{own_in, block_sub, block_plus, acted}
use Rattle.model.proofs.Retagged.{same_books, same_count}

module _ (g : Ground) (gf : g.fits ≡ fits) (ga : g.fits_any ≡ fits_any) (h : Log) (m : Model) (nx : ℕ) (ti : Tied g h m nx) where
  abbrev S : State CodedPath
  S = st h m

  abbrev R : List Record
  R = m.records

  abbrev bk : Books g (st h m) (history g ti.reach) m.tickets m.records
  bk = ti.books

  abbrev sts : Seats g (st h m) (history g ti.reach) m
  sts = ti.seats

  module _ (room t n : ℕ) (ok : Passed (rows m room (removes t n))) where
    abbrev i1 : ℕ
    i1 = place_of m t

    abbrev f1 : Record → Record
    f1 r = cond (eqb r.name n) (with_mark r t) r

    st_t1 : m.tickets i1 ≡ t
    st_t1 = (seat_of m t ok.1.0).1

    t1≢0 : t ≢ 0
    t1≢0 = (seat_of m t ok.1.0).0

    known1 : (r : Record) × (look n R ≡ Some r) × In r R × (r.name ≡ n) × (r.mark ≡ 0) × Knows (S.block t) n × Has (Standing g (All S)) n
    known1 = node_known g gf ga h m nx ti t n st_t1 t1≢0 ok.1.1.0 ok.1.1.1.0

    rem_ok : (k : ℕ) → Accepts g (Standing g (All S)) k (rem t n)
    rem_ok k = (
      known1.6,
      eqb-false n 0 ok.1.1.1.1.0,
      λ y s nz e.
          true≢false (sym (and_from (not (eqb y.name 0)) (eqb y.parent n) (not_from_false (eqb y.name 0) (ne_eqb y.name 0 nz)) (eq-eqb y.parent n e))
          ∙ some_false (child_of n) (actual R) ok.1.1.1.1.1.0 y (standing_actual g gf ga h m nx ti y s)),
    )

    rem_turn : TakesTurn g (mix h m nx) (rem t n) (mix ((acts room (removes t n), removed) ∷ h) (change m (removes t n)).0 nx)
    rem_turn = turn g gf ga h m nx ti room (removes t n) removed (map f1 R) m.added refl ok.1.0 known1.5 (rem_ok (count t (S.block t)))

    f1_bare : (r : Record) → bare (f1 r) ≡ bare r
    f1_bare r = go (eqb r.name n)
      where
        go : (c : Bool) → bare (cond c (with_mark r t) r) ≡ bare r
        go true = refl
        go false = refl

    f1_note : (r : Record) → (f1 r).note ≡ r.note
    f1_note r = go (eqb r.name n)
      where
        go : (c : Bool) → (cond c (with_mark r t) r).note ≡ r.note
        go true = refl
        go false = refl

    f1_here : (r : Record) → r.name ≡ n → (f1 r).mark ≡ t
    f1_here r e = ap (λ c. (cond c (with_mark r t) r).mark) (eq-eqb r.name n e)

    f1_else : (r : Record) → r.name ≢ n → (f1 r).mark ≡ r.mark
    f1_else r ne = ap (λ c. (cond c (with_mark r t) r).mark) (ne_eqb r.name n ne)

    pub taken : Tied g ((acts room (removes t n), (change m (removes t n)).1) ∷ h) (change m (removes t n)).0 nx
    taken = acted g gf ga h m nx ti room b a (map f1 R) m.added refl ok.1.0 rem_turn
        (same_books g gf ga h m nx ti room b a f1 m.added refl ok.1.0 rem_turn f1_bare (λ y ad. ad)
        (λ r i u d o j tk. mark_of r i u d o tk (plus u d j) (ℕ_discrete r.name n))
        (λ r i nz. mark_by r i nz (ℕ_discrete r.name n))
        (λ r i j noted z. let k = bk.note_known r i j (ap (λ w. bit w j) (sym (f1_note r)) ∙ noted) z in (k.0, sub (m.tickets j) k.0 k.1, k.2))
        (λ r i j lt z. ap (λ w. bit w j) (f1_note r) ∙ bk.note_free r i j lt z))
        (λ i i≢0. sts.added_count i i≢0 ∙ same_count g gf ga h m nx ti room b a f1 m.added refl ok.1.0 rem_turn f1_bare (λ y ad. ad) (λ u. refl) (m.tickets i))
        (λ i i≢0 j lo hi. let k = sts.numbers i i≢0 j lo hi in (k.0, sub (m.tickets i) k.0 k.1, k.2))
        (locked known1.1)
        (let e = map_length f1 R in let le = ti.room.0 in omega arith)
        (refl, refl, tt)
      where
        b : Action
        b = removes t n

        a : Answer
        a = removed

        h' : Log
        h' = (acts room b, a) ∷ h

        sub : (u : ℕ) (d : Event CodedPath) → In d (S.block u) → In d (events (block u h'))
        sub = block_sub g gf ga h m nx ti room b a (map f1 R) m.added refl ok.1.0

        plus : (u : ℕ) (d : Event CodedPath) → In d (events (block u h')) → In d (S.block u) ⊎ ((d ≡ rem t n) × (u ≡ t))
        plus = block_plus g gf ga h m nx ti room b a (map f1 R) m.added refl ok.1.0

        -- the record of n was not marked
        clear : (r : Record) → In r R → r.name ≡ n → r.mark ≡ 0
        clear r i e = ap (λ (v : Record). v.mark) (key_one (λ (v : Record). v.name) R bk.up r known1.0 i known1.2 (e ∙ sym known1.3)) ∙ known1.4

        mark_of : (r : Record) → In r R → (u : ℕ) (d : Event CodedPath) → S.Open u → Takes d r.name → In d (S.block u) ⊎ ((d ≡ rem t n) × (u ≡ t)) → Dec (r.name ≡ n) → (f1 r).mark ≡ u
        mark_of r i u d o tk (inl j) (yes e) = absurd (o.0 (sym (bk.mark_of r i u d o j tk) ∙ clear r i e))
        mark_of r i u d o tk (inl j) (no ne) = f1_else r ne ∙ bk.mark_of r i u d o j tk
        mark_of r i u d o tk (inr z) (yes e) = f1_here r e ∙ sym z.1
        mark_of r i u d o tk (inr z) (no ne) = absurd (ne (subst (λ c. Takes c r.name) z.0 tk))

        mark_by : (r : Record) → In r R → (f1 r).mark ≢ 0 → Dec (r.name ≡ n) → S.Open (f1 r).mark × (d : Event CodedPath) × In d (events (block (f1 r).mark h')) × Takes d r.name
        mark_by r i nz (yes e) =
            let s = sym (f1_here r e) in
            (subst S.Open s (t1≢0, i1, st_t1), rem t n, subst (λ v. In (rem t n) (events (block v h'))) s (own_in g gf ga h m nx ti room b a (map f1 R) m.added refl ok.1.0), e)
        mark_by r i nz (no ne) =
            let s = sym (f1_else r ne) in
            let k = bk.mark_by r i (λ z. nz (f1_else r ne ∙ z)) in
            (subst S.Open s k.0, k.1, sub (f1 r).mark k.1 (subst (λ v. In k.1 (S.block v)) s k.2), k.3)

        locked : look n R ≡ Some known1.0 → Booked (history g (act ti.reach (rem t n) (mix h' (change m (removes t n)).0 nx) rem_turn)) (change m (removes t n)).0.locks i1 (rem t n)
        locked w =
            let r = known1.0 in
            let more : List Held = map (λ l. record { holder = i1; lock = l }) (removal_locks (Some known1.0) n) in
            let eq : m.locks ++ map (λ l. record { holder = i1; lock = l }) (removal_locks (Some known1.0) n) ≡ (change m (removes t n)).0.locks = ap (λ o. m.locks ++ map (λ l. record { holder = i1; lock = l }) (removal_locks o n)) (sym w) in (
              subst (In (record { holder = i1; lock = write n None })) eq (in_right (record { holder = i1; lock = write n None }) m.locks more (inl refl)),
              (
                bare r,
                history_act g ti.reach (rem t n) (mix h' (change m (removes t n)).0 nx) rem_turn (bare r) (bk.listed (bare r) (map_to bare R r known1.2)),
                known1.3,
                subst (In (record { holder = i1; lock = write r.parent (Some r.label) })) eq (in_right (record { holder = i1; lock = write r.parent (Some r.label) }) m.locks more (inr (inl refl))),
              ),
            )
