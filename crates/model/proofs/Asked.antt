-- An ask keeps the tie: its ticket now knows what it was answered.
use Rattle.std.proofs.Common.{◌≡◌, ℕ, ◌^◌, ◌<◌, Bool, true, false, cond, ◌||◌, eqb, ◌≢◌, ◌⊎◌, List, [], ◌∷◌, map, Some, sym, refl, ap, ◌∙◌, subst, inl, inr, arith}
use lib.Bits.{bit_or}
use Rattle.std.proofs.lemmas.Bool.{both_ways, eqb-true, or_cases, cases_Bool}
use Rattle.words.specs.Words.{bit}
use Rattle.words.proofs.Bits.{bit-or, bit_one}
use Rattle.path.specs.declared.coded.CodedPath.{CodedPath}
use Rattle.tree.specs.Trees.{actual, bare}
use Rattle.tree.specs.declared.record.Record.{Record}
use Rattle.tree.specs.Records.{look}
use Rattle.model.specs.Numbers.{member}
use Rattle.model.specs.Paths.{fits, fits_any}
use Rattle.model.specs.Rules.{Action, Answer, asks, found, query}
use Rattle.model.specs.Scheduler.{Model, acts, place_of}
use Rattle.model.specs.Changes.{change, learns}
use Rattle.model.specs.Refusals.{rows}
use Rattle.model.specs.History.{Log, block}
use Rattle.model.proofs.Events.{In, Event, ask, read, Makes, Takes, Shows, Knows, count, State, All}
use Rattle.model.proofs.MixedRun.{Has, Ground, Accepts, Standing, TakesTurn}
use Rattle.model.proofs.Lists.{in_right, map_length}
use Rattle.model.proofs.Keys.{member_in}
use Rattle.model.proofs.PlainRules.{query_found, found_query, query_up, accepts_same}
use Rattle.model.proofs.Tied.{events, st, mix, Books, Seats, Tied, seat_of, Passed}
use Rattle.model.proofs.Turn.{standing_actual, actual_standing, actual_up, actual_leads, node_known, turn}
use Rattle.model.proofs.Replays.{history}
use Rattle.model.proofs.Acted.{own_in, block_sub, block_plus, acted}
use Rattle.model.proofs.Retagged.{same_books, same_count}

-- a note with one place more
learned : (p w i : ℕ) → bit (bit_or (2 ^ p) w) i ≡ (eqb i p || bit w i)
learned p w i = bit-or (2 ^ p) w i ∙ ap (λ b. b || bit w i) (bit_one p i)

module _ (g : Ground) (gf : g.fits ≡ fits) (ga : g.fits_any ≡ fits_any) (h : Log) (m : Model) (nx : ℕ) (ti : Tied g h m nx) where
  abbrev S : State CodedPath
  S = st h m

  abbrev R : List Record
  R = m.records

  abbrev bk : Books g (st h m) (history g ti.reach) m.tickets m.records
  bk = ti.books

  abbrev sts : Seats g (st h m) (history g ti.reach) m
  sts = ti.seats

  module _ (room t n : ℕ) (q : CodedPath) (ok : Passed (rows m room (asks t n q))) where
    abbrev xs : List ℕ
    xs = query (actual R) n q

    abbrev i0 : ℕ
    i0 = place_of m t

    abbrev f : Record → Record
    f r = cond (member r.name (query (actual R) n q)) (learns (place_of m t) r) r

    st_t : m.tickets i0 ≡ t
    st_t = (seat_of m t ok.1.0).1

    t≢0 : t ≢ 0
    t≢0 = (seat_of m t ok.1.0).0

    known_t : (r : Record) × (look n R ≡ Some r) × In r R × (r.name ≡ n) × (r.mark ≡ 0) × Knows (S.block t) n × Has (Standing g (All S)) n
    known_t = node_known g gf ga h m nx ti t n st_t t≢0 ok.1.1.0 ok.1.1.1.0

    ask_ok : (k : ℕ) → Accepts g (Standing g (All S)) k (ask t n q xs)
    ask_ok k = accepts_same g (λ y. In y (actual R)) (Standing g (All S)) (actual_standing g gf ga h m nx ti) (standing_actual g gf ga h m nx ti) k (ask t n q xs) (
      let z = known_t.6 in (z.0, standing_actual g gf ga h m nx ti z.0 z.1, z.2),
      λ x. (query_found g gf (actual R) (actual_up g gf ga h m nx ti) (actual_leads g gf ga h m nx ti) n q x, found_query g gf (actual R) (actual_up g gf ga h m nx ti) (actual_leads g gf ga h m nx ti) n q x),
    )

    ask_turn : TakesTurn g (mix h m nx) (ask t n q xs) (mix ((acts room (asks t n q), found xs) ∷ h) (change m (asks t n q)).0 nx)
    ask_turn = turn g gf ga h m nx ti room (asks t n q) (found xs) (map f R) m.added refl ok.1.0 known_t.5 (ask_ok (count t (S.block t)))

    f_bare : (r : Record) → bare (f r) ≡ bare r
    f_bare r = go (member r.name xs)
      where
        go : (c : Bool) → bare (cond c (learns i0 r) r) ≡ bare r
        go true = refl
        go false = refl

    f_mark : (r : Record) → (f r).mark ≡ r.mark
    f_mark r = go (member r.name xs)
      where
        go : (c : Bool) → (cond c (learns i0 r) r).mark ≡ r.mark
        go true = refl
        go false = refl

    f_note : (r : Record) (i : ℕ) → bit (f r).note i ≡ true → (bit r.note i ≡ true) ⊎ ((i ≡ i0) × In r.name xs)
    f_note r i = go (member r.name xs) refl
      where
        go : (c : Bool) → member r.name xs ≡ c → bit (cond c (learns i0 r) r).note i ≡ true → (bit r.note i ≡ true) ⊎ ((i ≡ i0) × In r.name xs)
        go true e k = elim (or_cases (eqb i i0) (bit r.note i) (sym (learned i0 r.note i) ∙ k)) [ inl z ↦ inr (eqb-true i i0 z, member_in r.name xs e) | inr z ↦ inl z ]
        go false e k = inl k

    pub asked : Tied g ((acts room (asks t n q), (change m (asks t n q)).1) ∷ h) (change m (asks t n q)).0 nx
    asked = acted g gf ga h m nx ti room b a (map f R) m.added refl ok.1.0 ask_turn
        (same_books g gf ga h m nx ti room b a f m.added refl ok.1.0 ask_turn f_bare (λ y ad. ad)
        (λ r i u d o j tk. f_mark r ∙ elim (plus u d j) [ inl k ↦ bk.mark_of r i u d o k tk | inr z ↦ absurd (subst (λ c. Takes c r.name) z.0 tk) ])
        (λ r i nz. let k = bk.mark_by r i (λ z. nz (f_mark r ∙ z)) in let s = sym (f_mark r) in
        (subst S.Open s k.0, k.1, sub (f r).mark k.1 (subst (λ v. In k.1 (S.block v)) s k.2), k.3))
        (λ r i j noted z. note r i j z (f_note r j noted))
        (λ r i j lt z. free r i j lt z (cases_Bool (bit (f r).note j))))
        (λ i i≢0. sts.added_count i i≢0 ∙ same_count g gf ga h m nx ti room b a f m.added refl ok.1.0 ask_turn f_bare (λ y ad. ad) (λ u. refl) (m.tickets i))
        (λ i i≢0 j lo hi. let k = sts.numbers i i≢0 j lo hi in (k.0, sub (m.tickets i) k.0 k.1, k.2))
        (in_right (record { holder = i0; lock = read n q }) m.locks (record { holder = i0; lock = read n q } ∷ []) (inl refl))
        (let e = map_length f R in let le = ti.room.0 in omega arith)
        (refl, refl, query_up g gf (actual R) (actual_up g gf ga h m nx ti) (actual_leads g gf ga h m nx ti) n q)
      where
        b : Action
        b = asks t n q

        a : Answer
        a = found xs

        sub : (u : ℕ) (d : Event CodedPath) → In d (S.block u) → In d (events (block u ((acts room b, a) ∷ h)))
        sub = block_sub g gf ga h m nx ti room b a (map f R) m.added refl ok.1.0

        plus : (u : ℕ) (d : Event CodedPath) → In d (events (block u ((acts room b, a) ∷ h))) → In d (S.block u) ⊎ ((d ≡ ask t n q xs) × (u ≡ t))
        plus = block_plus g gf ga h m nx ti room b a (map f R) m.added refl ok.1.0

        note : (r : Record) → In r R → (j : ℕ) → m.tickets j ≢ 0 → (bit r.note j ≡ true) ⊎ ((j ≡ i0) × In r.name xs) → (d : Event CodedPath) × In d (events (block (m.tickets j) ((acts room b, a) ∷ h))) × (Makes d r.name ⊎ Shows d r.name)
        note r i j z (inl noted) = let k = bk.note_known r i j noted z in (k.0, sub (m.tickets j) k.0 k.1, k.2)
        note r i j z (inr w) = (ask t n q xs, subst (λ v. In (ask t n q xs) (events (block v ((acts room b, a) ∷ h)))) (sym st_t ∙ ap m.tickets (sym w.0)) (own_in g gf ga h m nx ti room b a (map f R) m.added refl ok.1.0), inr w.1)

        free : (r : Record) → In r R → (j : ℕ) → j < 32 → m.tickets j ≡ 0 → (bit (f r).note j ≡ true) ⊎ (bit (f r).note j ≡ false) → bit (f r).note j ≡ false
        free r i j lt z (inr e) = e
        free r i j lt z (inl e) = elim (f_note r j e) [ inl noted ↦ absurd (both_ways (bit r.note j) (bk.note_free r i j lt z) noted) | inr w ↦ absurd (t≢0 (sym st_t ∙ ap m.tickets (sym w.0) ∙ z)) ]
