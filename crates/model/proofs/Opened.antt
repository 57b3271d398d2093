-- An open keeps the tie.
use Rattle.std.proofs.Common.{◌≡◌, ℕ, suc, ◌+◌, ◌*◌, ◌<◌, ◌≤◌, true, false, eqb, ◌≢◌, ◌⊎◌, List, [], ◌∷◌, sym, refl, ap, ◌∙◌, subst, inl, inr, arith}
use native.Mathlib.Decide.{ℕ_discrete}
use Rattle.std.proofs.lemmas.Bool.{both_ways, eqb-true, eqb-false, eq-eqb, ne_eqb, cases_Bool, cond-true, cond-false}
use Rattle.words.specs.Words.{bit}
use Rattle.path.specs.declared.coded.CodedPath.{CodedPath}
use Rattle.tree.specs.Trees.{Node, bare}
use Rattle.tree.specs.declared.record.Record.{Record}
use Rattle.model.specs.Paths.{fits, fits_any}
use Rattle.model.specs.Rules.{ticket}
use Rattle.model.specs.Scheduler.{Model, free_place, opens}
use Rattle.model.specs.Changes.{open_at}
use Rattle.model.specs.History.{Log, block}
use Rattle.model.proofs.Events.{In, Event, ask, add, rem, Makes, count, State, All, Begins}
use Rattle.model.proofs.MixedRun.{Ground, Recorded, begin}
use Rattle.model.proofs.Tied.{events, st, mix, Booked, Books, Seats, Tied, lowest_hit}
use Rattle.model.proofs.Replays.{history, reach_numbered, history_begin}

module _ (g : Ground) (gf : g.fits ≡ fits) (ga : g.fits_any ≡ fits_any) (h : Log) (m : Model) (nx : ℕ) (ti : Tied g h m nx) (room : eqb (free_place m) 32 ≡ false) (left : eqb m.next 0 ≡ false) where
  abbrev S : State CodedPath
  S = st h m

  abbrev R : List Record
  R = m.records

  abbrev bk : Books g (st h m) (history g ti.reach) m.tickets m.records
  bk = ti.books

  abbrev sts : Seats g (st h m) (history g ti.reach) m
  sts = ti.seats

  abbrev p : ℕ
  p = free_place m

  abbrev mo : Model
  mo = open_at m (free_place m)

  abbrev ho : Log
  ho = (opens, ticket m.next) ∷ h

  abbrev So : State CodedPath
  So = st ho mo

  hit : (eqb (m.tickets p) 0 ≡ true) × (p < 32)
  hit = lowest_hit (λ i. eqb (m.tickets i) 0) (eqb-false (free_place m) 32 room)

  free_p : m.tickets p ≡ 0
  free_p = eqb-true (m.tickets p) 0 hit.0

  is_nx : m.next ≡ nx
  is_nx = elim ti.next [ inl z ↦ absurd (eqb-false m.next 0 left z) | inr e ↦ e ]

  at_p : (i : ℕ) → i ≡ p → (mo.tickets i ≡ nx) × (mo.added i ≡ 0)
  at_p i e = (cond-true (eqb i p) m.next (m.tickets i) (eq-eqb i p e) ∙ is_nx, cond-true (eqb i p) 0 (m.added i) (eq-eqb i p e))

  off_p : (i : ℕ) → i ≢ p → (mo.tickets i ≡ m.tickets i) × (mo.added i ≡ m.added i)
  off_p i ne = (cond-false (eqb i p) m.next (m.tickets i) (ne_eqb i p ne), cond-false (eqb i p) 0 (m.added i) (ne_eqb i p ne))

  taken_off : (i : ℕ) → m.tickets i ≢ 0 → i ≢ p
  taken_off i nz e = nz (ap m.tickets e ∙ free_p)

  low : (i : ℕ) → m.tickets i ≢ 0 → m.tickets i < nx
  low i nz = (reach_numbered g ti.reach).low (m.tickets i) (nz, i, refl)

  none_new : events (block nx h) ≡ []
  none_new = ap events (ti.new nx (omega arith))

  -- a place that is taken now
  side : (i : ℕ) → mo.tickets i ≢ 0 → ((i ≡ p) × (mo.tickets i ≡ nx)) ⊎ ((i ≢ p) × (mo.tickets i ≡ m.tickets i) × (m.tickets i ≢ 0))
  side i nz = go (ℕ_discrete i p)
    where
      go : Dec (i ≡ p) → ((i ≡ p) × (mo.tickets i ≡ nx)) ⊎ ((i ≢ p) × (mo.tickets i ≡ m.tickets i) × (m.tickets i ≢ 0))
      go (yes e) = inl (e, (at_p i e).0)
      go (no ne) = inr (ne, (off_p i ne).0, λ z. nz ((off_p i ne).0 ∙ z))

  begins : Begins S nx So
  begins = record {
    not_open = λ o. (let lt = low o.1 (λ z. o.0 (sym o.2 ∙ z)) in let e = o.2 in omega arith);
    not_past = λ d i e. (let lt = ti.past_low d i in omega arith);
    empty = none_new;
    others = λ u ne. refl;
    same_fin = refl;
    open_to = λ u o. (o.0, o.1, (off_p o.1 (taken_off o.1 (λ z. o.0 (sym o.2 ∙ z)))).0 ∙ o.2);
    open_from = λ u o. elim (side o.1 (λ z. o.0 (sym o.2 ∙ z))) [ inl q ↦ inr (sym o.2 ∙ q.1) | inr q ↦ inl (o.0, o.1, sym q.1 ∙ o.2) ];
    arrow_old = λ u v x. let e = sts.arrow_ends x.0 x.1 x.4 in
        (x.0, x.1, (off_p x.0 (taken_off x.0 e.0)).0 ∙ x.2, (off_p x.1 (taken_off x.1 e.1)).0 ∙ x.3, x.4);
    arrow_only = λ u v x. let e = sts.arrow_ends x.0 x.1 x.4 in
        (x.0, x.1, sym (off_p x.0 (taken_off x.0 e.0)).0 ∙ x.2, sym (off_p x.1 (taken_off x.1 e.1)).0 ∙ x.3, x.4);
  }

  abbrev hist_o : List Node
  hist_o = history g (begin ti.reach (mix ho mo (suc nx)) begins refl)

  more_o : (y : Node) → In y (history g ti.reach) → In y hist_o
  more_o y i = history_begin g ti.reach (mix ho mo (suc nx)) begins refl y i

  open_was : (u : ℕ) (d : Event CodedPath) → So.Open u → In d (S.block u) → S.Open u
  open_was u d o i = elim (begins.open_from u o) [ inl q ↦ q | inr e ↦ absurd (subst (In d) (ap (λ v. events (block v h)) e ∙ none_new) i) ]

  rec_to : (y : Node) → Recorded g (All S) y → Recorded g (All So) y
  rec_to y (inl i) = inl i
  rec_to y (inr (d, inl i, ad)) = inr (d, inl i, ad)
  rec_to y (inr (d, inr (u, o, i), ad)) = inr (d, inr (u, begins.open_to u o, i), ad)

  rec_from : (y : Node) → Recorded g (All So) y → Recorded g (All S) y
  rec_from y (inl i) = inl i
  rec_from y (inr (d, inl i, ad)) = inr (d, inl i, ad)
  rec_from y (inr (d, inr (u, o, i), ad)) = inr (d, inr (u, open_was u d o i, i), ad)

  booked_more : (i : ℕ) (d : Event CodedPath) → Booked (history g ti.reach) m.locks i d → Booked hist_o m.locks i d
  booked_more i (ask t n q xs) bo = bo
  booked_more i (add t n c x) bo = bo
  booked_more i (rem t n) bo = let z = bo.1 in (bo.0, (z.0, more_o z.0 z.1, z.2, z.3))

  pub opened_tied : Tied g ho mo (suc nx)
  opened_tied = record {
    reach = begin ti.reach (mix ho mo (suc nx)) begins refl;
    books = record {
      up = bk.up;
      leads = bk.leads;
      from = λ r i. let f = bk.from r i in (rec_to (bare r) f.0, f.1);
      to = λ y rc ng. bk.to y (rec_from y rc) ng;
      listed = λ y i. more_o y (bk.listed y i);
      gone_listed = λ d i x tk. let q = bk.gone_listed d i x tk in (q.0, more_o q.0 q.1, q.2);
      mark_of = λ r i u d o j tk. bk.mark_of r i u d (open_was u d o j) j tk;
      mark_by = λ r i nz. let q = bk.mark_by r i nz in (begins.open_to r.mark q.0, q.1, q.2, q.3);
      note_known = λ r i j noted nz. elim (side j nz) [
        | inl q ↦ absurd (both_ways (bit r.note j) (bk.note_free r i j (subst (λ v. v < 32) (sym q.0) hit.1) (ap m.tickets q.0 ∙ free_p)) noted)
        | inr q ↦ (let w = bk.note_known r i j noted q.2 in (w.0, subst (λ v. In w.0 (S.block v)) (sym q.1) w.1, w.2))
      ];
      note_free = λ r i j lt z. bk.note_free r i j lt (was_free j z (ℕ_discrete j p));
    };
    seats = record {
      place_one = λ i j e nz. one i j e (side i nz) (side j (λ z. nz (e ∙ z)));
      place_low = λ i nz. elim (side i nz) [ inl q ↦ subst (λ v. v < 32) (sym q.0) hit.1 | inr q ↦ sts.place_low i q.2 ];
      first_low = λ i nz. elim (side i nz) [ inl q ↦ subst (λ v. g.base ≤ v) (sym q.1) ti.base | inr q ↦ subst (λ v. g.base ≤ v) (sym q.1) (sts.first_low i q.2) ];
      added_count = λ i nz. elim (side i nz) [
        | inl q ↦ (at_p i q.0).1 ∙ sym (ap (λ u. count u (S.block u)) q.1 ∙ ap (count nx) none_new)
        | inr q ↦ (off_p i q.0).1 ∙ sts.added_count i q.2 ∙ ap (λ u. count u (S.block u)) (sym q.1)
      ];
      numbers = λ i nz j lo hi. elim (side i nz) [
        | inl q ↦ absurd (let e = (at_p i q.0).1 in omega arith)
        | inr q ↦ (let r = sts.numbers i q.2 j lo (subst (λ v. j ≤ v) (off_p i q.0).1 hi) in (r.0, subst (λ u. In r.0 (S.block u)) (sym q.1) r.1, subst (λ u. Makes r.0 (u * 65536 + j)) (sym q.1) r.2))
      ];
      held = λ k i z. sts.held k i (sym (off_p k.holder (taken_off k.holder (sts.held k i))).0 ∙ z);
      booked = λ i nz d j. elim (side i nz) [
        | inl q ↦ absurd (subst (In d) (ap (λ v. events (block v h)) q.1 ∙ none_new) j)
        | inr q ↦ booked_more i d (sts.booked i q.2 d (subst (λ u. In d (S.block u)) q.1 j))
      ];
      arrow_ends = λ i j x. let e = sts.arrow_ends i j x in
          (λ z. e.0 (sym (off_p i (taken_off i e.0)).0 ∙ z), λ z. e.1 (sym (off_p j (taken_off j e.1)).0 ∙ z));
    };
    fit = ti.fit;
    next = elim (cases_Bool (eqb m.next 4294967295)) [
      | inl e ↦ inl (cond-true (eqb m.next 4294967295) 0 (suc m.next) e)
      | inr e ↦ inr (cond-false (eqb m.next 4294967295) 0 (suc m.next) e ∙ ap suc is_nx)
    ];
    base = (let b = ti.base in omega arith);
    room = ti.room;
    told = ti.told;
    told_past = ti.told_past;
    new = λ t le. ti.new t (omega arith);
    past_low = λ d i. (let lt = ti.past_low d i in omega arith);
  }
    where
      was_free : (j : ℕ) → mo.tickets j ≡ 0 → Dec (j ≡ p) → m.tickets j ≡ 0
      was_free j z (yes e) = ap m.tickets e ∙ free_p
      was_free j z (no ne) = sym (off_p j ne).0 ∙ z

      one : (i j : ℕ) → mo.tickets i ≡ mo.tickets j → ((i ≡ p) × (mo.tickets i ≡ nx)) ⊎ ((i ≢ p) × (mo.tickets i ≡ m.tickets i) × (m.tickets i ≢ 0)) → ((j ≡ p) × (mo.tickets j ≡ nx)) ⊎ ((j ≢ p) × (mo.tickets j ≡ m.tickets j) × (m.tickets j ≢ 0)) → i ≡ j
      one i j e (inl a) (inl b) = a.0 ∙ sym b.0
      one i j e (inl a) (inr b) = let lt = low j b.2 in let k : m.tickets j ≡ nx = sym b.1 ∙ sym e ∙ a.1 in absurd (omega arith)
      one i j e (inr a) (inl b) = let lt = low i a.2 in let k : m.tickets i ≡ nx = sym a.1 ∙ e ∙ b.1 in absurd (omega arith)
      one i j e (inr a) (inr b) = sts.place_one i j (sym a.1 ∙ e ∙ b.1) a.2
