-- An action that changes only marks and notes keeps the records of the tie, and every count of additions.
use Rattle.std.proofs.Common.{◌≡◌, ℕ, ◌+◌, ◌<◌, true, false, ◌≢◌, ◌⊎◌, List, ◌∷◌, map, sym, ap, ◌∙◌, subst, inl, inr, arith}
use native.Mathlib.Decide.{ℕ_discrete}
use Rattle.words.specs.Words.{bit}
use Rattle.path.specs.declared.coded.CodedPath.{CodedPath}
use Rattle.tree.specs.Trees.{Depth, Node, bare}
use Rattle.tree.specs.declared.record.Record.{Record}
use Rattle.model.specs.Paths.{fits, fits_any}
use Rattle.model.specs.Rules.{Action, Answer}
use Rattle.model.specs.Locks.{locks_of}
use Rattle.model.specs.Scheduler.{Model, acts, not_open, place_of}
use Rattle.model.specs.Changes.{grant}
use Rattle.model.specs.History.{Log, accepted, actor, block}
use Rattle.model.proofs.Events.{In, Event, Makes, Takes, Shows, count, tally, State, All}
use Rattle.model.proofs.MixedRun.{Ground, Adds, act, Recorded, TakesTurn}
use Rattle.model.proofs.Keys.{map_from, map_up, Up}
use Rattle.model.proofs.Tied.{event_of, events, st, mix, Books, Seats, Tied, block_own, block_other}
use Rattle.model.proofs.Replays.{history, history_act}
use Rattle.tree.proofs.Trees.{nodes_same}
use Rattle.model.proofs.Acted.{rec_more, rec_less}

module _ (g : Ground) (gf : g.fits ≡ fits) (ga : g.fits_any ≡ fits_any) (h : Log) (m : Model) (nx : ℕ) (ti : Tied g h m nx) where
  abbrev S : State CodedPath
  S = st h m

  abbrev R : List Record
  R = m.records

  abbrev bk : Books g (st h m) (history g ti.reach) m.tickets m.records
  bk = ti.books

  abbrev sts : Seats g (st h m) (history g ti.reach) m
  sts = ti.seats

  -- ── where the records keep their names, parents and labels, and nothing is added ──
  module _ (room : ℕ) (b : Action) (a : Answer) (f : Record → Record) (added : ℕ → ℕ) (acc : accepted a ≡ true) (op : not_open m (actor b) ≡ false) (tk : TakesTurn g (mix h m nx) (event_of b a) (mix ((acts room b, a) ∷ h) (grant m (place_of m (actor b)) (locks_of m.records b) (map f m.records) added) nx))
      (same : (r : Record) → bare (f r) ≡ bare r) (none_added : (y : Node) → ¬ (Adds (event_of b a) y)) where
    abbrev m' : Model
    m' = grant m (place_of m (actor b)) (locks_of m.records b) (map f m.records) added

    abbrev h' : Log
    h' = (acts room b, a) ∷ h

    abbrev S' : State CodedPath
    S' = st h' m'

    abbrev hist' : List Node
    hist' = history g (act ti.reach (event_of b a) (mix h' m' nx) tk)

    pub same_books : ((r : Record) → In r R → (u : ℕ) (d : Event CodedPath) → S'.Open u → In d (S'.block u) → Takes d r.name → (f r).mark ≡ u)
        → ((r : Record) → In r R → (f r).mark ≢ 0 → S'.Open (f r).mark × (d : Event CodedPath) × In d (S'.block (f r).mark) × Takes d r.name)
        → ((r : Record) → In r R → (i : ℕ) → bit (f r).note i ≡ true → m.tickets i ≢ 0 → (d : Event CodedPath) × In d (S'.block (m.tickets i)) × (Makes d r.name ⊎ Shows d r.name))
        → ((r : Record) → In r R → (i : ℕ) → i < 32 → m.tickets i ≡ 0 → bit (f r).note i ≡ false)
        → Books g S' hist' m.tickets (map f R)
    same_books mo mb nk nf = record {
      up = subst Up (sym (map_up (λ (r : Record). r.name) f (λ r. ap (λ (y : Node). y.name) (same r)) R)) bk.up;
      leads = subst (λ ys. (y : Node) → In y ys → (d : ℕ) × Depth ys y.name d) (sym (nodes_same f same R)) bk.leads;
      from = λ r i. let q = map_from f R r i in let k = bk.from q.0 q.1 in (
        rec_more g gf ga h m nx ti room b a (map f R) added acc op (bare r) (subst (Recorded g (All S)) (sym (ap bare q.2 ∙ same q.0)) k.0),
        λ t. k.1 (t.0, t.1, subst (Takes t.0) (ap (λ (v : Record). v.name) q.2 ∙ ap (λ (y : Node). y.name) (same q.0)) t.2),
      );
      to = λ y rc ng. subst (In y) (sym (nodes_same f same R))
          (elim (rec_less g gf ga h m nx ti room b a (map f R) added acc op y rc) [ inl k ↦ bk.to y k ng | inr ad ↦ absurd (none_added y ad) ]);
      listed = λ y i. history_act g ti.reach (event_of b a) (mix h' m' nx) tk y (bk.listed y (subst (In y) (nodes_same f same R) i));
      gone_listed = λ d i x k. let z = bk.gone_listed d i x k in (z.0, history_act g ti.reach (event_of b a) (mix h' m' nx) tk z.0 z.1, z.2);
      mark_of = λ r i u d o j k. let q = map_from f R r i in
          ap (λ (v : Record). v.mark) q.2 ∙ mo q.0 q.1 u d o j (subst (Takes d) (nm q.0 r q.2) k);
      mark_by = λ r i nz. let q = map_from f R r i in let mk : r.mark ≡ (f q.0).mark = ap (λ (v : Record). v.mark) q.2 in
          let k = mb q.0 q.1 (λ z. nz (mk ∙ z)) in
          (subst S'.Open (sym mk) k.0, k.1, subst (λ v. In k.1 (S'.block v)) (sym mk) k.2, subst (Takes k.1) (sym (nm q.0 r q.2)) k.3);
      note_known = λ r i j noted t. let q = map_from f R r i in
          let k = nk q.0 q.1 j (ap (λ (v : Record). bit v.note j) (sym q.2) ∙ noted) t in
          (k.0, k.1, subst (λ v. Makes k.0 v ⊎ Shows k.0 v) (sym (nm q.0 r q.2)) k.2);
      note_free = λ r i j lt z. let q = map_from f R r i in ap (λ (v : Record). bit v.note j) q.2 ∙ nf q.0 q.1 j lt z;
    }
      where
        nm : (r0 : Record) (r : Record) → r ≡ f r0 → r.name ≡ r0.name
        nm r0 r e = ap (λ (v : Record). v.name) e ∙ ap (λ (y : Node). y.name) (same r0)

    -- the counts, where no addition is counted
    pub same_count : ((u : ℕ) → tally u (event_of b a) ≡ 0) → (u : ℕ) → count u (S.block u) ≡ count u (S'.block u)
    same_count no_tally u = go (ℕ_discrete u (actor b))
      where
        go : Dec (u ≡ actor b) → count u (S.block u) ≡ count u (S'.block u)
        go (no ne) = sym (ap (λ xs. count u (events xs)) (block_other room b a h u ne))
        go (yes q) =
            let z : tally u (event_of b a) ≡ 0 = no_tally u in
            let one : count u (events (block (actor b) h')) ≡ tally u (event_of b a) + count u (events (block (actor b) h)) = ap (λ xs. count u (events xs)) (block_own room b a h acc) in
            let two : count u (events (block (actor b) h)) ≡ count u (events (block (actor b) h')) = omega arith in
            subst (λ v. count u (events (block v h)) ≡ count u (events (block v h'))) (sym q) two
