use Rattle.std.proofs.Common.{◌≡◌, ℕ, not, eqb, [], ◌∷◌, None, sym, ap, ◌∙◌}
use Rattle.words.specs.Words.{bit}
use Rattle.tree.specs.declared.record.Record.{Record}
use Rattle.tree.specs.Lists.{keep}
use Rattle.tree.specs.Stores.{Meaning, holding}
use Rattle.model.specs.Numbers.{member}
use Rattle.model.specs.Rules.{finished}
use Rattle.model.specs.Scheduler.{Model, place_of}
use Rattle.model.specs.Changes.{ended}
use Rattle.model.specs.Refusals.{first_row, finish_rows}
use Rattle.desk.specs.States.{state, forgotten}
use Rattle.desk.proofs.Rows.{judged}
use Rattle.sched.proofs.Reaching.{marked_downward, one_more_fits}
use Rattle.sched.proofs.Words.{one_place}
use Rattle.sched.proofs.station.Station.finish.Goals as goal

pub returns : goal.returns
returns g c go =
    let s = c.args.self.now in
    let t = c.args.ticket in
    let rs = (g.S.Store.meaning s.store).records in
    let limit = (g.S.Store.meaning s.store).most in
    let m = state rs limit s.desk in
    let ps = place_of m t ∷ [] in
    let left = keep (λ (r : Record). not (eqb r.mark t)) rs in
    let rows : first_row (finish_rows m t) ≡ None = c.in_ok-place.ensures.rows rs limit in
    let at = c.in_ok-place.ensures.place in
    let bits : (i : ℕ) → bit c.with-places.result i ≡ member i ps =
    λ i. one_place c.with-places.result c.in_ok-place.place at.1 c.with-places.ensures i ∙ ap (λ (p : ℕ). member i (p ∷ [])) (at.0 rs limit) in
    let dropped = c.drop_marked.ensures.left (marked_downward m t go rows) in
    let forgot = c.forget.ensures.listed ps bits ∙ ap (λ (x : Meaning). holding x (forgotten ps x.records)) dropped in
    let freed = c.free.ensures rs left limit ps bits (one_more_fits m t go rows) in
    let after : (ended m t).0 ≡ state (g.S.Store.meaning c.forget.new.store).records (g.S.Store.meaning c.forget.new.store).most c.free.new.self =
    sym freed ∙ (λ x. state (sym forgot x).records (sym forgot x).most c.free.new.self) in
    judged (finish_rows m t) None m (ended m t) rows ∙ ap (λ (n : Model). (n, finished n.done)) after
