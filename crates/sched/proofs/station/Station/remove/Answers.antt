use Rattle.std.proofs.Common.{◌≡◌, ◌+◌, cond, eqb, List, [], ◌∷◌, map, length, Some, None, Option, sym, ap, ◌∙◌}
use Rattle.std.proofs.lemmas.Bool.{ltb-false}
use Rattle.path.specs.declared.coded.CodedPath.{CodedPath}
use Rattle.tree.specs.declared.record.Record.{Record}
use Rattle.model.specs.Rules.{removes, removed}
use Rattle.model.specs.Locks.{Lock, write, removal_locks, locks_of}
use Rattle.model.specs.Changes.{with_mark, taken}
use Rattle.model.specs.Refusals.{remove_rows}
use Rattle.desk.specs.States.{state}
use Rattle.desk.proofs.Rows.{passed, judged}
use Rattle.sched.specs.Judging.{but_last}
use Rattle.sched.proofs.Acting.{no_row, granted}
use Rattle.sched.proofs.station.Station.remove.Goals as goal

pub returns : goal.returns
returns g c room =
    let s = c.args.self.now in
    let t = c.args.ticket in
    let n = c.args.node in
    let rs = (g.S.Store.meaning s.store).records in
    let limit = (g.S.Store.meaning s.store).most in
    let m = state rs limit s.desk in
    let r = c.in_ok-place.«record» in
    let p = c.in_ok-place.place in
    let at = c.in_ok-place.ensures.place in
    let there = c.in_ok-place.ensures.node in
    let front = c.in_ok-place.ensures.rows in
    let ls : List (Lock CodedPath) = write n None ∷ write r.parent (Some r.label) ∷ [] in
    let own : ls ≡ locks_of rs (removes t n) = sym (ap (λ (o : Option Record). removal_locks o n) there) in
    let apart = c.in_ok-rivals.ensures.rows at.low in
    let found = c.in_ok-rivals.ensures.rivals in
    let tests = passed (but_last (remove_rows m t n)) front in
    let none = no_row m t (removes t n) p ls at.place own (but_last (remove_rows m t n)) front apart in
    let fits = ltb-false 256 (length m.locks + 2) tests.1.1.1.1.1.1.0 in
    let ss = map (λ (x : Record). cond (eqb x.name n) (with_mark x t) x) rs in
    let done = c.grant.ensures rs ss limit at.low fits found in
    let after = granted m t (removes t n) p ls at.place own (state ss limit c.grant.new.self) ss m.added done in
    judged (remove_rows m t n) None m (taken m t n) none
    ∙ (λ x. (after x, removed))
    ∙ (λ x. (state (sym c.mark.ensures.after x).records (sym c.mark.ensures.after x).most c.grant.new.self, removed))
