use Rattle.std.proofs.Common.{◌≡◌, ℕ, cond, List, [], ◌∷◌, ◌++◌, map, length, take, drop, None, refl, ap, ◌∙◌}
use Rattle.std.proofs.lemmas.Result.{err_from_is_err_and}
use Rattle.path.specs.declared.coded.CodedPath.{CodedPath}
use Rattle.tree.specs.declared.record.Record.{Record}
use Rattle.tree.specs.Stores.{Meaning, holding}
use Rattle.tree.specs.Trees.{actual}
use Rattle.walks.specs.Buffers.{filled}
use Rattle.walks.specs.Changes.{learns_at}
use Rattle.walks.proofs.Tagged.{learns_low}
use Rattle.model.specs.Numbers.{member}
use Rattle.model.specs.Rules.{asks, found, query}
use Rattle.model.specs.Scheduler.{acts, place_of}
use Rattle.model.specs.Locks.{Lock, read}
use Rattle.model.specs.Changes.{learns, asked}
use Rattle.model.specs.Refusals.{Rows, first_row, book_row, ring_row, ask_rows}
use Rattle.model.specs.Calls.{step}
use Rattle.desk.specs.States.{state}
use Rattle.desk.proofs.Rows.{rows_here, judged}
use Rattle.sched.specs.Judging.{but_last}
use Rattle.sched.proofs.Reaching.{next_reached}
use Rattle.sched.proofs.Acting.{no_row}
use Rattle.sched.proofs.Asking.{past_short, asked_at}
use Rattle.sched.proofs.Lent.{lent}
use Rattle.sched.proofs.scheduler.Scheduler.ask.Given.{Over}
use Rattle.sched.proofs.scheduler.Scheduler.ask.Goals.{After-write}
use Rattle.sched.proofs.scheduler.Scheduler.ask.Goals as goal

pub returns-in_err-has_rows-clause-step : goal.returns-in_err-has_rows-clause-step
returns-in_err-has_rows-clause-step g c =
    let s = c.self.inside.station in
    let m = state (g.S.Store.meaning s.store).records (g.S.Store.meaning s.store).most s.desk in
    let t = c.args.ticket in
    let q = c.args.query.now in
    let room = length c.args.buffer.now in
    let last : Rows = ring_row m (place_of m t) (asks t q.top q.path) ∷ [] in
    let p = err_from_is_err_and c.from_residual-in_err-has_rows.result c.from_residual-in_err-has_rows.ensures.1 in
    let begun = rw (← c.self.view_is) at c.in_ok-place.ensures.rows in
    let rows = past_short m t q.top q.path room c.len-count.result (book_row m 1 ∷ last) begun (c.len-count.ensures ∙ ap length c.find.ensures) c.if-buffer-count.false
    ∙ rows_here (book_row m 1 ∷ []) last _ (c.in_err-has_rows.ensures.rows m.records m.limit) in
    rw (← c.self.view_is, p.1, p.2) (judged (ask_rows m room t q.top q.path) _ m (asked m t q.top q.path) rows)

-- what the buffer holds is what the query answers, and then what it held
written : (g : Over) (c : After-write g) →
    let s = c.self.inside.station in
    let q = c.args.query.now in
    let k = c.len-count.result in
    let names = query (actual (g.S.Store.meaning s.store).records) q.top q.path in
    (take k c.write.new.buffer ≡ names) × (c.write.new.buffer ≡ take k c.write.new.buffer ++ drop k c.args.buffer.now)
written g c =
    let q = c.args.query.now in
    let k = c.len-count.result in
    let names = query (actual (g.S.Store.meaning c.self.inside.station.store).records) q.top q.path in
    let count : k ≡ length names = c.len-count.ensures ∙ ap length c.find.ensures in
    lent names c.args.buffer.now c.write.new.buffer k count c.if-buffer-count.false (c.write.ensures ∙ ap (λ (ns : List ℕ). filled ns c.args.buffer.now) c.find.ensures)

asked_by : (g : Over) (c : After-write g) →
    let s = c.self.inside.station in
    let q = c.args.query.now in
    step (state (g.S.Store.meaning s.store).records (g.S.Store.meaning s.store).most s.desk) (acts (length c.args.buffer.now) (asks c.args.ticket q.top q.path))
    ≡ (state (g.S.Store.meaning c.teach.new.store).records (g.S.Store.meaning c.teach.new.store).most c.grant.new.self, found (take c.len-count.result c.write.new.buffer))
asked_by g c =
    let s = c.self.inside.station in
    let t = c.args.ticket in
    let n = c.args.query.now.top in
    let path = c.args.query.now.path in
    let room = length c.args.buffer.now in
    let rs = (g.S.Store.meaning s.store).records in
    let limit = (g.S.Store.meaning s.store).most in
    let m = state rs limit s.desk in
    let p = c.in_ok-place.place in
    let ls : List (Lock CodedPath) = read n path ∷ [] in
    let names = query (actual rs) n path in
    let at = rw (← c.self.view_is) at c.in_ok-place.ensures.place in
    let begun = rw (← c.self.view_is) at c.in_ok-place.ensures.rows in
    let apart = c.in_ok-rivals.ensures.rows at.low in
    let front : first_row (but_last (ask_rows m room t n path)) ≡ None =
    past_short m t n path room c.len-count.result (book_row m 1 ∷ []) begun (c.len-count.ensures ∙ ap length c.find.ensures) c.if-buffer-count.false ∙ c.in_ok-has_rows.ensures.rows rs limit in
    let none = no_row m t (asks t n path) p ls at.place refl (but_last (ask_rows m room t n path)) front apart in
    let ss = map (λ (r : Record). cond (member r.name names) (learns p r) r) rs in
    let known = c.teach.ensures.after ∙ (ap (λ (ns : List ℕ). holding (g.S.Store.meaning s.store) (map (λ (r : Record). cond (member r.name ns) (learns_at p r) r) rs)) (c.as_slice.ensures ∙ c.find.ensures)
    ∙ ap (holding (g.S.Store.meaning s.store)) (learns_low p names rs at.low)) in
    let done = c.grant.ensures rs ss limit at.low c.in_ok-has_rows.ensures.room c.in_ok-rivals.ensures.rivals in
    let after = ap (λ (v : Meaning). state v.records v.most c.grant.new.self) known ∙ done in
    judged (ask_rows m room t n path) None m (asked m t n path) none
    ∙ asked_at m t n path (state (g.S.Store.meaning c.teach.new.store).records (g.S.Store.meaning c.teach.new.store).most c.grant.new.self) p (take c.len-count.result c.write.new.buffer) at.place (written g c).0 after

pub invariant_of-self-3 : goal.invariant_of-self-3
invariant_of-self-3 g c =
    let q = c.args.query.now in
    next_reached (acts (length c.args.buffer.now) (asks c.args.ticket q.top q.path)) (found (take c.len-count.result c.write.new.buffer)) (asked_by g (goal.at.invariant_of-self-3 g c).After-write) c.self.invariant

pub returns-clause-step : goal.returns-clause-step
returns-clause-step g c = rw (← c.self.view_is) (asked_by g (goal.at.returns-clause-step g c).After-write)

pub returns-clause-lent : goal.returns-clause-lent
returns-clause-lent g c = (c.if-buffer-count.false, (written g (goal.at.returns-clause-lent g c).After-write).1)
