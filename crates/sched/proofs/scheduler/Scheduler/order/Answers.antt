use Rattle.std.proofs.Common.{◌≡◌, ◌≤◌, length, take, None, sym, ap, ◌∙◌, arith}
use Rattle.std.proofs.lemmas.Bool.{ltb-false}
use Rattle.model.specs.Rules.{ordered}
use Rattle.model.specs.Scheduler.{order}
use Rattle.model.specs.Refusals.{order_rows}
use Rattle.desk.proofs.Rows.{passed, judged}
use Rattle.sched.specs.Whole.{state_of}
use Rattle.sched.proofs.Lent.{front_is, rest_stays}
use Rattle.sched.proofs.scheduler.Scheduler.order.Given.{Over}
use Rattle.sched.proofs.scheduler.Scheduler.order.Goals.{After-len}
use Rattle.sched.proofs.scheduler.Scheduler.order.Goals as goal

room_for : (g : Over) (c : After-len g) → length c.as_slice.result.now ≤ length c.args.buffer.now
room_for g c =
    let m = state_of c.args.self.now in
    let tests = passed (order_rows m (length c.args.buffer.now)) c.in_ok-tickets.ensures.rows in
    let enough = ltb-false (length c.args.buffer.now) (length (order m)) tests.1.0 in
    let same = ap length (c.as_slice.ensures ∙ c.in_ok-tickets.ensures.order) in
    omega arith

counted : (g : Over) (c : After-len g) → c.len.result ≡ length c.as_slice.result.now
counted g c = c.len.ensures.value ∙ sym (ap length c.as_slice.ensures)

pub returns-clause-step : goal.returns-clause-step
returns-clause-step g c =
    let m = state_of c.args.self.now in
    let n = c.len.result in
    let written = sym (c.as_slice.ensures ∙ c.in_ok-tickets.ensures.order) ∙ (sym (front_is c.as_slice.result.now c.args.buffer.now n (counted g c) (room_for g c)) ∙ ap (take n) (sym c.fill.ensures)) in
    judged (order_rows m (length c.args.buffer.now)) None m (m, ordered (order m)) c.in_ok-tickets.ensures.rows ∙ (λ z. (m, ordered (written z)))

pub returns-clause-lent : goal.returns-clause-lent
returns-clause-lent g c =
    let enough = room_for g c in
    let count = counted g c in
    (omega arith, rw c.fill.ensures (rest_stays c.as_slice.result.now c.args.buffer.now c.len.result count enough))
