use Rattle.std.proofs.Common.{◌≡◌, ◌<◌, ◌≤◌, not, ltb, [], ◌∷◌, length, ap, ◌∙◌, arith}
use Rattle.std.proofs.lemmas.Bool.{lt-ltb, le-ltb}
use Rattle.model.specs.Scheduler.{order}
use Rattle.seats.specs.Listed.{listed}
use Rattle.desk.specs.States.{state}
use Rattle.desk.proofs.Rows.{row_here, row_past}
use Rattle.sched.proofs.Reaching.{at_one_place}
use Rattle.sched.proofs.scheduler.Scheduler.in_order.Given.{Over}
use Rattle.sched.proofs.scheduler.Scheduler.in_order.Goals.{After-order-tickets}
use Rattle.sched.proofs.scheduler.Scheduler.in_order.Goals as goal

sequence : (g : Over) (c : After-order-tickets g) →
    let s = c.self.inside.station in
    listed c.order-tickets.result ≡ order (state (g.S.Store.meaning s.store).records (g.S.Store.meaning s.store).most s.desk)
sequence g c =
    let s = c.self.inside.station in
    c.order-tickets.ensures (at_one_place (state (g.S.Store.meaning s.store).records (g.S.Store.meaning s.store).most s.desk) c.self.invariant c.if-not-self.false)

pub returns-then-room-len-clause-rows : goal.returns-then-room-len-clause-rows
returns-then-room-len-clause-rows g c =
    let s = c.self.inside.station in
    let m = state (g.S.Store.meaning s.store).records (g.S.Store.meaning s.store).most s.desk in
    let long = ap length (sequence g (goal.at.returns-then-room-len-clause-rows g c).After-order-tickets) in
    let count = c.len.ensures.value in
    let less = c.if-room-len.true in
    let short : c.args.room < length (order m) = omega arith in
    rw (← c.self.view_is) (row_past (not m.fit) 1 ((ltb c.args.room (length (order m)), 8) ∷ []) (ap not c.if-not-self.false) ∙ row_here (ltb c.args.room (length (order m))) 8 [] (lt-ltb c.args.room (length (order m)) short))

pub returns-clause-rows : goal.returns-clause-rows
returns-clause-rows g c =
    let s = c.self.inside.station in
    let m = state (g.S.Store.meaning s.store).records (g.S.Store.meaning s.store).most s.desk in
    let long = ap length (sequence g (goal.at.returns-clause-rows g c).After-order-tickets) in
    let count = c.len.ensures.value in
    let enough = c.if-room-len.false in
    let fits : length (order m) ≤ c.args.room = omega arith in
    rw (← c.self.view_is) (row_past (not m.fit) 1 ((ltb c.args.room (length (order m)), 8) ∷ []) (ap not c.if-not-self.false) ∙ row_past (ltb c.args.room (length (order m))) 8 [] (le-ltb c.args.room (length (order m)) fits))

pub returns-clause-order : goal.returns-clause-order
returns-clause-order g c = rw (← c.self.view_is) (sequence g (goal.at.returns-clause-order g c).After-order-tickets)
