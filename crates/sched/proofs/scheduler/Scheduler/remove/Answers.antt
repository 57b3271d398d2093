use Rattle.model.specs.Rules.{removes}
use Rattle.model.specs.Scheduler.{acts}
use Rattle.calls.specs.Answers.{remove_answer}
use Rattle.sched.proofs.Reaching.{next_reached}
use Rattle.sched.proofs.scheduler.Scheduler.remove.Goals as goal

pub invariant_of-self : goal.invariant_of-self
invariant_of-self g c = next_reached (acts 0 (removes c.args.ticket c.args.node)) (remove_answer c.remove.result) (c.remove.ensures 0) c.self.invariant

pub returns : goal.returns
returns g c room = rw (← c.self.view_is) (c.remove.ensures room)
