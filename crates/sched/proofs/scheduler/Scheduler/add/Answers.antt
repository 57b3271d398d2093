use Rattle.model.specs.Rules.{adds}
use Rattle.model.specs.Scheduler.{acts}
use Rattle.calls.specs.Answers.{add_answer}
use Rattle.sched.proofs.Reaching.{next_reached}
use Rattle.sched.proofs.scheduler.Scheduler.add.Goals as goal

pub invariant_of-self : goal.invariant_of-self
invariant_of-self g c = next_reached (acts 0 (adds c.args.ticket c.args.node c.args.label)) (add_answer c.add.result) (c.add.ensures c.self.invariant 0) c.self.invariant

pub returns : goal.returns
returns g c room = rw (← c.self.view_is) (c.add.ensures c.self.invariant room)
