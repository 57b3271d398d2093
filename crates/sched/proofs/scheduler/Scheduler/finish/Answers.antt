use Rattle.model.specs.Scheduler.{finishes}
use Rattle.calls.specs.Answers.{finish_answer}
use Rattle.sched.proofs.Reaching.{next_reached}
use Rattle.sched.proofs.scheduler.Scheduler.finish.Goals as goal

pub invariant_of-self : goal.invariant_of-self
invariant_of-self g c = next_reached (finishes c.args.ticket) (finish_answer c.finish.result) (c.finish.ensures c.self.invariant) c.self.invariant

pub returns : goal.returns
returns g c = rw (← c.self.view_is) (c.finish.ensures c.self.invariant)
