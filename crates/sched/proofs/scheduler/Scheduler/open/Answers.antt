use Rattle.model.specs.Scheduler.{opens}
use Rattle.calls.specs.Answers.{open_answer}
use Rattle.sched.proofs.Reaching.{next_reached}
use Rattle.sched.proofs.scheduler.Scheduler.open.Goals as goal

pub invariant_of-self : goal.invariant_of-self
invariant_of-self g c = next_reached opens (open_answer c.open.result) c.open.ensures c.self.invariant
