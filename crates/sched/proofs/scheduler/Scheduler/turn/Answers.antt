use Rattle.sched.proofs.Lawful.{lawful}
use Rattle.sched.proofs.scheduler.Scheduler.turn.Goals as goal

pub returns-clause-law : goal.returns-clause-law
returns-clause-law g c = lawful _ _ _ _ c.answer.ensures.step
