use Rattle.sched.proofs.scheduler.Scheduler.has_history.Goals as goal

pub returns : goal.returns
returns g c = rw (← c.self.view_is) c.self.invariant
