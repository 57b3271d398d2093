use Rattle.std.proofs.Common.{rules, length}
use Rattle.sched.proofs.scheduler.Scheduler.answer.Goals as goal

pub returns-in-Add-clause-step : goal.returns-in-Add-clause-step
returns-in-Add-clause-step g c = let by = c.add-answer.ensures (length c.args.names.now) in let r = c.map_or_else-in-Add.ensures in search rules

pub returns-in-Remove-clause-step : goal.returns-in-Remove-clause-step
returns-in-Remove-clause-step g c = let by = c.remove-answer.ensures (length c.args.names.now) in let r = c.map_or_else-in-Remove.ensures in search rules
