use Rattle.std.proofs.Common.{not, ap, ◌∙◌}
use Rattle.model.specs.Scheduler.{untouched}
use Rattle.walks.proofs.Chosen.{not_some}
use Rattle.walks.proofs.choice.fit_for.Goals as goal

pub returns : goal.returns
returns g c = record { answer = ap not c.has_chosen.ensures ∙ not_some (untouched c.args.first) ((g.S.Store.meaning c.args.store.now).records) }
