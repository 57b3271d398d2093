use Rattle.std.proofs.Common.{◌∙◌}
use Rattle.model.specs.Ways.{child_of}
use Rattle.walks.proofs.Chosen.{some_actual}
use Rattle.walks.proofs.choice.has_live_child.Goals as goal

pub returns : goal.returns
returns g c = record { answer = c.has_chosen.ensures ∙ some_actual (child_of c.args.name) ((g.S.Store.meaning c.args.store.now).records) }
