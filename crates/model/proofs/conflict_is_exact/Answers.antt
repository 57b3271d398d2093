use Rattle.model.proofs.Descents.{fit_exact, way_exact, conflict_exact}
use Rattle.model.proofs.conflict_is_exact.Goals as goal

pub returns : goal.returns
returns c = record { law = (fit_exact, way_exact, conflict_exact) }
