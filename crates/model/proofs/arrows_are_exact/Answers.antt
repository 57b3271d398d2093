use Rattle.model.proofs.Rings.{reach_exact, ring_exact, withdraw_exact}
use Rattle.model.proofs.arrows_are_exact.Goals as goal

pub returns : goal.returns
returns c = record { law = (reach_exact, ring_exact, withdraw_exact) }
