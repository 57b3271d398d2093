use Rattle.model.proofs.Health.{health, alike}
use Rattle.model.proofs.states_are_healthy.Goals as goal

pub returns : goal.returns
returns c = record { law = (health, alike) }
