use Rattle.model.proofs.Examples.{examples}
use Rattle.model.proofs.examples_compute.Goals as goal

pub returns : goal.returns
returns c = record { law = examples }
