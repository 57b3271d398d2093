use Rattle.model.proofs.Law.{lasting}
use Rattle.model.proofs.finished_stays.Goals as goal

pub returns : goal.returns
returns c = record { law = lasting }
