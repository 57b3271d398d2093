use Rattle.model.proofs.Law.{agreement}
use Rattle.model.proofs.runs_agree.Goals as goal

pub returns : goal.returns
returns c = record { law = agreement }
