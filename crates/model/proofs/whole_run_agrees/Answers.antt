use Rattle.model.proofs.Law.{whole}
use Rattle.model.proofs.whole_run_agrees.Goals as goal

pub returns : goal.returns
returns c = record { law = whole }
