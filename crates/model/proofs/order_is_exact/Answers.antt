use Rattle.model.proofs.Order.{order_exact}
use Rattle.model.proofs.order_is_exact.Goals as goal

pub returns : goal.returns
returns c = record { law = order_exact }
