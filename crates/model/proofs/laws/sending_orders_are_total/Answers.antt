use Rattle.model.proofs.DeltaLaws.{sending_order-total}
use Rattle.model.proofs.laws.sending_orders_are_total.Goals as goal

pub returns : goal.returns
returns c = sending_order-total
