use Rattle.model.proofs.DeltaLaws.{sending_order-strict}
use Rattle.model.proofs.laws.sending_orders_are_strict.Goals as goal

pub returns : goal.returns
returns c = sending_order-strict
