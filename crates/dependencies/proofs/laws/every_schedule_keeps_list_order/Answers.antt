use Rattle.dependencies.proofs.Lawful.{in_list_order}
use Rattle.dependencies.proofs.laws.every_schedule_keeps_list_order.Goals as goal

pub returns : goal.returns
returns c = in_list_order
