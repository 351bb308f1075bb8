use Rattle.dependencies.proofs.Lawful.{whole_in_list_order}
use Rattle.dependencies.proofs.laws.every_whole_schedule_gives_list_order.Goals as goal

pub returns : goal.returns
returns c = whole_in_list_order
