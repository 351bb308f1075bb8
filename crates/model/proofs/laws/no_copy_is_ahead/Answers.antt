use Rattle.model.proofs.BeginLaws.{copy-up_to}
use Rattle.model.proofs.laws.no_copy_is_ahead.Goals as goal

pub returns : goal.returns
returns c writes nodes keys ts copies = copy-up_to writes nodes keys ts copies
