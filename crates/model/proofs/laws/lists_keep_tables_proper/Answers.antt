use Rattle.model.proofs.FoldLaws.{before_tables, before_proper}
use Rattle.model.proofs.laws.lists_keep_tables_proper.Goals as goal

pub returns : goal.returns
returns c rules nodes keys ts es planned tables proper i =
    (before_tables rules nodes keys es ts planned tables i, before_proper rules nodes keys es ts planned tables proper i)
