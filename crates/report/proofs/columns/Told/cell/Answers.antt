use Rattle.std.proofs.Common.{ap, ◌∙◌}
use Rattle.report.specs.inner.Cells.{is_plain}
use Rattle.report.proofs.ColumnFacts.{plain_name}
use Rattle.report.proofs.columns.Told.cell.Goals as goal

pub returns-in-Names-clause-plain : goal.returns-in-Names-clause-plain
returns-in-Names-clause-plain c = ap is_plain c.name.ensures ∙ plain_name c.args.column
