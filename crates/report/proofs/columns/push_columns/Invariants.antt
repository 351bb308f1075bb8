use Rattle.report.specs.inner.Told.{text_told}
use Rattle.report.proofs.ColumnFacts.{ArePushed}
use Rattle.report.proofs.columns.push_columns.Given as goal

abbrev pub invariant-loop-column : goal.invariant-loop-column
invariant-loop-column l = ArePushed (text_told l.told) l.format l.column-index l.initial.cells.items l.cells.items
