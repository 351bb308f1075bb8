use Rattle.report.proofs.CellFacts.{LineSoFar}
use Rattle.report.proofs.cells.put_line.Given as goal

abbrev pub invariant-loop-cell : goal.invariant-loop-cell
invariant-loop-cell l = LineSoFar l.initial.lines l.lines l.cells l.cell-index
