use Rattle.report.proofs.TraceFacts.{RowsSoFar}
use Rattle.report.proofs.traces.make_rows.Given as goal

abbrev pub invariant-loop-index : goal.invariant-loop-index
invariant-loop-index l = RowsSoFar l.round l.exchanges l.records l.lines l.index
