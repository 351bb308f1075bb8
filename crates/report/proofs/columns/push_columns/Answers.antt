use Rattle.std.proofs.Common.{ap, ◌∙◌}
use Rattle.report.proofs.ColumnFacts.{all_pushed, pushed_more, pushed_none}
use Rattle.report.proofs.columns.push_columns.Goals as goal
use Rattle.report.proofs.columns.push_columns.Goals.{then-since-format+in_ok-push, else-since-format}

pub returns-clause-added : goal.returns-clause-added
returns-clause-added c =
    all_pushed _ _ _ c.args.line.known.0 _ _ c.loop-column-test.false c.loop-column.invariant

pub loop-column-preserved : goal.loop-column-preserved
loop-column-preserved c =
    elim c.if-since-format.branch [
      | then-since-format+in_ok-push w ↦
          pushed_more _ _ _ _ _ _ _ _ c.loop-column-test.true w.cell.result w.cell.ensures.text w.cell.ensures.plain w.if-since-format.true
          c.since.ensures (ap (λ cells. cells.items) w.cells-is ∙ w.in_ok-push.ensures.items) c.loop-column.invariant
      | else-since-format w ↦
          pushed_none _ _ _ _ _ _ _ _ c.loop-column-test.true w.if-since-format.false c.since.ensures (ap (λ cells. cells.items) w.cells-is)
          c.loop-column.invariant
    ]
