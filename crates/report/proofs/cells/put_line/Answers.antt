use Rattle.std.proofs.Common.{◌≡◌, ◌∙◌, length, arith}
use Rattle.std.proofs.lemmas.Result.{on_ok_weaker}
use Rattle.report.proofs.CellFacts.{on_ok_mapped, so_far_end, so_far_more}
use Rattle.report.proofs.cells.put_line.Goals as goal

pub loop-cell-preserved : goal.loop-cell-preserved
loop-cell-preserved c =
    so_far_more _ _ _ _ _ _ c.loop-cell.invariant c.loop-cell-test.true c.in_ok-put_cell.ensures.added

pub returns-clause-line : goal.returns-clause-line
returns-clause-line c =
    let all : c.loop-cell.cell-index ≡ length c.args.cells.now = omega arith in
    let ended = so_far_end c.args.lines.now c.loop-cell.lines c.end_record.new.self c.args.cells.now _ c.loop-cell.invariant all c.requires.some in
    on_ok_mapped _ c.end_record.result _ (c.ok_or.ensures.variant ∙ c.ok.ensures.variant) (on_ok_weaker c.end_record.result ended c.end_record.ensures.bytes)
