use Rattle.std.proofs.Common.{◌++◌, ap, refl, ◌∙◌, arith}
use Rattle.report.specs.inner.Cells.{bytes_written}
use Rattle.report.proofs.TraceFacts.{rows_more}
use Rattle.report.proofs.traces.make_rows.Goals as goal

pub loop-index-preserved : goal.loop-index-preserved
loop-index-preserved c =
    rows_more _ _ _ _ _ _ _ _ c.loop-index-test.true (omega (arith, c.loop-index-test.true, c.requires.one_each)) c.loop-index.invariant
    c.in_ok-put_line.ensures.between
    (c.in_ok-put_line.ensures.line ∙ ap (λ line. bytes_written c.loop-index.lines ++ line) c.cells_of-cells.ensures.line)

pub loop-index-init : goal.loop-index-init
loop-index-init c = record {
  between = record {
    setup = c.from_writer-lines.ensures.cfg ∙ c.new.ensures;
    fields = c.from_writer-lines.ensures.fields;
    wrote = c.from_writer-lines.ensures.wrote;
  };
  whole = rw (c.from_writer-lines.ensures.wtr, c.from_writer-lines.ensures.empty, c.new-2.ensures.items) refl;
}
