use Rattle.report.specs.Compare.{compare_line}
use Rattle.report.proofs.comparisons.write_compare_row.Goals as goal

pub returns : goal.returns
unfolding compare_line
returns g c = rw (c.name.ensures.name) at c.write_columns.ensures
