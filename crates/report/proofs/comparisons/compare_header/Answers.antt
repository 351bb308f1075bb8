use Rattle.report.specs.Compare.{compare_header_line}
use Rattle.report.proofs.comparisons.compare_header.Goals as goal

pub returns : goal.returns
unfolding compare_header_line
returns g c = c.write_columns.ensures
