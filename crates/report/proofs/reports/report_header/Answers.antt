use Rattle.report.specs.Report.{report_header_line}
use Rattle.report.proofs.reports.report_header.Goals as goal

pub returns : goal.returns
unfolding report_header_line
returns g c = c.write_columns.ensures
