use Rattle.report.specs.Report.{report_line}
use Rattle.report.proofs.reports.write_report_row.Goals as goal

pub returns : goal.returns
unfolding report_line
returns g c = c.write_columns.ensures
