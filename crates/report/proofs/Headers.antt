-- The headers, letter by letter.
-- Serves no file: it is for readers.
use Rattle.std.proofs.Common.{◌≡◌, codes, refl}
use Rattle.report.specs.Columns.{columns}
use Rattle.report.specs.Compare.{compare_header_line}
use Rattle.report.specs.Line.{line_of}
use Rattle.report.specs.Report.{report_header_line}

-- of the report, and of the comparison
pub headers-format_1 :
    (report_header_line 1 ≡ codes "round,exchanges,unreached,lost,entries,cut,stale,greatest\n")
    × (compare_header_line 1 ≡ codes "mode,round,exchanges,unreached,lost,entries,cut,stale,greatest\n")
unfolding report_header_line compare_header_line line_of columns
headers-format_1 = (refl, refl)

pub headers-format_2 :
    (report_header_line 2 ≡ codes "round,exchanges,unreached,lost,entries,cut,stale,greatest,leftover\n")
    × (compare_header_line 2 ≡ codes "mode,round,exchanges,unreached,lost,entries,cut,stale,greatest,leftover\n")
unfolding report_header_line compare_header_line line_of columns
headers-format_2 = (refl, refl)
