use Rattle.report.specs.Line.{line_of}
use Rattle.report.specs.Trace.{trace_header_line}
use Rattle.report.proofs.traces.trace_header.Goals as goal

pub returns : goal.returns
unfolding trace_header_line line_of
returns g c = c.write_line.ensures
