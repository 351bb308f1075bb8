use Rattle.std.proofs.Common.{refl}
use Rattle.report.specs.Trace.{trace_line}
use Rattle.report.proofs.traces.cells_of.Goals as goal

pub returns-clause-line : goal.returns-clause-line
unfolding trace_line
returns-clause-line c =
    rw (c.into.ensures, c.into-2.ensures, c.into-3.ensures, c.into-4.ensures, c.into-5.ensures, c.into-6.ensures, c.into-7.ensures, c.into-8.ensures, c.into-9.ensures, c.name.ensures.name)
    refl
