use Rattle.std.proofs.Common.{arith}
use Rattle.std.proofs.lemmas.Grind.{common_steps}
use Rattle.runs.proofs.Common.{on_ok_weaker}
use Rattle.runs.proofs.Reporting.{headers_written}
use Rattle.runs.proofs.runs.write_headers.Goals as goal

pub returns-clause-written : goal.returns-clause-written
returns-clause-written g c =
    on_ok_weaker c.trace_header.result
    (headers_written g.W.Sink g.X.Sink c.args.scenario.now _ _ _ _ _ c.format.ensures.value c.in_ok-report_header.ensures.written)
    c.trace_header.ensures.written

pub returns-clause-fault : goal.returns-clause-fault
returns-clause-fault g c = grind (arith, common_steps)
