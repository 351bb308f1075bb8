use Rattle.std.proofs.Common.{arith}
use Rattle.std.proofs.lemmas.Grind.{common_steps}
use Rattle.runs.proofs.Common.{on_ok_weaker, IfErr-weaker}
use Rattle.runs.proofs.Endings.{run_tells}
use Rattle.runs.proofs.runs.run.Goals as goal

pub returns-clause-failing_end : goal.returns-clause-failing_end
returns-clause-failing_end g c =
    IfErr-weaker c.write_run.result _ _
    (λ fault stop. run_tells g.W.Sink _ _ g.X.Sink _ _ c.in_ok-scenario.scenario _ fault stop)
    c.write_run.ensures.fault

pub returns-clause-fault : goal.returns-clause-fault
returns-clause-fault g c = grind (arith, common_steps)

pub returns-clause-reported : goal.returns-clause-reported
returns-clause-reported g c =
    on_ok_weaker c.write_run.result
    (λ written. record { settings = c.in_ok-scenario.scenario; read = c.in_ok-scenario.ensures.accepted; written = written })
    c.write_run.ensures.written

pub returns-clause-checked_first : goal.returns-clause-checked_first
returns-clause-checked_first g c = grind (arith, common_steps)
