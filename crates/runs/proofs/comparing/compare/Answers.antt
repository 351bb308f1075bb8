use Rattle.std.proofs.Common.{arith}
use Rattle.std.proofs.lemmas.Grind.{common_steps}
use Rattle.runs.proofs.Common.{on_ok_weaker, IfErr-weaker}
use Rattle.runs.proofs.Comparison.{own_mode}
use Rattle.runs.proofs.Endings.{comparison_tells}
use Rattle.runs.proofs.comparing.compare.Goals as goal

pub returns-clause-compared : goal.returns-clause-compared
returns-clause-compared g c =
    on_ok_weaker c.write_comparison.result
    (λ written. record {
      settings = c.in_ok-scenario.scenario;
      read = c.in_ok-scenario.ensures.accepted;
      written = written;
      own_mode = own_mode c.in_ok-scenario.scenario;
    })
    c.write_comparison.ensures.written

pub returns-clause-failing_end : goal.returns-clause-failing_end
returns-clause-failing_end g c =
    IfErr-weaker c.write_comparison.result _ _
    (λ fault stop. comparison_tells g.W.Sink _ _ c.in_ok-scenario.scenario _ fault stop)
    c.write_comparison.ensures.fault

pub returns-clause-fault : goal.returns-clause-fault
returns-clause-fault g c = grind (arith, common_steps)

pub returns-clause-checked_first : goal.returns-clause-checked_first
returns-clause-checked_first g c = grind (arith, common_steps)
