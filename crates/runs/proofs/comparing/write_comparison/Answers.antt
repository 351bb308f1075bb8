use Rattle.runs.proofs.InputFacts.{at_fault}
use Rattle.runs.proofs.Comparison.{all_written, modes_more, none_written, stops_in_mode}
use Rattle.runs.proofs.comparing.write_comparison.Goals as goal

pub loop-mode-init : goal.loop-mode-init
loop-mode-init g c =
    none_written g.W.Sink _ _ c.args.scenario _ c.format.ensures.value c.in_ok-compare_header.ensures.written

pub returns-in_err-scenario-clause-fault : goal.returns-in_err-scenario-clause-fault
returns-in_err-scenario-clause-fault g c =
    at_fault c.from_residual-in_err-scenario.result c.in_err-scenario.field-0.0 _ c.from_residual-in_err-scenario.ensures.1
    (stops_in_mode g.W.Sink _ c.loop-mode.writer _ c.args.scenario c.loop-mode.scenario c.with_mode.result _ _ c.loop-mode.invariant
    c.loop-mode-test.true c.with_mode.ensures _ _ c.in_err-scenario.ensures.fault)

pub loop-mode-preserved : goal.loop-mode-preserved
loop-mode-preserved g c =
    modes_more g.W.Sink _ c.loop-mode.writer _ c.args.scenario c.loop-mode.scenario c.with_mode.result _ _ c.loop-mode.invariant
    c.loop-mode-test.true c.with_mode.ensures _ c.in_ok-scenario.ensures.same c.in_ok-scenario.ensures.written

pub returns-clause-written : goal.returns-clause-written
returns-clause-written g c =
    all_written g.W.Sink _ _ c.args.scenario _ _ c.loop-mode.invariant c.loop-mode-test.false
