use Rattle.runs.proofs.Comparison.{AreModesWritten}
use Rattle.runs.proofs.comparing.write_comparison.Given as goal

abbrev pub invariant-loop-mode : goal.invariant-loop-mode
invariant-loop-mode g l =
    AreModesWritten g.W.Sink l.fn.writer l.writer l.initial.scenario l.scenario l.mode-index
