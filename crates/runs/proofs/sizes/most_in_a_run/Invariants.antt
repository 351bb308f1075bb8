use Rattle.runs.proofs.Common.{◌≡◌, ◌*◌, ◌≤◌, MOST_WRITES}
use Rattle.runs.specs.inner.Writes.{writes_if_up}
use Rattle.runs.proofs.sizes.most_in_a_run.Given as goal

abbrev pub invariant-loop-done : goal.invariant-loop-done
invariant-loop-done l = record {
  most : l.most ≡ writes_if_up l.scenario l.done;
  within : l.most ≤ MOST_WRITES * l.done;
}
