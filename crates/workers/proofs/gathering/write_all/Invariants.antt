use Rattle.workers.proofs.Common.{◌≡◌, drop}
use Rattle.workers.specs.inner.Stamps.{with_records}
use Rattle.workers.proofs.gathering.write_all.Given as goal

abbrev pub invariant-loop-stamped : goal.invariant-loop-stamped
invariant-loop-stamped l = with_records l.records (drop l.stamped-index l.stamps) ≡ with_records l.fn.records l.stamps
