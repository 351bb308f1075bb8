use Rattle.work.proofs.Common.{◌≡◌, map, vec_len}
use Rattle.work.specs.Pushes.{AreDealt, pushed}
use Rattle.work.proofs.tasks.Tasks.deal.Given as goal

abbrev pub invariant-loop : goal.invariant-loop
invariant-loop l = vec_len l.tasks ≡ l.counter

abbrev pub invariant-loop-step : goal.invariant-loop-step
invariant-loop-step l = vec_len l.tasks ≡ l.count

abbrev pub invariant-loop-worker : goal.invariant-loop-worker
invariant-loop-worker l = vec_len l.tasks ≡ l.count

abbrev pub invariant-loop-place : goal.invariant-loop-place
invariant-loop-place l = record {
  one_each : vec_len l.tasks ≡ l.count;
  dealt : AreDealt l.ready (map pushed l.tasks.items) l.place;
}
