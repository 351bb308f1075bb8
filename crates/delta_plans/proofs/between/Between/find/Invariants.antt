use Rattle.delta_plans.proofs.Common.{◌≡◌, ℕ, ◌+◌, ◌<◌, ◌≤◌, true, false, get_or, AreFound}
use Rattle.delta_plans.specs.Between.{owner_count}
use Rattle.delta_plans.proofs.between.Between.find.Given as goal

abbrev pub invariant-loop-key : goal.invariant-loop-key
invariant-loop-key g l = AreFound g.N.Number.number l.self l.key l.first l.found

abbrev pub invariant-loop-i : goal.invariant-loop-i
invariant-loop-i g l = record {
  gone : (i : ℕ) → i < l.i → get_or l.found i true ≡ false → owner_count g.N.Number.number l.self (l.key + 1) (l.first + i) ≡ 0;
  left : (i : ℕ) → l.i ≤ i → get_or l.found i true ≡ false → owner_count g.N.Number.number l.self l.key (l.first + i) ≡ 0;
}
