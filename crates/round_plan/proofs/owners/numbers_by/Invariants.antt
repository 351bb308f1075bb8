use Rattle.round_plan.proofs.Common.{◌≡◌, ℕ, ◌+◌, ◌<◌, length, get_or, MOST_WRITES}
use Rattle.round_plan.proofs.owners.numbers_by.Given as goal

abbrev pub invariant-loop-place : goal.invariant-loop-place
invariant-loop-place l =
    (length l.numbers ≡ MOST_WRITES) × ((k : ℕ) → k < l.place → get_or l.numbers k 0 ≡ l.count_before + k)
