use Rattle.staleness.proofs.Common.{◌≡◌, ℕ, ◌<◌, None, mark_held, entry_at, staleness_of, written}
use Rattle.staleness.proofs.staleness.is_current.Given as goal

abbrev pub invariant-loop-key : goal.invariant-loop-key
invariant-loop-key l =
    (k : ℕ) → k < l.key → staleness_of l.round l.generation (written l.list) k (mark_held (entry_at l.table.table l.node k)) ≡ None
