use Rattle.reconcile.proofs.Common.{◌≡◌, ℕ, ◌<◌, ◌≤◌, get_or}
use Rattle.reconcile.proofs.Ranked.{no_entry}
use Rattle.reconcile.proofs.suffixes.entries_ranked.Given as goal

abbrev pub invariant-loop-end : goal.invariant-loop-end
invariant-loop-end l = record {
  behind : l.rank < l.end;
  same : (i : ℕ) → l.rank ≤ i → i < l.end → (get_or l.entries i no_entry).version ≡ (get_or l.entries l.rank no_entry).version;
}
