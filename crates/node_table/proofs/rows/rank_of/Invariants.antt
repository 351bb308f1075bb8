use Rattle.node_table.proofs.Common.{ℕ, ◌<◌, ◌≤◌, length, get_or, Entry}
use Rattle.node_table.specs.Entries.{StandsBefore}
use Rattle.node_table.proofs.rows.rank_of.Given as goal

abbrev pub invariant-loop-rank : goal.invariant-loop-rank
invariant-loop-rank l = record {
  within : l.rank ≤ length l.row;
  behind : (k : ℕ) (d : Entry) → l.rank ≤ k → k < length l.row → StandsBefore l.entry (get_or l.row k d);
}

abbrev pub decreases-loop-rank : goal.decreases-loop-rank
decreases-loop-rank l = l.rank
