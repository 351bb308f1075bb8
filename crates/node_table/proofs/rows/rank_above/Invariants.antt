use Rattle.node_table.proofs.Common.{ℕ, ◌-◌, ◌<◌, ◌≤◌, get_or, Entry}
use Rattle.node_table.proofs.rows.rank_above.Given as goal

abbrev pub invariant-loop-index : goal.invariant-loop-index
invariant-loop-index l = record {
  within : l.rank ≤ l.index;
  front : (d : Entry) → 0 < l.rank → (get_or l.row (l.rank - 1) d).version ≤ l.version;
  behind : (k : ℕ) (d : Entry) → l.rank ≤ k → k < l.index → l.version < (get_or l.row k d).version;
}
