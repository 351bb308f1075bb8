use Rattle.node_table.proofs.Common.{◌≢◌, ℕ, ◌<◌, get_or, Entry}
use Rattle.node_table.proofs.rows.index_of.Given as goal

abbrev pub invariant-loop-index : goal.invariant-loop-index
invariant-loop-index l = (k : ℕ) (d : Entry) → k < l.index → (get_or l.row k d).key ≢ l.key
