-- The list of a round: its exchanges in order, each of two nodes, and how many nodes are up and reach no peer.
-- Source: this project.
use Rattle.std.specs.Prelude.{ℕ, List}
use Rattle.bench_types.specs.declared.exchanges.Exchange.{Exchange}

-- what contracts see of it, among so many nodes
pub record RoundListView : Type 0 where
  pub nodes : ℕ
  pub unreached : ℕ
  pub exchanges : List Exchange

abbrev pub round_list_view : ℕ → ℕ → List Exchange → RoundListView
round_list_view n u es = record { nodes = n; unreached = u; exchanges = es }
