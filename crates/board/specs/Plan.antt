-- What a board was made of. Source: this project.
use Rattle.std.specs.Prelude.{◌≡◌, ℕ, List, length}
use Rattle.bench_types.specs.declared.exchanges.Rules.{Rules}
use Rattle.model.specs.Table.{Table}
use Rattle.model.specs.RoundLists.{RoundListView}
use Rattle.model.specs.calls.RoundLists.{IsRoundPlan}
use Rattle.model.specs.Tables.{table_of_node}
use Rattle.model.specs.Folds.{tables_before}
use Rattle.model.specs.Exchanged.{Exchanged, exchanged}
use Rattle.dependencies.specs.Sharing.{exchange_at}

-- the rules of the exchanges, the round's list, and the tables of all nodes before it
pub record BoardPlan : Type 0 where
  pub rules : Rules
  pub list : RoundListView
  pub tables : List Table

-- a node's table in list order, before an exchange
abbrev pub table_at : BoardPlan → ℕ → ℕ → Table
table_at plan node i = table_of_node (tables_before plan.rules plan.tables plan.list.exchanges i) node

-- both ends of an exchange
abbrev pub initiator_of : BoardPlan → ℕ → ℕ
initiator_of plan i = (exchange_at plan.list.exchanges i).initiator

abbrev pub responder_of : BoardPlan → ℕ → ℕ
responder_of plan i = (exchange_at plan.list.exchanges i).responder

-- what an exchange comes to in list order
abbrev pub exchanged_at : BoardPlan → ℕ → Exchanged
exchanged_at plan i =
    exchanged plan.rules (exchange_at plan.list.exchanges i)
    (table_at plan (initiator_of plan i) i) (table_at plan (responder_of plan i) i)

-- the list is a round's, and the tables are those of its nodes in order
pub record IsBoardPlan (plan : BoardPlan) : Type 0 where
  pub list : IsRoundPlan plan.list
  pub tables : length plan.tables ≡ plan.list.nodes
