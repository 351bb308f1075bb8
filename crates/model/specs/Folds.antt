-- The exchanges of a list, one after another from the left, on the tables of all nodes in order; the records
-- stand in list order. The tables before an exchange are those after the ones ahead of it in the list.
-- Source: this project.
use Rattle.std.specs.Prelude.{ℕ, List, [], ◌∷◌, ◌++◌, fold, take, slice_set}
use Rattle.bench_types.specs.declared.exchanges.Exchange.{Exchange}
use Rattle.bench_types.specs.declared.exchanges.Record.{Record}
use Rattle.bench_types.specs.declared.exchanges.Rules.{Rules}
use Rattle.model.specs.Table.{Table}
use Rattle.model.specs.Exchanged.{exchanged}
use Rattle.model.specs.Tables.{table_of_node}

-- the tables by node, and the records so far
pub record Folded : Type 0 where
  pub tables : List Table
  pub records : List Record

-- one exchange puts both tables back in their places
abbrev pub exchange_in : Rules → Folded → Exchange → Folded
exchange_in rules s e =
    let done = exchanged rules e (table_of_node s.tables e.initiator) (table_of_node s.tables e.responder) in
    record {
      tables = slice_set (slice_set s.tables e.initiator done.initiator) e.responder done.responder;
      records = s.records ++ done.sent ∷ [];
    }

-- the exchanges of a list, in order
abbrev pub fold_of : Rules → List Table → List Exchange → Folded
fold_of rules ts es = fold (exchange_in rules) (record { tables = ts; records = [] }) es

-- the tables before the exchange at a place, from 0; past the end those after the last
abbrev pub tables_before : Rules → List Table → List Exchange → ℕ → List Table
tables_before rules ts es i = (fold_of rules ts (take i es)).tables
