-- Laws of the tables of all nodes that no law of runs needs: the exchanges of a list keep them proper, and no copy has a
-- mark that is ahead of its owner. Source: this project.
use Rattle.std.specs.Prelude.{ℕ, ◌<◌, List, All}
use Rattle.bench_types.specs.declared.exchanges.Exchange.{Exchange}
use Rattle.bench_types.specs.declared.exchanges.Rules.{Rules}
use Rattle.bench_types.specs.declared.entries.Mark.{Mark}
use Rattle.bench_types.specs.calls.Exchange.{IsPlanned}
use Rattle.bench_types.specs.Mark.{IsUpTo}
use Rattle.model.specs.Table.{Table, greatest_mark, greatest_version}
use Rattle.model.specs.Tables.{table_of_node, AreTablesInOrder, AreProper}
use Rattle.model.specs.Folds.{tables_before}
use Rattle.model.specs.Copies.{WritesBy}
use Rattle.model.specs.Clusters.{AreCopiesOf}

-- how far a node's writes have come in its generation
abbrev pub own_mark : Table → Mark
own_mark t = record { generation = t.generation; version = greatest_version t t.node }

-- tables that are proper and those of all nodes in order are so before each exchange of a list, and after the last
abbrev pub ListsKeepTablesProper : Type 0
ListsKeepTablesProper =
    (rules : Rules) (nodes keys : ℕ) (ts : List Table) (es : List Exchange) → All (IsPlanned nodes) es
    → AreTablesInOrder nodes keys ts → AreProper ts → (i : ℕ)
    → AreTablesInOrder nodes keys (tables_before rules ts es i) × AreProper (tables_before rules ts es i)

-- no copy has a mark above its owner's own
abbrev pub NoCopyIsAhead : ℕ → List Table → Type 0
NoCopyIsAhead nodes ts =
    (n owner : ℕ) → n < nodes → owner < nodes
    → IsUpTo (greatest_mark (table_of_node ts n) owner) (own_mark (table_of_node ts owner))

-- and so wherever copies hold nothing but their owners' writes
abbrev pub CopiesAreNeverAhead : Type 0
CopiesAreNeverAhead =
    (writes : WritesBy) (nodes keys : ℕ) (ts : List Table) → AreCopiesOf writes nodes keys ts → NoCopyIsAhead nodes ts
