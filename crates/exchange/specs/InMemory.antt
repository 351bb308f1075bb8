-- An exchange of two tables that have their entries in memory: both become those of the definition, or both stay, with
-- no less room. Source: this project.
use Rattle.std.specs.Prelude.{◌≡◌, ◌≤◌}
use Rattle.bench_types.specs.declared.exchanges.Exchange.{Exchange}
use Rattle.bench_types.specs.declared.exchanges.Record.{Record}
use Rattle.bench_types.specs.declared.exchanges.Rules.{Rules}
use Rattle.node_table.specs.NodeTableView.{NodeTableView}
use Rattle.model.specs.Exchanged.{exchanged}

-- the tables p and q in memory became p' and q' by the exchange, which has this record
abbrev pub IsExchanged :
    Rules → Exchange → NodeTableView → NodeTableView → NodeTableView → NodeTableView → Record → Type 0
IsExchanged rules e p q p' q' r =
    exchanged rules e p.table q.table ≡ record { initiator = p'.table; responder = q'.table; sent = r }

-- a table is as it was, and so is its room, or there is more of it
abbrev pub StaysWithRoom : NodeTableView → NodeTableView → Type 0
StaysWithRoom old new = (new.table ≡ old.table) × (old.room ≤ new.room)

-- they became p' and q', and neither table changed
abbrev pub BothTablesStay : NodeTableView → NodeTableView → NodeTableView → NodeTableView → Type 0
BothTablesStay p q p' q' = StaysWithRoom p p' × StaysWithRoom q q'
