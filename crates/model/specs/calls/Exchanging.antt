-- An exchange of two tables in memory, whatever their representation is: it makes of the model's tables that they are
-- what an exchange makes of these, or both stay. Source: this project.
use Rattle.std.specs.Prelude.{◌≡◌, ◌<◌}
use Rattle.bench_types.specs.declared.exchanges.Exchange.{Exchange}
use Rattle.bench_types.specs.declared.exchanges.Record.{Record}
use Rattle.bench_types.specs.declared.exchanges.Rules.{Rules}
use Rattle.model.specs.Table.{Table}
use Rattle.model.specs.Exchanged.{exchanged}

-- the tables that an exchange may be carried out on: those of its two nodes, with as many owners and keys each, and its
-- rotation is one of the owners
pub record MayBeExchanged (e : Exchange) (initiator responder : Table) : Type 0 where
  pub first : initiator.node ≡ e.initiator
  pub second : responder.node ≡ e.responder
  pub nodes : initiator.nodes ≡ responder.nodes
  pub keys : initiator.keys ≡ responder.keys
  pub rotation : e.rotation < initiator.nodes

-- `table` says which of the model's tables one in memory is
module _ {T : Type 0} (table : T → Table) where
  -- p and q in memory became p' and q' by the exchange, which has this record
  abbrev pub MakesOf : Rules → Exchange → T → T → T → T → Record → Type 0
  MakesOf rules e p q p' q' r =
      exchanged rules e (table p) (table q) ≡ record { initiator = table p'; responder = table q'; sent = r }

  -- they became p' and q', and neither table changed
  abbrev pub KeepBoth : T → T → T → T → Type 0
  KeepBoth p q p' q' = (table p' ≡ table p) × (table q' ≡ table q)

-- what holds of both tables of an exchange holds of them after it
abbrev pub IsKeptByExchanges : (Table → Type 0) → Type 0
IsKeptByExchanges Fits =
    (rules : Rules) (e : Exchange) (p q : Table) → MayBeExchanged e p q → Fits p → Fits q
    → Fits (exchanged rules e p q).initiator × Fits (exchanged rules e p q).responder
