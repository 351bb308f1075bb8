-- What the messages of an exchange bring. Source: this project.
use Rattle.std.specs.Prelude.{◌≡◌, ◌<◌, ℕ, Bool, if◌then◌else◌}
use Rattle.bench_types.specs.declared.exchanges.Exchange.{Exchange}
use Rattle.bench_types.specs.declared.exchanges.Rules.{Rules}
use Rattle.model.specs.Table.{Table, applied}
use Rattle.reconcile.specs.Digests.{DigestView}
use Rattle.model.specs.Deltas.{DeltaView}
use Rattle.reconcile.specs.Answers.{IsDeltaToReceiver}

-- two tables that may answer each other's digests: they have as many owners and keys each, and the rotation is one of
-- the owners
pub record MayAnswerEachOther (e : Exchange) (p q : Table) : Type 0 where
  pub nodes : p.nodes ≡ q.nodes
  pub keys : p.keys ≡ q.keys
  pub rotation : e.rotation < p.nodes

-- the delta that answers a receiver's digest in an exchange
abbrev pub IsAnswer : Rules → Exchange → Table → ℕ → DigestView → DeltaView → Type 0
IsAnswer rules e from receiver told = IsDeltaToReceiver rules.mode e.rotation rules.budget from receiver told

-- the table of a delta's receiver after the message that has it
abbrev pub after_message : Bool → Table → DeltaView → Table
after_message lost t delta = if lost then t else applied t delta.items
