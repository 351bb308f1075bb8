-- The exchanges that a list of so many nodes may have. Source: this project.
use Rattle.std.specs.Prelude.{◌≢◌, ℕ, ◌<◌}
use Rattle.bench_types.specs.declared.exchanges.Exchange.{Exchange}

-- an exchange of two of so many nodes
pub record IsPlanned (nodes : ℕ) (e : Exchange) : Type 0 where
  pub initiator : e.initiator < nodes
  pub responder : e.responder < nodes
  pub apart : e.initiator ≢ e.responder
  pub rotation : e.rotation < nodes
