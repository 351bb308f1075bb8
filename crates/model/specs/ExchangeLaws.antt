-- What laws say of an exchange: that no mark in a table goes down, and that no message is lost. Source: the LADIS 2008
-- paper, whose reconciliation keeps the entry with the greater version; generations and losses are this project's.
use Rattle.std.specs.Prelude.{◌≡◌, ℕ, false}
use Rattle.bench_types.specs.declared.exchanges.Exchange.{Exchange}
use Rattle.bench_types.specs.Mark.{IsUpTo}
use Rattle.model.specs.Table.{Table, mark_at, greatest_mark, generation_held}

-- no greatest mark of a copy goes down, and no mark of a key as long as the copy's generation stays
pub record NoMarkFalls (old new : Table) : Type 0 where
  pub greatest : (owner : ℕ) → IsUpTo (greatest_mark old owner) (greatest_mark new owner)
  pub within : (owner key : ℕ) → generation_held new owner ≡ generation_held old owner
      → IsUpTo (mark_at old owner key) (mark_at new owner key)

-- no message of it is lost
abbrev pub LosesNothing : Exchange → Type 0
LosesNothing e = (e.lost1 ≡ false) × (e.lost2 ≡ false) × (e.lost3 ≡ false)
