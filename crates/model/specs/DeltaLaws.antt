-- What holds of every delta from one table to another. Source: this project.
use Rattle.std.specs.Prelude.{◌≡◌, ℕ, ◌<◌, Contains}
use Rattle.bench_types.specs.declared.entries.Item.{Item}
use Rattle.bench_types.specs.declared.exchanges.Budget.{Budget}
use Rattle.bench_types.specs.declared.exchanges.Mode.{Mode}
use Rattle.model.specs.Table.{Table, IsProper}
use Rattle.model.specs.Candidates.{candidates}
use Rattle.model.specs.Deltas.{delta_between}

-- in every mode a delta that cuts nothing sends all candidates
abbrev pub UncutDeltasSendAll : Type 0
UncutDeltasSendAll =
    (mode : Mode) (rotation : ℕ) (budget : Budget) (from to : Table) → IsProper from → rotation < from.nodes
    → (delta_between mode rotation budget from to).cut ≡ 0 → (c : Item) → Contains (candidates mode from to) c
    → Contains (delta_between mode rotation budget from to).items c
