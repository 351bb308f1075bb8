-- A copy is handed on: of what a sender holds of one owner, its own or another's, a delta sends each candidate. Source:
-- this project.
use Rattle.std.specs.Prelude.{◌≡◌, ℕ, Contains}
use Rattle.bench_types.specs.declared.entries.Item.{Item}
use Rattle.bench_types.specs.declared.exchanges.Rules.{Rules}
use Rattle.model.specs.Table.{Table}
use Rattle.model.specs.Candidates.{candidates}
use Rattle.model.specs.Deltas.{delta_between}

-- nothing of that owner is cut
abbrev pub SendsCopy : Rules → ℕ → ℕ → Table → Table → Type 0
SendsCopy rules rotation owner from to =
    (i : Item) → i.owner ≡ owner → Contains (candidates rules.mode from to) i
    → Contains (delta_between rules.mode rotation rules.budget from to).items i
