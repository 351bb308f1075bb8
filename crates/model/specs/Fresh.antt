-- When a copy agrees with its owner. It is fresh where it is the owner's own part. Of an owner that has written nothing
-- since it forgot there is nothing to send, so what is left over of its earlier generations may stay, and a copy of it
-- counts as fresh whatever it holds. Source: this project.
use Rattle.std.specs.Prelude.{◌≡◌, ℕ, ◌≤◌, Contains}
use Rattle.bench_types.specs.declared.entries.Item.{Item}
use Rattle.bench_types.specs.declared.exchanges.Rules.{Rules}
use Rattle.model.specs.Table.{Table, entry_at, greatest_version}
use Rattle.model.specs.Candidates.{candidates}
use Rattle.model.specs.Deltas.{delta_between}

-- an owner, by its own table, has written in its generation
abbrev pub HasOwnPart : Table → Type 0
HasOwnPart owner = 1 ≤ greatest_version owner owner.node

-- what a table holds of an owner is the owner's own part, if that has written in its generation
abbrev pub IsFresh : Table → Table → Type 0
IsFresh holder owner = HasOwnPart owner → (key : ℕ) → entry_at holder owner.node key ≡ entry_at owner owner.node key

-- of what the sender itself owns a delta sends each candidate
abbrev pub SendsOwnPart : Rules → ℕ → Table → Table → Type 0
SendsOwnPart rules rotation from to =
    (i : Item) → i.owner ≡ from.node → Contains (candidates rules.mode from to) i
    → Contains (delta_between rules.mode rotation rules.budget from to).items i
