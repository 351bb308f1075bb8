-- The plan that a board keeps. Source: this project.
use Rattle.std.specs.Prelude.{◌≡◌, length, map}
use Rattle.model.specs.Table.{Table}
use Rattle.model.specs.calls.RoundLists.{IsRoundPlan}
use Rattle.board.specs.Plan.{BoardPlan}
use Rattle.board.specs.declared.plays.BoardKey.{BoardKey}

-- the list is a round's, and there is a table for each of its nodes
pub record IsBoardKey {T : Type 0} (key : BoardKey T) : Type 0 where
  pub list : IsRoundPlan key.list.value
  pub tables : length key.tables.value.items ≡ key.list.value.nodes

abbrev pub key_plan : {T : Type 0} → (T → Table) → BoardKey T → BoardPlan
key_plan table key = record { rules = key.rules; list = key.list.value; tables = map table key.tables.value.items }
