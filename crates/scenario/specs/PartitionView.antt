-- What contracts see of a partition: its first and its last round, and the nodes of one side.
-- Source: this project.
use Rattle.std.specs.Prelude.{ℕ, List}

pub record PartitionView : Type 0 where
  pub from : ℕ
  pub to : ℕ
  pub apart : List ℕ
