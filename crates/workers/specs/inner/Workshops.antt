-- What the workers of a list share. Source: this project.
use Rattle.std.specs.Prelude.{◌≡◌}
use Rattle.model.specs.Table.{Table}
use Rattle.board.specs.Boards.{plan_of}
use Rattle.work.specs.Carrying.{MayCarryOut}
use Rattle.workers.specs.declared.workers.Workshop.{Workshop}

-- the board is of these rules and of the tables of its list's nodes, which fit what they share
pub record IsWorkshop {T X G : Type 0} (table : T → Table) (fits : X → Table → Type 0) (shop : Workshop T X G) : Type 0 where
  pub rules : (plan_of table shop.board).rules ≡ shop.rules
  pub tables : MayCarryOut (fits shop.shared) shop.rules (plan_of table shop.board).list.nodes
      (plan_of table shop.board).tables
