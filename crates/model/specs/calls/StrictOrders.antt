-- The sending order of the candidates that one table has for another is strict: no two of them tie. Source: this
-- project.
use Rattle.std.specs.Prelude.{◌≡◌, ℕ, ◌<◌, Contains}
use Rattle.std.specs.declared.cmp.Ordering.TheVariants.{Equal}
use Rattle.bench_types.specs.declared.entries.Item.{Item}
use Rattle.bench_types.specs.declared.exchanges.Mode.{Mode}
use Rattle.model.specs.Table.{Table, IsProper}
use Rattle.model.specs.Candidates.{candidates}
use Rattle.model.specs.Order.{sending_order}

-- in every mode, with every rotation, of the candidates each ties with itself alone
abbrev pub SendingOrdersAreStrict : Type 0
SendingOrdersAreStrict =
    (mode : Mode) (from to : Table) (rotation : ℕ) → IsProper from → rotation < from.nodes
    → (c d : Item) → Contains (candidates mode from to) c → Contains (candidates mode from to) d
    → sending_order mode from.nodes rotation (candidates mode from to) c d ≡ Equal → c ≡ d
