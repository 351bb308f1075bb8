-- A delta: what is sent of the candidates under a budget, in the sending order of the mode, and how many are cut.
-- Source: this project; the word is the LADIS 2008 paper's.
use Rattle.std.specs.Prelude.{ℕ, List}
use Rattle.bench_types.specs.declared.entries.Item.{Item}
use Rattle.bench_types.specs.declared.exchanges.Mode.{Mode}
use Rattle.bench_types.specs.declared.exchanges.Budget.{Budget}
use Rattle.bench_types.specs.Budget.{amount_of, share_of}
use Rattle.model.specs.Table.{Table}
use Rattle.model.specs.Candidates.{candidates}
use Rattle.model.specs.Order.{sending_order}
use Rattle.model.specs.Picks.{sent, cut_count}

-- what is sent, in the order sent, and how many candidates are cut
pub record DeltaView : Type 0 where
  pub items : List Item
  pub cut : ℕ

-- what an item takes of a budget
abbrev pub item_share : Budget → Item → ℕ
item_share budget i = share_of budget i.entry

-- the delta of these candidates among so many nodes
abbrev pub delta_of : Mode → ℕ → ℕ → Budget → List Item → DeltaView
delta_of mode ns s budget cs =
    let order = sending_order mode ns s cs in
    record {
      items = sent order cs (item_share budget) (amount_of budget);
      cut = cut_count order cs (item_share budget) (amount_of budget);
    }

-- the delta from one table to another
abbrev pub delta_between : Mode → ℕ → Budget → Table → Table → DeltaView
delta_between mode rotation budget from to = delta_of mode from.nodes rotation budget (candidates mode from to)
