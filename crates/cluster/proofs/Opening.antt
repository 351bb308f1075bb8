-- The empty tables of all nodes.
-- Serves `Cluster::new` and `Cluster::new_by`.
use Rattle.cluster.proofs.Common.{◌≡◌, ℕ, ◌-◌, List, map, ◌∙◌, arith, range_with_len, Table, empty_table, HistoriesView, Settings}
use Rattle.cluster.specs.Rounds.{opening_tables}
use Rattle.round_histories.specs.EmptyTables.{empty_tables_in}
use Rattle.round_histories.specs.Histories.{AreNewHistories}

pub opening_of : {ts : List Table} (h : HistoriesView) (s : Settings) (from to : ℕ) → AreNewHistories s.nodes s.keys h → from ≡ 0 → to ≡ s.nodes
    → ts ≡ empty_tables_in h from to → ts ≡ opening_tables s
opening_of h s from to new first last made =
    let count : to - from ≡ s.nodes = omega (arith, first, last) in
    made ∙ (λ i. map (λ n. empty_table n (new.count i) (new.keys_are i)) (range_with_len (first i) (count i)))
