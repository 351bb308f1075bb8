-- The empty tables of a stretch of nodes.
-- Serves `+rest` and `empty_tables`.
use Rattle.std.proofs.Common.{Err, IfOk, List, Ok, Result, [], ap, arith, length, map, suc, sym, zero, ℕ, ◌++◌, ◌+◌, ◌-◌, ◌∙◌, ◌∷◌, ◌≡◌, ◌≤◌}
use Rattle.std.proofs.lemmas.List.{map-append}
use Rattle.std.proofs.lemmas.List.FromFn.{map-range_with_len_more}
use Rattle.std.specs.List.{range_with_len}
use Rattle.std.specs.Prelude.{IsOkAnd, Vec}
use Rattle.std.specs.declared.alloc.Global.{Global}
use Rattle.bench_types.specs.declared.faults.Fault.{Fault}
use Rattle.model.specs.Table.{Table, empty_table}
use Rattle.round_histories.specs.EmptyTables.{empty_tables_in}
use Rattle.round_histories.specs.Histories.{HistoriesView}

joined_ranges : (a n m : ℕ) → range_with_len a n ++ range_with_len (a + n) m ≡ range_with_len a (n + m)
joined_ranges a zero m =
    let from : a + 0 ≡ a = omega arith in
    let count : m ≡ 0 + m = omega arith in
    λ i. range_with_len (from i) (count i)
joined_ranges a (suc n) m =
    let from : a + suc n ≡ a + 1 + n = omega arith in
    let count : suc (n + m) ≡ suc n + m = omega arith in
    (λ i. a ∷ (range_with_len (a + 1) n ++ range_with_len (from i) m))
    ∙ ap (λ l. a ∷ l) (joined_ranges (a + 1) n m)
    ∙ ap (range_with_len a) count

module _ (h : HistoriesView) where
  -- one more, and those of two stretches
  pub one_more : (from node : ℕ) → from ≤ node
      → empty_tables_in h from (node + 1) ≡ empty_tables_in h from node ++ empty_table node (length h.lists) h.keys ∷ []
  one_more from node le =
      let count : node + 1 - from ≡ node - from + 1 = omega (arith, le) in
      ap (λ n. map (λ k. empty_table k (length h.lists) h.keys) (range_with_len from n)) count
      ∙ map-range_with_len_more (λ k. empty_table k (length h.lists) h.keys) from (node - from) node (omega (arith, le))

  joined : (from mid to : ℕ) → from ≤ mid → mid ≤ to → empty_tables_in h from mid ++ empty_tables_in h mid to ≡ empty_tables_in h from to
  joined from mid to low high =
      let start : mid ≡ from + (mid - from) = omega (arith, low) in
      let count : mid - from + (to - mid) ≡ to - from = omega (arith, low, high) in
      sym (map-append (λ k. empty_table k (length h.lists) h.keys) (range_with_len from (mid - from)) (range_with_len mid (to - mid)))
      ∙ ap (map (λ k. empty_table k (length h.lists) h.keys))
      ((λ i. range_with_len from (mid - from) ++ range_with_len (start i) (to - mid)) ∙ joined_ranges from (mid - from) (to - mid)
      ∙ ap (range_with_len from) count)

  -- tables that two threads made
  pub made_by_both : {T : Type 0} (table : T → Table) (from mid to : ℕ) (low high all : List T) → from ≤ mid → mid ≤ to → all ≡ low ++ high
      → map table low ≡ empty_tables_in h from mid → map table high ≡ empty_tables_in h mid to → map table all ≡ empty_tables_in h from to
  made_by_both table from mid to low high all le le2 all_is low_is high_is =
      ap (map table) all_is ∙ map-append table low high ∙ (λ i. low_is i ++ high_is i) ∙ joined from mid to le le2

  pub made_in_shares : {T : Type 0} (table : T → Table) (from mid to : ℕ) (low high all : Result (Vec T Global) Fault) → from ≤ mid → mid ≤ to
      → IfOk all (λ v. IsOkAnd low (λ l. IsOkAnd high (λ k. v.items ≡ l.items ++ k.items)))
      → IfOk low (λ v. map table v.items ≡ empty_tables_in h from mid) → IfOk high (λ v. map table v.items ≡ empty_tables_in h mid to)
      → IfOk all (λ v. map table v.items ≡ empty_tables_in h from to)
  made_in_shares table from mid to low high (Err e) le le2 all_is low_is high_is = tt
  made_in_shares table from mid to (Err e) high (Ok v) le le2 all_is low_is high_is = absurd all_is
  made_in_shares table from mid to (Ok l) (Err e) (Ok v) le le2 all_is low_is high_is = absurd all_is
  made_in_shares table from mid to (Ok l) (Ok k) (Ok v) le le2 all_is low_is high_is =
      made_by_both table from mid to l.items k.items v.items le le2 all_is low_is high_is
