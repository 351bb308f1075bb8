-- The names of other libraries that these proofs cite, passed on from one place. Declares nothing.
-- Serves the functions of `staleness`, `Known`, `Skipped` and `Totals`.
pub use Rattle.std.proofs.Common.{All, Bool, List, None, Option, Some, [], add-one, ap, arith, cond, eq-eqb, eqb, false, get_or, if◌then◌else◌, inl, inr, le-ltb, length, length-append, lt-ltb, ltb, max, ne_eqb, option_map, refl, subst, suc, sym, true, ℕ, ◌&&◌, ◌*◌, ◌++◌, ◌+◌, ◌-◌, ◌<◌, ◌^◌, ◌↔◌, ◌∙◌, ◌∷◌, ◌≡◌, ◌≢◌, ◌≤◌}
pub use Rattle.std.proofs.Math.Seq.{get_or-append_seam}
pub use Rattle.std.proofs.lemmas.Bool.{and_parts, cases_eq, cases_lt, eqb-true}
pub use Rattle.std.proofs.lemmas.List.{get_or_append_left}
pub use Rattle.std.proofs.lemmas.List.Elements.{All-head, All-tail}
pub use Rattle.std.proofs.lemmas.List.FromFn.{length-range_with_len}
pub use Rattle.std.proofs.lemmas.Slice.Eq.{slice_eq-Decides}
pub use Rattle.std.proofs.lemmas.Slice.Zip.{AllZip-long}
pub use Rattle.std.specs.Bool.{Decides}
pub use Rattle.std.specs.Cmp.Lexicographic.{pointwise}
pub use Rattle.std.specs.List.{AllZip, find, range_with_len}
pub use Rattle.std.specs.Prelude.{IsTrue, is_some}
pub use Rattle.bench_types.proofs.EqualParts.{at_place}
pub use Rattle.limits.proofs.Sums.{fold_below-none, sum_below-most, sums}
pub use Rattle.bench_types.specs.declared.rows.Figures.{Figures}
pub use Rattle.model.proofs.Common.{Entry, MOST_KEYS, MOST_NODES, absent, fold_below-same, greatest, is_before, mark_held}
pub use Rattle.model.proofs.Owners.{length-lists_in, list_read}
pub use Rattle.model.specs.Figures.{copy_figures, generation_at, is_left_over, leftover_at, node_figures, rounds_behind, stale_count, staleness_at, staleness_of, writes_of_owner}
pub use Rattle.model.specs.Table.{IsProper, Table, entry_at}
pub use Rattle.model.specs.Tables.{IsTableOf, table_of_node}
pub use Rattle.model.specs.calls.OwnerListView.{OwnerListView, lists_in, written}
pub use Rattle.model.specs.calls.Writes.{AreBornBy, IsNumbered}
pub use Rattle.model.specs.declared.writes.Write.{Write}
pub use Rattle.node_table.proofs.InOrder.{length-tables_in, table_indexed}
pub use Rattle.node_table.specs.Entries.{AreAbove}
pub use Rattle.node_table.specs.NodeTableView.{NodeTableView, tables_in}
pub use Rattle.owner_lists.proofs.Last.{All-find}
pub use Rattle.owner_lists.specs.Missed.{first_missed, is_missed}
pub use Rattle.rayon.proofs.ListFacts.{IfOk-then}
pub use Rattle.rayon.proofs.ToStd.{nat_range-All}
pub use Rattle.rayon.specs.Numbers.{nat_range}
