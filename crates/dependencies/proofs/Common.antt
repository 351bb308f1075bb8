-- The names of other libraries that these proofs cite, passed on from one place. Declares nothing.
-- Serves most of the crate.
pub use Rattle.std.proofs.Common.{All, Bool, List, None, Option, Some, [], add-one, ap, append-nil, append_assoc, arith, cond, drop, false, fold, get_or, get_or-set_other, get_or-set_same, if◌then◌else◌, inl, inr, length, length-set, map, not, refl, rules, set, slice_get, subst, suc, sym, take, true, zero, ℕ, ◌&&◌, ◌++◌, ◌+◌, ◌-◌, ◌<◌, ◌==◌, ◌||◌, ◌∙◌, ◌∷◌, ◌≡◌, ◌≢◌, ◌≤◌, ◌⊎◌}
pub use Rattle.std.proofs.Math.Seq.{get_or-append_seam}
pub use Rattle.std.proofs.lemmas.Bool.{and_from, and_left, and_parts, and_right, cases_Bool, cases_eq, cases_lt, cond-false, cond-true, eq-eqb, eqb-true, false_from_ne_true, false≢true, le-ltb, lt-ltb, ne_eqb, not-true, not_from_false, or_cases, or_from, or_left, or_right}
pub use Rattle.std.proofs.lemmas.List.{get_or-replicate, get_or_append_left, get_or_read, length-append, length-take-le, length_push, map-id, take-append-drop, take-append-le, take-take, take_all, take_at, take_more}
pub use Rattle.std.proofs.lemmas.List.Elements.{All-cons, All-get_or, All-head, All-nil, All-tail}
pub use Rattle.std.proofs.lemmas.List.Folds.{list_any-append}
pub use Rattle.std.proofs.lemmas.List.FromFn.{fill_by_all, filter_of_map_range_with_len_more, get_or-map-range_with_len, length-map-range_with_len, map-range_with_len_more}
pub use Rattle.std.proofs.lemmas.List.Recursion.{or_push}
pub use Rattle.std.proofs.lemmas.List.Sums.{fold-append, fold_more, fold_push, sum_by_push}
pub use Rattle.std.proofs.lemmas.Option.{none-some, same_Some, slice_get-get_or, slice_get_cases, slice_get_within}
pub use Rattle.std.specs.List.{filter, find, list_any, range_with_len}
pub use Rattle.std.specs.Prelude.{count_by, flat_map, nat_eq, nat_lt}
pub use Rattle.model.proofs.Common.{Exchange, IsPlanned, Rules}
pub use Rattle.model.proofs.FoldLaws.{fold_counts_records, fold_counts_tables}
pub use Rattle.model.specs.Exchanged.{Exchanged, exchanged}
pub use Rattle.model.specs.Folds.{Folded, exchange_in, fold_of, tables_before}
pub use Rattle.model.specs.RoundLists.{RoundListView}
pub use Rattle.model.specs.Table.{Table, empty_table}
pub use Rattle.model.specs.Tables.{table_of_node}
