-- The names of other libraries that these proofs cite, passed on from one place. Declares nothing.
-- Serves most of the crate and `version_tables`.
pub use Rattle.limits.proofs.Sums.{most_below-same}
pub use Rattle.grids.proofs.Common.{ArePlanesChanged, IsLeastBehind, cases_eq, cases_lt, count_le, count_passing, get_or-map, le-ltb, length-map, lt-ltb, ltb-false, ltb-true, mul-le-mul_right, nat_le, nat_lt, nat_tests, none-passes, number-at, plane-within, sum_below-most, sum_below-same, sum_next, with_items_is}
unfoldable pub use Rattle.model.specs.Figures.{figures_of}
pub use Rattle.model.proofs.Common.{absent, and_parts, before-yes, both_ways, eq-eqb, eqb-true, get_or-append_right, get_or_append_left, get_or_default, is_before, leb-true, mark_of, ne_eqb, same_Some}
pub use Rattle.model.proofs.Figures.{most_by_owner}
pub use Rattle.model.proofs.Owners.{list_read}
pub use Rattle.model.proofs.Picked.{find_passes}
pub use Rattle.model.specs.Writes.{write_of_entry}
pub use Rattle.model.specs.calls.Writes.{is_write_of, last_write}
pub use Rattle.model.specs.declared.writes.Write.{Write}
pub use Rattle.owner_writes.proofs.Numbers.{numbered-placed, numbered-some, numbered-within, numbers-compare}
pub use Rattle.std.proofs.Common.{Bool, List, None, Option, Some, [], ap, arith, cond, div-lt_iff_lt-mul, eqb, ext_get_or, false, get_or, if◌then◌else◌, inl, inr, length, length-append, ltb, map, max, min, option_map, refl, reverse, rules, slice_index, subst, suc, sym, zero, ℕ, ◌&&◌, ◌*◌, ◌+◌, ◌-◌, ◌<◌, ◌/◌, ◌%◌, ◌∙◌, ◌≡◌, ◌≤◌, ◌⊎◌}
pub use Rattle.std.proofs.lemmas.List.{get_or-reverse, length-reverse}
pub use Rattle.std.proofs.lemmas.List.Folds.{find_at}
pub use Rattle.std.proofs.lemmas.List.Sums.{fails_before_first, passes_at_first}
pub use Rattle.std.proofs.lemmas.Option.{slice_get-get_or, slice_get_cases, slice_get_read}
pub use Rattle.std.proofs.lemmas.Result.{IfOk-at_ok}
pub use Rattle.std.specs.List.{position_or_len}
pub use Rattle.version_lags.specs.Common.{AreBounds, AreWrites, BirthsRise, Bor, Entry, Figures, Grid, HasEach, HistoriesView, IsGrid, IsProper, IsRoundMark, MOST_KEYS, MOST_NODES, OwnerListView, Piece, RoundNumbers, StandsAmong, StandsBeside, Table, cell, cells_in, entries_of, entry_at, generation_at, is_left_over, leftover_at, list_of_owner, lists_in, mark_held, most_below, no_writes, rounds_behind, stale_count, staleness_at, staleness_of, sum_below, table_of_node, total_of, write_numbered, written}
pub use Rattle.version_lags.specs.Missed.{HasNoneMissed, IsLastNumber, IsMissed, IsNumberAt, NonePassUpto, base_of, number_staleness}
pub use Rattle.version_lags.specs.Pieces.{AreAllCounted, AreGrids, AreNumbersOf, ArePieces, AreRoundNumbers, CountsPiece, HasCounted, IsLeastFrom, IsTotal, MayBeCounted, MayWalk, NumbersView, StandTogether, WalksFrom, histories_of, is_left, is_stale, least_below, most_lag, numbers_at, numbers_in, numbers_seen, total_below}
