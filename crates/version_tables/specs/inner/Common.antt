-- The names of other definitions that these ones, contracts and proofs cite, from one place. Declares nothing.
pub use Rattle.std.specs.Coded.{Coded, code_by, coded_list, coded_ℕ, coded×}
pub use Rattle.std.specs.FinMap.{entries, len-entries}
pub use Rattle.std.specs.Prelude.{All, Bool, Contains, IfOk, IsOkUnless, IsTrue, List, OnErr, OnOk, Result, Some, count_by, false, length, map, max, nat_le, nat_lt, refl, slice_index, take, true, ℕ, ◌||◌}
pub use Rattle.bench_types.specs.calls.Budget.{IsLawfulBudget}
pub use Rattle.bench_types.specs.declared.exchanges.Rules.{Rules}
pub use Rattle.delta_plans.specs.Common.{AreChanged, AreEnds, AreMadeBy, Budget, DeltaView, DigestKind, Ends, Entry, Fault, IsHistory, IsNumberedHistory, OutOfMemory, Scuttle, amount_of, delta_between, digest_kind, largest_share, mark_of, start_before, start_of, write_numbered}
pub use Rattle.delta_plans.specs.LevelMarks.{by_first, first_sent}
pub use Rattle.delta_plans.specs.Offers.{AreSent, HasCells, is_lacked, offered_by, told_by, told_number}
pub use Rattle.delta_plans.specs.declared.marked.First.{First}
pub use Rattle.delta_plans.specs.declared.told_marks.Owners.{Owners}
pub use Rattle.grids.specs.Grids.{HasColumn, IsOwnerKept, number_kept}
pub use Rattle.grids.specs.declared.merges.BothCounts.{BothCounts}
pub use Rattle.model.specs.Digests.{digest_size}
pub use Rattle.model.specs.Exchanged.{initiator_after, last_fate, responder_after, sent_until}
pub use Rattle.model.specs.Table.{IsProper, Table, applied, empty_table, entry_at, generation_held, greatest_mark, greatest_version, item_of, items_of, mark_at, with_own_write, without_all, without_others}
pub use Rattle.model.specs.calls.DeltaLaws.{Lacks}
pub use Rattle.model.specs.calls.ExchangeLaws.{MayMeet, StoodInEither}
pub use Rattle.model.specs.calls.Exchanging.{IsKeptByExchanges, MakesOf}
pub use Rattle.model.specs.calls.OwnerListView.{AreWrites, ListBecomes, OwnerListView, all_writes, begun_generation, entries_of, list_of_owner, lists_in, next_entry, no_writes, with_write}
pub use Rattle.model.specs.inner.Held.{entry_in}
pub use Rattle.planes.specs.Planes.{ArePlanesChanged, ArePlanesChangedUpto, AreRaised, Cells, HasEach, HasEachPlace, HasNoneAbove, IsGrid, IsRaised, cell, count_between, most_ahead, number_raised, numbers_taken, total_above}
pub use Rattle.round_histories.specs.Histories.{AreFiguresCounted, AreNewHistories, AreWrittenBy, HistoriesView, HistoryBecomes, KeepLimits, StandAtRoundEnd, StandsAmong, histories_code, round_ended}
pub use Rattle.version_lags.specs.Common.{AreBounds, IsCluster, IsRoundMark, IsStretchOf, MOST_NODES, MOST_ROUNDS, figures_of}
pub use Rattle.version_lags.specs.Missed.{IsLastNumber}
pub use Rattle.version_lags.specs.Pieces.{AreNumbersAt, AreNumbersOf, AreRoundNumbers, Counts, MayBeCounted, histories_of, numbers_at, numbers_in}
pub use Rattle.version_lags.specs.declared.lags.Piece.{Piece}
pub use Rattle.version_lags.specs.declared.lags.RoundNumbers.{RoundNumbers}
pub use Rattle.version_tables.specs.Views.{AreSizes, HasOwnWrite, IsFirst, IsGreatest, IsGridIn, IsKept, IsNextWrite, IsNumberOf, VersionTableView, entries_below, table_in, with_entry}
