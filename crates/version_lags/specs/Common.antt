-- The names of other definitions that these ones, contracts and proofs cite, from one place. Declares nothing.
pub use Rattle.bench_types.specs.Mark.{mark_held}
pub use Rattle.limits.specs.Sums.{most_below, sum_below}
pub use Rattle.bench_types.specs.declared.entries.Entry.{Entry}
pub use Rattle.bench_types.specs.declared.faults.Fault.{Fault}
pub use Rattle.bench_types.specs.declared.faults.Fault.TheVariants.{OutOfMemory}
pub use Rattle.limits.specs.declared.TheConstants.{MOST_KEYS, MOST_NODES, MOST_ROUNDS}
pub use Rattle.bench_types.specs.declared.rows.Figures.{Figures}
pub use Rattle.model.specs.Figures.{figures_of, generation_at, is_left_over, leftover_at, rounds_behind, stale_count, staleness_at, staleness_of}
pub use Rattle.model.specs.Table.{IsProper, Table, entry_at}
pub use Rattle.model.specs.Tables.{HoldsOfEach, table_of_node}
pub use Rattle.model.specs.calls.Numbers.{write_numbered}
pub use Rattle.model.specs.calls.OwnerListView.{AreWrites, OwnerListView, all_writes, entries_of, list_of_owner, lists_in, no_writes, written}
pub use Rattle.model.specs.calls.Tables.{IsCluster}
pub use Rattle.owner_writes.specs.Numbered.{AreEnds, IsRoundMark}
pub use Rattle.planes.specs.Grids.{IsOwnerOf, cells_in}
pub use Rattle.planes.specs.Planes.{HasEach, HasEachPlace, IsGrid, cell, total_of}
pub use Rattle.planes.specs.declared.sizes.Grid.{Grid}
pub use Rattle.round_histories.specs.Histories.{AreWrittenBy, BirthsRise, HistoriesView, KeepLimits, StandsAmong, StandsBeside}
pub use Rattle.std.specs.Borrow.{Bor}
pub use Rattle.version_lags.specs.Bounds.{AreBounds, IsStretchOf}
pub use Rattle.version_lags.specs.declared.lags.Piece.{Piece}
pub use Rattle.version_lags.specs.declared.lags.RoundNumbers.{RoundNumbers}
