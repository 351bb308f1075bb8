-- The names of other libraries' definitions that these ones, contracts and proofs cite, from one place. Declares nothing.
pub use Rattle.bench_types.specs.Budget.{amount_of, largest_share, share_of}
pub use Rattle.bench_types.specs.Mark.{is_before, mark_of}
pub use Rattle.bench_types.specs.Mode.{digest_kind}
pub use Rattle.limits.specs.Sums.{sum_below}
pub use Rattle.bench_types.specs.declared.entries.Entry.{Entry}
pub use Rattle.bench_types.specs.declared.entries.Item.{Item}
pub use Rattle.bench_types.specs.declared.exchanges.Budget.{Budget}
pub use Rattle.bench_types.specs.declared.exchanges.Budget.TheVariants.{Bytes, Entries}
pub use Rattle.bench_types.specs.declared.exchanges.DigestKind.{DigestKind}
pub use Rattle.bench_types.specs.declared.exchanges.DigestKind.TheVariants.{Precise, Scuttle}
pub use Rattle.bench_types.specs.declared.exchanges.Mode.{Mode}
pub use Rattle.bench_types.specs.declared.exchanges.Mode.TheVariants.{PreciseNewest, PreciseOldest, ScuttleBreadth, ScuttleDepth}
pub use Rattle.bench_types.specs.declared.faults.Fault.{Fault}
pub use Rattle.bench_types.specs.declared.faults.Fault.TheVariants.{OutOfMemory}
pub use Rattle.limits.specs.declared.TheConstants.{MOST_ENTRY_SIZE, MOST_KEYS, MOST_NODES}
pub use Rattle.delta_plans.specs.declared.marked.First.{First}
pub use Rattle.delta_plans.specs.declared.marked.First.TheVariants.{Newest, Oldest}
pub use Rattle.delta_plans.specs.declared.offers.Level.{Level}
pub use Rattle.delta_plans.specs.declared.offers.Offer.{Offer}
pub use Rattle.delta_plans.specs.declared.offers.Step.{Step}
pub use Rattle.delta_plans.specs.declared.rounds.Fit.{Fit}
pub use Rattle.delta_plans.specs.declared.rounds.Rounds.{Rounds}
pub use Rattle.delta_plans.specs.declared.sharing.Reached.{Reached}
pub use Rattle.delta_plans.specs.declared.sharing.Turns.{Turns}
pub use Rattle.delta_plans.specs.declared.told_marks.Owners.{Owners}
pub use Rattle.model.specs.Candidates.{candidates, known_mark}
pub use Rattle.model.specs.Deltas.{DeltaView, delta_between, item_share}
pub use Rattle.model.specs.Order.{owner_count, rank_among, rotated, sending_order}
pub use Rattle.model.specs.Table.{IsInPlace, IsProper, Table, entry_at, generation_held, items_of}
pub use Rattle.model.specs.calls.Numbers.{write_numbered}
pub use Rattle.model.specs.calls.OwnerListView.{AreWrites, OwnerListView, all_writes, entries_of, list_of_owner, no_writes}
pub use Rattle.owner_writes.specs.Numbered.{AreEnds, AreMadeBy, IsHistory, IsNumberedHistory, start_before, start_of}
pub use Rattle.planes.specs.Elementwise.{AreChanged}
pub use Rattle.planes.specs.Grids.{IsGridOf}
pub use Rattle.planes.specs.Planes.{Cells, HasEach, HasNoneAbove, IsLeastAbove, IsNextAbove, cell, count_above, count_between, number_ahead, total_of}
pub use Rattle.planes.specs.declared.ends.Ends.{Ends}
pub use Rattle.std.specs.List.{sum_by}
pub use Rattle.std.specs.declared.cmp.Ordering.{Ordering}
pub use Rattle.std.specs.declared.cmp.Ordering.TheVariants.{Equal, Greater, Less}
