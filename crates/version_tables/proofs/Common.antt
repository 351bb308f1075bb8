-- The names that these proofs cite of other libraries and of this crate's definitions, passed on from one place.
-- Declares nothing.
-- Serves most of the crate.
pub use Rattle.version_lags.proofs.Common.{Bool, Bor, HasCounted, IsLastNumber, IsNumberAt, List, None, Option, Some, [], ap, arith, base_of, both_ways, cases_eq, cases_lt, cond, eq-eqb, eqb, eqb-true, false, get_or, if◌then◌else◌, inl, inr, le-ltb, length, length-append, lt-ltb, ltb, map, max, mul-le-mul_right, nat_le, nat_lt, ne_eqb, none-passes, number-at, refl, rules, slice_index, subst, suc, sum_below-same, sym, table_of_node, write_numbered, zero, ℕ, ◌&&◌, ◌*◌, ◌+◌, ◌-◌, ◌<◌, ◌∙◌, ◌≡◌, ◌≤◌, ◌⊎◌}
pub use Rattle.delta_plans.proofs.Common.{AreChanged, AreMarked, Bytes, DeltaView, Entries, HasSet, IsOffer, KeepsLow, NumbersDiffer, Vec, by_first, candidates, count_all_between, delta_between, first_sent, known_mark, largest_share, lets_through, nat_tests, number_here, number_shares, share_or_none, sum_by-ones, transport, weight_between, with_items}
pub use Rattle.bench_types.specs.declared.exchanges.Fate.TheVariants.{Lost1, Lost2}
pub use Rattle.std.proofs.lemmas.List.{append-nil, append_assoc, get_or-append-add, get_or-map, get_or-set_other, get_or-set_same, get_or_append_left, get_or_default, get_or_past, get_or_push, length-map, length-set, map-append, map-id, map-set, set-get_or, take_all, with_items_is}
pub use Rattle.std.proofs.lemmas.List.FromFn.{get_or-map-range_with_len, length-map-range_with_len, sum_by-map-range_with_len_more}
pub use Rattle.std.proofs.lemmas.Nat.{same_from_place}
pub use Rattle.std.proofs.lemmas.Option.{none-some, same_Some}
pub use Rattle.std.proofs.lemmas.Result.{IfOk-weaker, err_from_is_err_and, on_ok_weaker}
pub use Rattle.delta_plans.specs.declared.marked.First.TheVariants.{Newest, Oldest}
pub use Rattle.delta_plans.specs.declared.offers.Offer.{Offer}
pub use Rattle.delta_plans.proofs.Candidates.{IsOffered, candidate-number, candidate-place, items_sum}
pub use Rattle.delta_plans.proofs.DeltaMarks.{are-sent, count-cut, count-sent, lets, shared-sent, whole-sent}
pub use Rattle.delta_plans.proofs.MarkedLaws.{whole-marked, whole-size}
pub use Rattle.delta_plans.proofs.RoundMarks.{count-above}
pub use Rattle.delta_plans.proofs.Starts.{all_writes-here}
pub use Rattle.delta_plans.proofs.WeightLaws.{count_between-most, part, part-cases, sum_below-none, weight_between-most, weight_of-none, weight_of-split}
pub use Rattle.model.proofs.Common.{Budget, DigestKind, Entry, Exchange, IsUpTo, Item, Mark, Precise, Record, Rules, Scuttle, absent-first, amount_of, digest_kind, is_before, mark_held, mark_of, not_both, range_with_len, set, sum_below, sum_below-le, true, ◌++◌, ◌==◌, ◌↔◌, ◌∷◌, ◌≢◌}
pub use Rattle.model.proofs.DeltaLaws.{sent-candidate}
pub use Rattle.model.specs.Exchanged.{exchanged}
pub use Rattle.model.proofs.Greatest.{greatest_mark-from, greatest_mark-none, greatest_mark-unique, mark_at-up_to_greatest}
pub use Rattle.model.proofs.InLists.{get-held_by_lists}
pub use Rattle.model.proofs.Lacking.{candidates-lacked}
pub use Rattle.model.proofs.ProperLaws.{proper-empty_table, proper-with_own_write, proper-without_all, proper-without_others}
pub use Rattle.model.proofs.Received.{kept, received-proper, sent-held, sent-up_to}
pub use Rattle.model.proofs.TableLaws.{KeepsFrame, entry_at-applied_from, entry_at-empty_table, entry_at-own_write, entry_at-own_write_other, entry_at-without_all, entry_at-without_others, frame-applied, same_table}
pub use Rattle.owner_writes.proofs.Keeping.{writes_begun, writes_more}
pub use Rattle.owner_writes.proofs.Numbers.{numbered-none, numbered-placed, numbered-some, numbered-within, numbers-before, numbers-compare, numbers-up_to, write_from-here}
pub use Rattle.grids.proofs.ByOwner.{owners-all, owners-next, owners_changed}
pub use Rattle.grids.specs.Grids.{count_held}
pub use Rattle.planes.specs.Planes.{number_taken}
pub use Rattle.planes.proofs.Places.{grid-within, plane-within, planes-written, total-places}
pub use Rattle.version_lags.proofs.Missed.{current-numbered}
pub use Rattle.version_tables.specs.inner.Beside.{AreCellsOf}
pub use Rattle.version_tables.specs.inner.Deltas.{AreMarksOf, FitBoth, delta_of_views, is_taken_at}
pub use Rattle.version_tables.specs.inner.Histories.{AreHistories, AreKnown, AreNoWrites, FitsHistories, IsBeginning, IsWriteUnder, IsWrittenSoFar, MayAddWrite, bases_in}
pub use Rattle.version_tables.specs.inner.Merged.{BothStayMerged, HasMerged, HaveMerged, MayMerge, MayTakeAll}
pub use Rattle.version_tables.specs.inner.Offered.{AreLow, AreOffered, AreTold, IsDelta}
pub use Rattle.version_tables.specs.inner.Taken.{HasTaken, HasTakenUnless, IsArrivalOf, MayArrive, drop_start, drop_starts, is_taken}
pub use Rattle.version_tables.specs.inner.Common.{AreBounds, AreMadeBy, AreNumbersAt, AreNumbersOf, ArePlanesChanged, ArePlanesChangedUpto, AreRaised, AreSizes, AreWrites, AreWrittenBy, BothCounts, Cells, Contains, First, HasCells, HasEach, HasEachPlace, HasNoneAbove, HasOwnWrite, HistoriesView, IsCluster, IsFirst, IsGreatest, IsKept, IsNextWrite, IsNumberOf, IsNumberedHistory, IsProper, IsRaised, IsRoundMark, KeepLimits, Lacks, ListBecomes, MOST_ROUNDS, MakesOf, MayBeCounted, OwnerListView, Piece, StandAtRoundEnd, StandsAmong, Table, VersionTableView, all_writes, applied, begun_generation, cell, count_between, count_by, digest_size, empty_table, entries, entries_below, entries_of, entry_at, entry_in, figures_of, generation_held, greatest_mark, greatest_version, initiator_after, is_lacked, item_of, items_of, last_fate, len-entries, list_of_owner, lists_in, mark_at, most_ahead, next_entry, no_writes, number_kept, number_raised, numbers_at, numbers_in, numbers_taken, offered_by, responder_after, round_ended, sent_until, start_before, start_of, table_in, take, told_by, told_number, total_above, with_entry, with_own_write, with_write, without_all, without_others, ◌||◌}
