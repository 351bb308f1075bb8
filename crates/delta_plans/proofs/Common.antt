-- The names of other libraries that these proofs cite, passed on from one place. Declares nothing.
-- Serves most of the crate and `version_tables`.
pub use Rattle.std.proofs.Common.{Bool, Contains, Global, List, None, Option, Some, Vec, [], add-one, ap, arith, cond, drop, eqb, false, get_or, inl, inr, leb, length, length-drop, length-take-le, ltb, map, max, min, nat_lt, not, refl, rules, set, subst, suc, sym, take, true, zero, ℕ, ◌||◌, ◌*◌, ◌++◌, ◌+◌, ◌-◌, ◌<◌, ◌∙◌, ◌∷◌, ◌≡◌, ◌≢◌, ◌≤◌, ◌⊎◌}
pub use Rattle.std.proofs.Math.Path.{transport}
pub use Rattle.std.proofs.lemmas.List.Sums.{get_or-le-sum_by}
pub use Rattle.std.specs.Vec.{with_items}
pub use borrow.Author.Rules.{scaled_Fits}
pub use Rattle.limits.proofs.Sums.{sum_below-plus}
pub use Rattle.model.proofs.Common.{AllPairs-filter, Budget, Contains-get_or, Entry, IsTotalOrder, Item, MOST_KEYS, MOST_NODES, Mode, PreciseNewest, PreciseOldest, ScuttleBreadth, ScuttleDepth, amount_of, both_ways, cases_eq, cases_lt, count_by, filter, get_or-append_right, get_or-set_other, get_or-set_same, get_or_default, is_eq, is_lt, le-leb, le-ltb, length-append, length-filter, length-map, length-set, length_permutation, less, lt-leb, lt-ltb, mul-le-mul_right, nat_cmp, ordering_reverse, ordering_then, same_Some, sum_below, sum_below-le, sum_by-cons, tied_itself, ◌&&◌}
pub use Rattle.planes.proofs.Common.{below_more, count_passing, fold_below-join, map-set, nat_tests, sum_below-most, sum_below-same, sums, with_items_is}
pub use Rattle.model.proofs.Apart.{rotated-injective, rotated-is}
pub use Rattle.model.proofs.Counts.{count_by-not}
pub use Rattle.model.proofs.Fitting.{sum_by-ones}
pub use Rattle.model.proofs.DeltaLaws.{sending_order-strict, sending_order-total}
pub use Rattle.model.proofs.Items.{Contains-items_of, IsApart, apart-items_of, entry_at-items_of, items_at-apart}
pub use Rattle.model.proofs.Levels.{level_order, order-levels}
pub use Rattle.model.proofs.Members.{Contains-filter, Contains-kept, same_members}
pub use Rattle.model.proofs.Places.{Contains-first_places, first_places-Contains}
pub use Rattle.model.proofs.StateDeltas.{sent_apart}
pub use Rattle.model.proofs.TableLaws.{items_at-none, tied-stands_at}
pub use Rattle.model.specs.Picks.{cut_count, fits, sent, size_through}
pub use Rattle.model.specs.inner.Applied.{items_at, stands_at}
pub use Rattle.owner_writes.proofs.Numbers.{number-of_version, numbered-placed, numbered-some, versions-rise}
pub use Rattle.planes.proofs.Counts.{count_le, number_next, sum_next}
pub use Rattle.planes.proofs.Elementwise.{made-as, number-at}
pub use Rattle.delta_plans.specs.Common.{AreChanged, AreWrites, Bytes, Cells, DeltaView, Entries, Equal, First, Fit, Greater, HasEach, HasNoneAbove, IsHistory, IsInPlace, IsLeastAbove, IsNextAbove, IsProper, Less, Level, MOST_ENTRY_SIZE, Newest, Offer, Oldest, Ordering, OwnerListView, Reached, Rounds, Step, Table, Turns, all_writes, candidates, cell, count_above, count_between, delta_between, entries_of, entry_at, generation_held, item_share, items_of, known_mark, largest_share, list_of_owner, no_writes, owner_count, rank_among, rotated, sending_order, start_before, start_of, sum_by, total_of, write_numbered}
pub use Rattle.delta_plans.specs.Between.{AreFound, owner_weight}
pub use Rattle.delta_plans.specs.LevelMarks.{by_first, comes_first, item_number, AreLevelMarks, IsOn, NumbersDiffer, first_level, first_sent, level_number, lets_through, rank_above, round_in, round_of}
pub use Rattle.delta_plans.specs.Offers.{number_here, number_there, sum_over, AreSent, Offers, is_lacked, offered_sum}
pub use Rattle.delta_plans.specs.Marked.{AreMarked, IsLevelOf, KeepsLow}
pub use Rattle.delta_plans.specs.OfferInMemory.{IsLeftOf, IsOffer, cells_in, count_in, high_in, low_in, marks, owner_count_in, weight_in, weights_in}
pub use Rattle.delta_plans.specs.Plans.{AreFarther, AreMarksFrom, AreRunsFrom, HasNoneBetween, HaveLeft, IsLevel, IsMarkFrom, IsLevelBy, IsNextLayer, IsNextMark, IsStep, count_on, weight_on}
pub use Rattle.delta_plans.specs.RoundLevels.{AreFewAndEnough, AreRaised, AreRoundMarks, IsAsked, IsFound, mark_of_rounds}
pub use Rattle.delta_plans.specs.SentSets.{DeltasHaveTheirSets, HasSet, IsSentSet, size_in}
pub use Rattle.delta_plans.specs.Turns.{AreShared, StopAt, StopsBefore, AreSharedBy, AreTurns, HasReached, HaveTurns, IsStopBetween, IsStopOf, IsStopSoFar, part_weight, parts_count, reached_after, weight_to}
pub use Rattle.delta_plans.specs.Weights.{count_all_between, number_shares, one_each, share_or_none, weight_between, weight_from, weight_of, weight_through}
