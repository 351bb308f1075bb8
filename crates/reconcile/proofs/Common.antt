-- The names of other libraries that these proofs cite, passed on from one place. Declares nothing.
-- Serves most of the crate.
pub use Rattle.std.proofs.Common.{All, Bool, IfOk, List, None, Result, Some, [], ap, arith, cond, drop, eqb, false, get_or, inl, inr, length, ltb, map, max, not, refl, rules, set, subst, suc, sym, take, tests, true, zero, ℕ, ◌&&◌, ◌*◌, ◌++◌, ◌+◌, ◌-◌, ◌<◌, ◌^◌, ◌∙◌, ◌∷◌, ◌≡◌, ◌≢◌, ◌≤◌, ◌⊎◌}
pub use Rattle.std.proofs.Math.Nat.{mul-le-mul_right}
pub use Rattle.std.proofs.lemmas.Bool.{and_from, and_parts, both_ways, cases_eq, cases_lt, cases_order, eq-eqb, eqb-true, le-ltb, lt-ltb, ltb-false, ltb-true, ne_eqb, not-true}
pub use Rattle.std.proofs.lemmas.Fn.{always_returns_same, filter_same}
pub use Rattle.std.proofs.lemmas.Grind.{flat_map-append}
pub use Rattle.std.proofs.lemmas.List.{append-nil, append_assoc, get_or-append_right, get_or-drop, get_or-set_other, get_or-set_same, get_or-take, get_or_append_left, get_or_default, length-append, length-drop, length-map, length-set, length-take, map-append, take-append-drop, take_at, take_more}
pub use Rattle.std.proofs.lemmas.List.Elements.{All-append, All-cons, All-contains, All-drop, All-filter, All-head, All-map, All-nil, All-tail, All-take, All-weaker, Contains-append_cases, Contains-append_left, Contains-append_right, Contains-get_or, filter-append, filter_passes}
pub use Rattle.std.proofs.lemmas.List.Folds.{length-flat_map-take}
pub use Rattle.std.proofs.lemmas.List.Kept.{AllPairs-filter}
pub use Rattle.std.proofs.lemmas.List.Sorted.{Contains-permutation, IsPartitionPoint-from_clause, IsPartitionedBy-ltb, IsPermutation-append_comm, IsPermutation-append_left, IsPermutation-filter_both, IsPermutation-refl, IsPermutation-sym, IsPermutation-trans, length_permutation, ranks_by}
pub use Rattle.std.proofs.lemmas.List.Sums.{count_by-le-length, sum_by-append, sum_by-cons}
pub use Rattle.std.proofs.lemmas.Result.{IfOk-weaker}
pub use Rattle.std.specs.Cmp.{IsTotalOrder, nat_cmp_total, on_total, ranked, then_total, tied_itself}
pub use Rattle.std.specs.List.{AllPairs, flat_map, range_with_len}
pub use Rattle.std.specs.List.Sorted.{IsNonDecreasingBy, IsPartitionPoint, IsSorted}
pub use Rattle.std.specs.Ordering.{is_eq, is_lt, nat_cmp, ordering_reverse, ordering_then}
pub use Rattle.std.specs.Prelude.{Contains, IsPermutation, count_by, filter}
pub use Rattle.std.specs.declared.cmp.Ordering.{Ordering}
pub use Rattle.std.specs.declared.cmp.Ordering.TheVariants.{Equal, Greater, Less}
pub use Rattle.bench_types.proofs.Marks.{before-false}
pub use Rattle.bench_types.specs.declared.exchanges.Budget.TheVariants.{Bytes, Entries}
pub use Rattle.bench_types.specs.declared.faults.Fault.{Fault}
pub use Rattle.model.proofs.Common.{Budget, DigestKind, Entry, IsBefore, IsUpTo, Item, Mark, Mode, PreciseNewest, PreciseOldest, ScuttleBreadth, ScuttleDepth, absent, amount_of, before-no, before-true, before-yes, digest_kind, is_before, mark_held, mark_of, nat_cmp-equal, nat_cmp-greater, nat_cmp-less, up_to-then}
pub use Rattle.model.proofs.Apart.{rotated-is}
pub use Rattle.model.proofs.Counts.{count_by-cons_false, count_by-cons_true, filter-stretch}
pub use Rattle.model.proofs.Fitting.{fitting-append, fitting-zero, left_after-append, length-fitting-le, sum-fitting}
pub use Rattle.model.proofs.Greatest.{mark_at-up_to_greatest}
pub use Rattle.model.proofs.Items.{Contains-items_of, IsApart, apart-items_of, entry_at-items_of}
pub use Rattle.model.proofs.Levels.{sending_order-ascending, sending_total}
pub use Rattle.model.proofs.Members.{AllPairs-append, AllPairs-map, Contains-filter, Contains-kept, Contains-map, same_members}
pub use Rattle.model.proofs.Proper.{items_sound}
pub use Rattle.model.proofs.Sending.{length-candidates-lt, sorted_sent}
pub use Rattle.model.proofs.Sent.{All-sent, candidates-in_place}
pub use Rattle.model.proofs.TableLaws.{tied-stands_at}
pub use Rattle.model.specs.Candidates.{IsScuttleMode, candidates, items_above, known_mark}
pub use Rattle.model.specs.Deltas.{DeltaView, delta_of, item_share}
pub use Rattle.model.specs.Order.{owner_count, rank_among, rotated, sending_order}
pub use Rattle.model.specs.Picks.{fits}
pub use Rattle.model.specs.Table.{IsProper, Table, entry_at, generation_held, greatest_mark, greatest_version, items_of, mark_at}
pub use Rattle.model.specs.calls.DeltaLaws.{AreWithin}
pub use Rattle.model.specs.calls.Table.{IsFor, IsItemInPlace}
pub use Rattle.model.specs.inner.Applied.{stands_at}
pub use Rattle.model.specs.inner.Fitting.{fitting, left_after}
pub use Rattle.model.specs.inner.Items.{no_item}
pub use Rattle.node_table.specs.Entries.{AreAbove, AreGenerations, AreGreatest, StandsBefore}
