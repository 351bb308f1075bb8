-- The names of other libraries that these proofs cite, passed on from one place. Declares nothing.
-- Serves most of the crate and the crates above.
pub use Rattle.std.proofs.Common.{All, AllPairs, Bool, List, None, Option, Some, [], ap, append_assoc, arith, cond, drop, eqb, false, fold, get_or, if◌then◌else◌, inl, inr, is_some, leb, length, ltb, map, max, not, option_map, refl, set, subst, suc, sym, take, true, zero, ℕ, ◌%◌, ◌&&◌, ◌*◌, ◌++◌, ◌+◌, ◌-◌, ◌<◌, ◌==◌, ◌^◌, ◌↔◌, ◌∙◌, ◌∷◌, ◌≡◌, ◌≢◌, ◌≤◌, ◌⊎◌}
pub use Rattle.std.proofs.Math.Nat.{add-mod_right, mod-eq_of_lt, mul-le-mul_left, mul-le-mul_right}
pub use Rattle.std.proofs.lemmas.Bool.{and_from, and_left, and_parts, and_right, both_ways, cases_eq, cases_lt, eq-eqb, eqb-true, le-leb, le-ltb, leb-false, leb-true, lt-leb, lt-ltb, ltb-true, ne_eqb, not-true}
pub use Rattle.std.proofs.lemmas.List.{append-nil, ext_get_or, get_or-append_right, get_or-map, get_or-set_other, get_or-set_same, get_or_append_left, get_or_default, get_or_past, length-append, length-drop, length-map, length-set, length-take-le, map-append, reverse-append, take-append-drop, take-take}
pub use Rattle.std.proofs.lemmas.List.Elements.{All-cons, All-contains, All-contains_itself, All-drop, All-filter, All-head, All-nil, All-tail, All-take, All-weaker, Contains-append_left, Contains-get_or, Contains-push, Contains-push_cases, filter_passes}
pub use Rattle.std.proofs.lemmas.List.FromFn.{get_or-map-range_with_len}
pub use Rattle.std.proofs.lemmas.List.Kept.{AllPairs-filter}
pub use Rattle.std.proofs.lemmas.List.Sorted.{All-permutation, Contains-permutation, IsPermutation-cons, IsPermutation-filter_both, IsPermutation-refl, IsPermutation-sym, IsPermutation-trans, length_permutation, ranks_by, sorted_far, sum_by-IsPermutation}
pub use Rattle.std.proofs.lemmas.List.Sums.{count_by-le-length, fold-append, length-filter, sum_by-cons}
pub use Rattle.std.proofs.lemmas.Option.{same_Some}
pub use Rattle.std.specs.Cmp.{IsTotalOrder, back_total, nat_cmp_total, on_total, ranked, then_total, tied_itself}
pub use Rattle.std.specs.FinMap.{IsAntisymmetric, empty, entries, entries_sorted, from_entries, get, get-empty, get-entries, get-from_entries, get-insert, get-retain_keys, insert, is_sorted, len, len-empty, len-insert, nat_cmp-IsAntisymmetric, retain_keys, same_map}
pub use Rattle.std.specs.FinMap.Entries.{below_all}
pub use Rattle.std.specs.List.{cons_option, filter_map, range_with_len}
pub use Rattle.std.specs.List.Sorted.{IsSorted}
pub use Rattle.std.specs.Ordering.{eq_by_cmp, is_eq, is_lt, nat_cmp, ordering_reverse, ordering_then}
pub use Rattle.std.specs.Prelude.{IsPermutation, count_by, filter}
pub use Rattle.std.specs.declared.cmp.Ordering.{Ordering}
pub use Rattle.std.specs.declared.cmp.Ordering.TheVariants.{Equal, Greater, Less}
pub use lib.Dec.{T}
pub use Rattle.bench_types.proofs.Comparing.{both_equal, equal, first, less, nat_cmp-equal, nat_cmp-greater, nat_cmp-less, second}
pub use Rattle.bench_types.proofs.Marks.{absent-first, before-no, before-true, before-up_to, before-yes, cases_before, cases_later, first-later, later-first, later-second, later-up_to, mark_held-newer, not_both, second-later, up_to-before, up_to-both, up_to-itself, up_to-then}
pub use Rattle.limits.proofs.Sums.{IsFoldBelow, fold_below-same, fold_below-swap, greatest, sum_below-le}
pub use Rattle.bench_types.specs.Budget.{amount_of}
pub use Rattle.bench_types.specs.Entry.{newer, next_version}
pub use Rattle.bench_types.specs.Mark.{IsBefore, IsUpTo, absent, is_before, later, mark_held, mark_of}
pub use Rattle.bench_types.specs.Mode.{digest_kind}
pub use Rattle.limits.specs.Sums.{most_below, sum_below}
pub use Rattle.bench_types.specs.calls.Entry.{AreNextAfter, IsNextAfter}
pub use Rattle.bench_types.specs.calls.Exchange.{IsPlanned}
pub use Rattle.bench_types.specs.declared.entries.Entry.{Entry}
pub use Rattle.bench_types.specs.declared.entries.Item.{Item}
pub use Rattle.bench_types.specs.declared.entries.Mark.{Mark}
pub use Rattle.bench_types.specs.declared.exchanges.Budget.{Budget}
pub use Rattle.bench_types.specs.declared.exchanges.DigestKind.{DigestKind}
pub use Rattle.bench_types.specs.declared.exchanges.DigestKind.TheVariants.{Precise, Scuttle}
pub use Rattle.bench_types.specs.declared.exchanges.Exchange.{Exchange}
pub use Rattle.bench_types.specs.declared.exchanges.Fate.{Fate}
pub use Rattle.bench_types.specs.declared.exchanges.Mode.{Mode}
pub use Rattle.bench_types.specs.declared.exchanges.Mode.TheVariants.{PreciseNewest, PreciseOldest, ScuttleBreadth, ScuttleDepth}
pub use Rattle.bench_types.specs.declared.exchanges.Record.{Record}
pub use Rattle.bench_types.specs.declared.exchanges.Rules.{Rules}
pub use Rattle.limits.specs.declared.TheConstants.{LEAST_KEYS, MOST_KEYS, MOST_NODES}
