-- The names of other libraries that these proofs cite, passed on from one place. Declares nothing.
-- Serves most of the crate.
pub use Rattle.std.proofs.Common.{All, AllPairs, Bool, Bor, Contains, List, MatchResult, Option, Result, Some, [], ap, append-nil, arith, cond, count_by, drop, false, filter, find, get_or, if◌then◌else◌, inl, inr, is_ok, length, length-append, length-drop, map, not, option_map, refl, replicate, reverse, rules, slice_index, slice_set, subst, suc, sym, take, tests, true, unwrap_or, zero, ℕ, ◌%◌, ◌&&◌, ◌*◌, ◌++◌, ◌+◌, ◌-◌, ◌<◌, ◌==◌, ◌^◌, ◌||◌, ◌∙◌, ◌∷◌, ◌≡◌, ◌≢◌, ◌≤◌}
pub use Rattle.std.proofs.Math.ListN.{get_or-append, length-set}
pub use Rattle.std.proofs.Math.Nat.{add-mod_right, mod-eq_of_lt, mod-lt}
pub use Rattle.std.proofs.lemmas.Bool.{and_parts, cases_eq, cases_lt, cond_both, eq-eqb, lt-ltb, ne_eqb}
pub use Rattle.std.proofs.lemmas.Bool.Decides.{nat_tests}
pub use Rattle.std.proofs.lemmas.Iterator.{YieldsList-from_slice}
pub use Rattle.std.proofs.lemmas.Iterator.Adapters.{YieldsList-from_rev_slice}
pub use Rattle.std.proofs.lemmas.Iterator.Search.{any_from_yields_List, find_from_yields_List}
pub use Rattle.std.proofs.lemmas.List.{drop_all, get_or-append_right, get_or-drop, get_or-map, get_or-reverse, get_or-take, get_or_default, length-map, length-reverse, length-take-le, map-append, take_all, take_more_set}
pub use Rattle.std.proofs.lemmas.List.Edits.{fill_by_more}
pub use Rattle.std.proofs.lemmas.List.Elements.{All-append, All-cons, All-filter, All-map, All-nil, All-push, All-tail, All-weaker, Contains-append_left, Contains-append_right, filter-append, filter_more}
pub use Rattle.std.proofs.lemmas.List.FromFn.{get_or-map-range_with_len, get_or-range_with_len, length-map-range_with_len, length-range_with_len, map-range_with_len_more}
pub use Rattle.std.proofs.lemmas.List.Recursion.{or_at, or_from_places}
pub use Rattle.std.proofs.lemmas.List.Sorted.{searched}
pub use Rattle.std.proofs.lemmas.List.Sums.{count_by_more_no, count_by_more_yes}
pub use Rattle.std.proofs.lemmas.Slice.Zip.{AllZip-map}
pub use Rattle.std.specs.Int.{to_le_bytes, w64}
pub use Rattle.std.specs.List.{AllZip, list_any, range_with_len}
pub use Rattle.std.specs.List.Sorted.{IsBinarySearchResult, IsStrictlyIncreasing}
pub use Rattle.std.specs.Ordering.{nat_cmp}
pub use Rattle.std.specs.Prelude.{Err, Ok, nat_lt}
pub use mathlib.Core.Bool.{beq}
pub use Rattle.limits.specs.declared.TheConstants.{MOST_ROUNDS, MOST_WRITES}
pub use Rattle.model.proofs.Common.{AreNextAfter, Entry, Exchange, IsNextAfter, IsPlanned, Mark, is_before, mark_of, next_version}
pub use Rattle.model.specs.RoundLists.{round_list_view}
pub use Rattle.rand_chacha.specs.ChaCha.{ChaCha, key_of, next_word, word_at}
pub use Rattle.rayon.proofs.ListFacts.{IfOk-then}
pub use Rattle.rayon.proofs.ToStd.{nat_range-All}
pub use Rattle.rayon.specs.Numbers.{nat_range}
pub use Rattle.scenario.specs.Settings.{IsLawfulScenario, Settings}
pub use Rattle.scenario.specs.declared.choices.Peers.{Peers}
pub use Rattle.scenario.specs.declared.choices.Peers.TheVariants.{Random, Ring}
pub use Rattle.scenario.specs.declared.choices.Rotation.{Rotation}
pub use Rattle.scenario.specs.declared.elements.Load.{Load}
pub use Rattle.scenario.specs.declared.elements.Partition.{Partition}
