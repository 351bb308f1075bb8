-- The names of other libraries that these proofs cite, passed on from one place. Declares nothing.
-- Serves the functions of `lists`, `Keeping`, `Last` and `Rising`.
pub use Rattle.std.proofs.Common.{All, Bool, Err, IfErr, IfOk, IfSome, List, None, Ok, Result, Some, [], ap, arith, cond, drop, drop-cons, eqb, false, find, get_or, if◌then◌else◌, inl, inr, is_ok, length, length-append, ltb, map, refl, reverse, rules, set, subst, suc, sym, true, zero, ℕ, ◌&&◌, ◌++◌, ◌+◌, ◌<◌, ◌^◌, ◌∙◌, ◌∷◌, ◌≡◌, ◌≢◌, ◌≤◌}
pub use Rattle.std.proofs.lemmas.Bool.{cases_lt, eq-eqb, le-ltb, lt-ltb, ne_eqb}
pub use Rattle.std.proofs.lemmas.List.{drop_all, get_or-map, length-map, map-append, reverse-append}
pub use Rattle.std.proofs.lemmas.List.Elements.{All-head, All-tail}
pub use Rattle.std.proofs.lemmas.List.Folds.{find-append}
pub use Rattle.std.proofs.lemmas.List.Sorted.{answers_always, searchable_from_sorted}
pub use Rattle.std.specs.Cmp.{nat_cmp_total, ranked}
pub use Rattle.std.specs.FinMap.{is_sorted, put}
pub use Rattle.std.specs.FinMap.Entries.{below_all, by_order, find-put, is_sorted-put}
pub use Rattle.std.specs.List.{insert}
pub use Rattle.std.specs.List.Sorted.{IsBinarySearchResult, IsSearchInRange, IsSortedBy}
pub use Rattle.std.specs.Option.{option_or}
pub use Rattle.std.specs.Ordering.{is_eq, is_lt, nat_cmp}
pub use Rattle.std.specs.declared.cmp.Ordering.TheVariants.{Equal, Greater, Less}
pub use lib.Dec.{T}
pub use Rattle.model.proofs.Common.{Entry, first, less, nat_cmp-equal, nat_cmp-greater, nat_cmp-less, second}
pub use Rattle.model.proofs.LastWrites.{last_write-push, same_key}
pub use Rattle.model.specs.Writes.{write_of_entry}
pub use Rattle.model.specs.calls.OwnerListView.{AreWrites, OwnerListView, begun_generation, next_entry, with_write, written}
pub use Rattle.model.specs.calls.Writes.{IsNumbered, is_write_of, last_write}
pub use Rattle.model.specs.declared.writes.Write.{Write}
pub use Rattle.owner_writes.proofs.Keeping.{writes_begun, writes_more}
pub use Rattle.owner_writes.specs.Kept.{entry_kept}
pub use Rattle.owner_writes.specs.declared.writes.Kept.{Kept}
