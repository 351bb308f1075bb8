-- What these proofs cite of other libraries and of this crate's definitions, passed on from one place.
-- Serves `OwnerWrites::begin_generation`, `OwnerWrites::numbered`, `OwnerWrites::write`, `Keeping` and `Numbers`.
pub use Rattle.std.proofs.lemmas.List.{append-nil, append_assoc, drop-append-le, drop_all, get_or-append_right, get_or-map, get_or_append_left, get_or_push, length-drop, length-map, map-append, take-append-drop, take-append-le, take_all}
pub use Rattle.std.proofs.lemmas.List.Elements.{All-append}
pub use Rattle.std.proofs.lemmas.Option.{get_or_from_slice_get, slice_get-get_or, slice_get_past, slice_get_within}
pub use Rattle.std.specs.Prelude.{MatchOption, nat_lt, slice_get}
pub use Rattle.std.specs.Slice.{IsGetResult}
pub use Rattle.model.proofs.Common.{Entry, IsBefore, IsUpTo, List, None, Some, [], ap, arith, before-no, before-up_to, before-yes, cases_lt, drop, get_or, inl, inr, is_before, le-ltb, length, length-append, lt-ltb, map, mark_of, refl, same_Some, subst, suc, sym, take, up_to-itself, zero, ℕ, ◌++◌, ◌+◌, ◌-◌, ◌<◌, ◌^◌, ◌∙◌, ◌∷◌, ◌≡◌, ◌≤◌}
pub use Rattle.model.specs.calls.Numbers.{write_from, write_numbered}
pub use Rattle.model.specs.calls.OwnerListView.{AreWrites, MarksRise, OwnerListView, begun_generation, entries_of, next_entry, with_write}
pub use Rattle.owner_writes.specs.Kept.{entry_kept}
pub use Rattle.owner_writes.specs.declared.writes.Kept.{Kept}
pub use Rattle.owner_writes.specs.Numbered.{IsHistory}
pub use Rattle.owner_writes.specs.inner.Views.{IsKept, view_of}
