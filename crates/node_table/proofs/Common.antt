-- The names of other libraries that these proofs cite, passed on from one place. Declares nothing.
-- Serves most of the crate.
pub use Rattle.std.proofs.Common.{All, Bool, Err, List, None, Ok, OnErr, Option, Result, Some, [], add-one, ap, append_assoc, arith, cond, drop, eqb, false, get_or, get_or-set_other, get_or-set_same, inl, inr, length, length-append, map, max, not, refl, replicate, rules, set, subst, suc, sym, take, true, zero, ℕ, ◌&&◌, ◌*◌, ◌++◌, ◌+◌, ◌-◌, ◌/◌, ◌<◌, ◌==◌, ◌||◌, ◌∙◌, ◌∷◌, ◌≡◌, ◌≢◌, ◌≤◌, ◌⊎◌}
pub use Rattle.std.proofs.Math.ListN.{drop_of_length-le}
pub use Rattle.std.proofs.Math.Nat.{mul-le-mul_left, mul-le-mul_right}
pub use Rattle.std.proofs.lemmas.Bool.{cases_eq, cases_lt, eq-eqb, eqb-true, lt-ltb, ltb-false, ne_eqb}
pub use Rattle.std.proofs.lemmas.Bool.Decides.{Decides-eqb}
pub use Rattle.std.proofs.lemmas.List.{drop-append-le, drop-set, drop-set-lt, drop-take, drop_at, drop_more, get_or-drop, get_or-replicate, get_or-take, get_or_default, get_or_past, get_or_read, length-drop, length-map, length-replicate, length-set, length-take-le, nil_from_length, set-append_left, take-append-le, take-replicate, take-set, take-set-le, take-take, take_all, take_more_set, take_rest, with_items_is}
pub use Rattle.std.proofs.lemmas.List.Edits.{get_or-insert_above, get_or-insert_at, get_or-insert_below, get_or-remove_above, get_or-remove_below, insert_end, length-insert, length-remove, take-paste}
pub use Rattle.std.proofs.lemmas.List.Elements.{All-cons, All-contains, All-head, All-map, All-nil, All-tail}
pub use Rattle.std.proofs.lemmas.List.Filters.{FiltersInPlace, FiltersInPlace-more_no, FiltersInPlace-more_set}
pub use Rattle.std.proofs.lemmas.List.Kept.{AllPairs-cons}
pub use Rattle.std.proofs.lemmas.List.Quantifiers.{all_pairs_remove}
pub use Rattle.std.proofs.lemmas.List.Sums.{sum_by-cons, sum_by-le, sum_by-set}
pub use Rattle.std.proofs.lemmas.Map.Made.{IsDistinct-from_AllPairs}
pub use Rattle.std.proofs.lemmas.Map.Steps.{length-le_from_distinct_below}
pub use Rattle.std.proofs.lemmas.Map.Views.{Contains-from_any}
pub use Rattle.std.proofs.lemmas.Nat.{div-add-mod', le-div}
pub use Rattle.std.proofs.lemmas.Option.{same_Some}
pub use Rattle.std.proofs.lemmas.Slice.{drop-put_mid}
pub use Rattle.std.specs.FinMap.{empty, get, get-empty, get-insert, same_map}
pub use Rattle.std.specs.List.{AllPairs, Contains, copy_within, filter, remove}
pub use Rattle.std.specs.Ordering.{eq_by_cmp, is_lt, nat_cmp, ordering_then}
pub use Rattle.std.specs.Prelude.{nat_lt, sum_by, vec_capacity, vec_len}
pub use Rattle.std.specs.Result.{IsOk}
pub use Rattle.std.specs.Vec.{with_items}
pub use Rattle.std.specs.declared.cmp.Ordering.TheVariants.{Equal, Greater, Less}
pub use borrow.Rule.Slice.PartMut.{put_mid}
pub use lib.Seq.{paste}
pub use Rattle.model.proofs.Common.{Entry, IsBefore, IsUpTo, Item, MOST_KEYS, MOST_NODES, Mark, absent, before-no, before-yes, cases_later, later, later-second, mark_held, mark_of, nat_cmp-greater, newer, second-later}
pub use Rattle.model.proofs.Greatest.{greatest_mark-from, greatest_mark-none, mark_at-up_to_greatest, place_less}
pub use Rattle.model.proofs.InLists.{entry_in-none, get-held_by_lists, held_by_lists-put, len-held_by_lists}
pub use Rattle.model.proofs.MarkLaws.{greatest_mark-taken, greatest_mark-taken_other, greatest_mark-without_others_other, greatest_mark-without_others_own}
pub use Rattle.model.proofs.Order.{place_same, place_total, place_turned}
pub use Rattle.model.proofs.ProperLaws.{proper-empty_table, proper-taken, proper-taking, proper-without_all, proper-without_others}
pub use Rattle.model.proofs.TableLaws.{cases_taken, entry_at-own_write, entry_at-own_write_other, entry_at-taken_newer, entry_at-taken_other, entry_at-without_others_other, entry_at-without_others_own, frame-taken, place_tied, same_table, taken-older}
pub use Rattle.model.specs.Table.{Held, IsProper, Place, Table, applied, count_of, empty_table, entry_at, generation_held, greatest_mark, greatest_version, mark_at, own_write, place_cmp, taken, with_own_write, without_others}
pub use Rattle.model.specs.Tables.{table_of_node}
pub use Rattle.model.specs.calls.Held.{held_by_lists}
pub use Rattle.model.specs.calls.Table.{IsItemInPlace}
pub use Rattle.model.specs.inner.Held.{HaveTwoKeys, entry_in}
pub use Rattle.model.specs.inner.Items.{no_item}
