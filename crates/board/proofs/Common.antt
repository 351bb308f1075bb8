-- The names of other libraries that these proofs cite, passed on from one place. Declares nothing.
-- Serves most of the crate.
pub use Rattle.std.proofs.Common.{All, Bool, IfSome, List, None, Option, Some, [], ap, append-nil, arith, cond, drop, eq-zero-or-pos, eqb, false, find, get_or, get_or-set_other, get_or-set_same, if◌then◌else◌, inl, inr, length, length-set, map, nat_le, nat_lt, not, refl, reverse, rules, set, subst, suc, sym, take, true, vec_capacity, zero, ℕ, ◌%◌, ◌&&◌, ◌*◌, ◌++◌, ◌+◌, ◌-◌, ◌/◌, ◌<◌, ◌==◌, ◌^◌, ◌||◌, ◌↔◌, ◌∙◌, ◌∷◌, ◌≡◌, ◌≢◌, ◌≤◌, ◌⊎◌}
pub use Rattle.std.proofs.lemmas.Bool.{and_from, and_parts, cases_Bool, cases_eq, cases_lt, eq-eqb, eqb-true, false≢true, le-ltb, lt-ltb, ne_eqb, or_left, or_right}
pub use Rattle.std.proofs.lemmas.List.{length-append, length-map, length_push, map-set, take_all}
pub use Rattle.std.proofs.lemmas.List.Elements.{All-cons, All-get_or, All-head, All-nil, All-tail}
pub use Rattle.std.proofs.lemmas.List.FromFn.{get_or-map-range_with_len, length-map-range_with_len, map-range_with_len_more}
pub use Rattle.std.proofs.lemmas.Option.{none-some, same_Some}
pub use Rattle.std.specs.List.{range_with_len}
pub use Rattle.std.specs.Mem.Slots.{slots_counts, slots_filled, slots_items, slots_len}
pub use Rattle.std.specs.Mem.Slots.Ownership.{Filled}
pub use Rattle.std.specs.Prelude.{Vec}
pub use Rattle.std.specs.declared.alloc.Global.{Global}
pub use prog.Atomic.{either}
pub use lib.Bits.{and_mask, bit_or, or_add_and, or_shifted}
pub use mathlib.Core.Logic.{dite}
pub use mathlib.Core.Option.{none, some, some-injective, some-ne-none}
pub use lib.ListN.{get_elem?}
pub use native.Mathlib.Decide.{ℕ_discrete}
pub use lib.Seq.{set-get_or}
pub use Rattle.atomic_table.proofs.Lists.{at_map, at_set, at_snoc, set_else, set_here}
pub use Rattle.atomic_table.specs.Table.{Act, Allows, Final, Joins, Me, Seen, Splits, State, Step, Valid, carried_after, chain, gives, homes_after, keeps, opening, rest, step, stepped, takes, turned}
pub use Rattle.dependencies.proofs.Lawful.{in_list_order}
pub use Rattle.dependencies.proofs.Moves.{initiator_left, responder_left, table_still, tables_at_end}
pub use Rattle.dependencies.proofs.Predecessors.{earlier_from_predecessors, last_before-is, last_before-reaches, predecessors_earlier, share_from}
pub use Rattle.dependencies.proofs.Sets.{below, schedule_from}
pub use Rattle.dependencies.proofs.Sharers.{initiator_part, not_initiator, not_responder, part_cases, responder_part, share_common}
pub use Rattle.dependencies.specs.ListOrder.{AreClosed, finished_upto, schedule_of}
pub use Rattle.dependencies.specs.Neighbours.{as_list, first_from, last_before, pending_of, predecessors, predecessors_of, successors, unless_same}
pub use Rattle.dependencies.specs.Schedules.{is_finished, is_running, is_started}
pub use Rattle.dependencies.specs.Sharing.{exchange_at, no_exchange, share_node, takes_part}
pub use Rattle.dependencies.specs.declared.events.Event.{Event}
pub use Rattle.dependencies.specs.inner.Slots.{in_place}
pub use Rattle.model.proofs.Common.{Exchange, IsPlanned}
pub use Rattle.model.proofs.FoldLaws.{before_tables, fold_counts_tables}
pub use Rattle.model.specs.Exchanged.{Exchanged}
pub use Rattle.model.specs.Folds.{fold_of}
pub use Rattle.model.specs.RoundLists.{RoundListView}
pub use Rattle.model.specs.Table.{Table}
pub use Rattle.model.specs.Tables.{IsTableOf, table_of_node}
pub use Rattle.model.specs.calls.RoundLists.{IsRoundPlan}
pub use Rattle.model.specs.calls.Tables.{IsCluster}
