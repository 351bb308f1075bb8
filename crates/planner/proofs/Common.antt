-- The names of other libraries that these proofs cite, passed on from one place. Declares nothing.
-- Serves the functions of `plays` and `schedules`, `Places`, `Playing`, `Stages` and `Standings`.
pub use Rattle.std.proofs.Common.{All, Bool, List, None, Option, Some, [], ap, arith, false, fold, get_or, if◌then◌else◌, inl, inr, length, map, not, refl, replicate, set, slice_get, subst, suc, sym, take, true, zero, ℕ, ◌&&◌, ◌++◌, ◌+◌, ◌<◌, ◌==◌, ◌||◌, ◌∙◌, ◌∷◌, ◌≡◌, ◌≢◌, ◌≤◌}
pub use Rattle.std.proofs.lemmas.Bool.{both_ways, cases_Bool, cases_eq, cases_lt, cond-true, eq-eqb, false≢true, lt-ltb, ne_eqb, or_right}
pub use Rattle.std.proofs.lemmas.List.{append-nil, append_assoc, get_or-set_other, get_or-set_same, get_or_past, get_or_read, length-map, length-set, take_all, take_more}
pub use Rattle.std.proofs.lemmas.List.Elements.{All-cons, All-head, All-nil, All-tail, filter_map-append}
pub use Rattle.std.proofs.lemmas.List.Sums.{count_by-le-length, fold-append, sum_by-cons}
pub use Rattle.std.proofs.lemmas.Option.{get_or_from_slice_get, none-some, same_Some, slice_get-get_or, slice_get_within}
pub use Rattle.std.proofs.lemmas.Result.{IfOk-weaker, err_from_is_err_and}
pub use Rattle.std.specs.List.{cons_option, count_by, filter_map}
pub use Rattle.std.specs.Option.{option_eq}
pub use Rattle.std.specs.Prelude.{IsTrue, ◌↔◌}
pub use Rattle.std.specs.Vec.Iter.{into_iter_items}
pub use Rattle.bench_types.specs.declared.faults.Fault.{Fault}
pub use Rattle.dependencies.proofs.Histories.{finished-finish, finished-start, history_of, lawful_none, lawful_push, or_none, started-finish, started-start}
pub use Rattle.dependencies.proofs.Lawful.{whole_in_list_order}
pub use Rattle.dependencies.proofs.Maps.{with_at-other, with_at-same}
pub use Rattle.dependencies.proofs.Predecessors.{earlier_from_predecessors, predecessors_earlier}
pub use Rattle.dependencies.proofs.Sets.{schedule_from}
pub use Rattle.dependencies.specs.ListOrder.{AreClosed, IsEndOfList, schedule_of}
pub use Rattle.dependencies.specs.Neighbours.{as_list, predecessors, predecessors_of}
pub use Rattle.dependencies.specs.Schedules.{AreFinished, IsLawful, MayStart, is_finished, is_running, is_started}
pub use Rattle.dependencies.specs.Sharing.{exchange_at, no_exchange, share_node}
pub use Rattle.dependencies.specs.States.{State, Taken, after_event, both_of, opened, put_back, state_of, with_at}
pub use Rattle.dependencies.specs.declared.deps.Before.{Before}
pub use Rattle.dependencies.specs.declared.events.Event.{Event}
pub use Rattle.dependencies.specs.declared.events.Event.TheVariants.{Finish, Start}
pub use Rattle.dependencies.specs.inner.Slots.{in_place}
pub use Rattle.model.proofs.Common.{Exchange, IsPlanned, Record, Rules}
pub use Rattle.model.proofs.FoldLaws.{fold_counts_records, fold_tables}
pub use Rattle.model.proofs.Owns.{initiator_keeps_own, responder_keeps_own}
pub use Rattle.model.proofs.Tables.{still_table_of}
pub use Rattle.model.specs.Exchanged.{Exchanged, exchanged}
pub use Rattle.model.specs.Folds.{fold_of}
pub use Rattle.model.specs.RoundLists.{RoundListView}
pub use Rattle.model.specs.Table.{Table, empty_table}
pub use Rattle.model.specs.Tables.{AreTablesInOrder, IsTableOf, table_of_node}
pub use Rattle.model.specs.calls.RoundLists.{IsRoundPlan}
pub use Rattle.model.specs.calls.Tables.{IsCluster}
pub use Rattle.node_table.proofs.InOrder.{length-tables_in}
pub use Rattle.node_table.specs.NodeTableView.{NodeTableView, tables_in}
