-- The names of other libraries that these proofs cite, passed on from one place. Declares nothing.
-- Serves most of the crate.
pub use Rattle.std.proofs.Common.{All, Bool, Err, List, Ok, Result, Some, [], add-one, ap, append_assoc, arith, false, get_or, if◌then◌else◌, inl, inr, length, length-append, map, refl, set, subst, suc, sym, take, true, zero, ℕ, ◌++◌, ◌+◌, ◌-◌, ◌<◌, ◌^◌, ◌∙◌, ◌∷◌, ◌≡◌, ◌≢◌, ◌≤◌}
pub use Rattle.std.proofs.Math.ListN.{get_or-append}
pub use Rattle.std.proofs.Math.Seq.{take-length}
pub use Rattle.std.proofs.lemmas.Bool.{both_ways, cases_eq, cases_lt}
pub use Rattle.std.proofs.lemmas.List.{append-nil, get_or-append_right, get_or-map, get_or_default, get_or_past, get_or_push, length-map, length-set, length-take-le, map-append, map-set, map_more, take_more}
pub use Rattle.std.proofs.lemmas.List.Elements.{All-append, All-nil, All-push, All-weaker}
pub use Rattle.std.proofs.lemmas.List.FromFn.{length-map-range_with_len}
pub use Rattle.std.proofs.lemmas.List.Sums.{fold-append}
pub use Rattle.std.proofs.lemmas.Result.{IfOk-at_ok, IfOk-weaker, on_ok_weaker}
pub use Rattle.std.specs.List.{range_with_len}
pub use Rattle.std.specs.Prelude.{IfSome, OnOk, Vec}
pub use Rattle.std.specs.declared.alloc.Global.{Global}
pub use Rattle.model.proofs.Common.{AreNextAfter, Entry, IsNextAfter, LEAST_KEYS, MOST_KEYS, MOST_NODES, Mark, next_version}
pub use Rattle.model.proofs.BeginLaws.{counted_write, generation-written}
pub use Rattle.model.proofs.MarkLaws.{greatest_mark-empty_table, greatest_mark-without_all, greatest_mark-without_others_own}
pub use Rattle.model.proofs.OwnParts.{born-later, own_part-empty, own_part-written}
pub use Rattle.model.proofs.Owners.{written_more}
pub use Rattle.model.proofs.ProperLaws.{proper-empty_table, proper-with_own_write, proper-without_all, proper-without_others}
pub use Rattle.model.proofs.TableLaws.{entry_at-without_all, entry_at-without_others_own}
pub use Rattle.model.proofs.Tables.{same_tables, still_table_of, table_of_node-made, table_of_node-set_other, table_of_node-set_same}
pub use Rattle.model.specs.Table.{IsProper, Table, empty_table, entry_at, greatest_mark, greatest_version, with_own_write, with_own_writes, without_all, without_others}
pub use Rattle.model.specs.Tables.{AreProper, table_of_node}
pub use Rattle.model.specs.Writes.{write_of_entry}
pub use Rattle.model.specs.calls.Numbers.{write_from, write_numbered}
pub use Rattle.model.specs.calls.OwnParts.{OwnPartIsLastWrites}
pub use Rattle.model.specs.calls.OwnerListView.{ListBecomes, OwnerListView, all_writes, begun_generation, entries_of, list_of_owner, next_entry, no_writes, with_write, written}
pub use Rattle.model.specs.calls.Writes.{AreBornBy}
pub use Rattle.model.specs.declared.writes.Write.{Write}
pub use Rattle.model.specs.inner.Owns.{KeepOwnParts, KeepsOwn}
pub use Rattle.model.specs.inner.Writes.{next_write}
pub use Rattle.round_plan.proofs.Generations.{generation_upto-next, generation_upto-same, generation_upto_le, restarts-any, restarts-forgets}
pub use Rattle.round_plan.proofs.Growth.{born-own_writes, length-writes_before, length_unless, next-own_writes, writes_before-grown, writes_upto-grown, written_upto-grown}
pub use Rattle.round_plan.specs.Generations.{generation_upto}
pub use Rattle.round_plan.specs.Outages.{forgets_now, restarts_now}
pub use Rattle.round_plan.specs.Writes.{count_before, own_writes, writes_upto, written_upto}
pub use Rattle.round_plan.specs.calls.Outages.{any_restart_now}
pub use Rattle.round_plan.specs.calls.Words.{RunWordsView, run_words_of}
pub use Rattle.round_plan.specs.calls.Writes.{AreWritesOf, born_in, writes_before}
pub use Rattle.round_plan.specs.declared.owners.OwnWrite.{OwnWrite}
pub use Rattle.round_histories.specs.Histories.{AddsWrite, AreWrittenBy, BirthsRise, HistoriesView, MayWrite, StandsBeside, StaysBesideLists, own_list}
pub use Rattle.scenario.specs.Settings.{Settings}
