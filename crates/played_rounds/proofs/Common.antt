-- The names of other libraries that these proofs cite, passed on from one place. Declares nothing.
-- Serves the functions of `playing` and `rounds`, `Defined`, `Exchanged` and `Soundness`.
pub use Rattle.std.proofs.Common.{All, Bool, IfOk, List, [], ap, arith, false, get_or, if◌then◌else◌, inl, inr, length, map, refl, subst, suc, sym, take, true, zero, ℕ, ◌*◌, ◌++◌, ◌+◌, ◌-◌, ◌<◌, ◌∙◌, ◌≡◌, ◌≤◌}
pub use Rattle.std.proofs.Math.Seq.{take-length}
pub use Rattle.std.proofs.lemmas.Bool.{cases_lt}
pub use Rattle.std.proofs.lemmas.List.{ext_get_or, get_or_past, length-map}
pub use Rattle.std.proofs.lemmas.List.FromFn.{get_or-map-range_with_len, length-map-range_with_len}
pub use Rattle.std.proofs.lemmas.Result.{IfOk-weaker}
pub use Rattle.std.specs.Prelude.{Contains, IfSome}
pub use Rattle.bench_types.specs.calls.Budget.{IsLawfulBudget}
pub use Rattle.bench_types.specs.declared.exchanges.Budget.TheVariants.{Bytes, Entries}
pub use Rattle.bench_types.specs.declared.rows.Figures.{Figures}
pub use Rattle.model.proofs.Common.{AreNextAfter, Budget, Entry, Exchange, IsPlanned, Mark, Record, Rules}
pub use Rattle.model.proofs.BeginLaws.{IsBegun, begun_copies, begun_forget, begun_no_gap, begun_restart, begun_same, begun_then, begun_writes, counted_writes, empty_copies, empty_no_gap, generation-written, written_rises}
pub use Rattle.model.proofs.ExchangeLaws.{marks_stay, marks_then}
pub use Rattle.model.proofs.FoldLaws.{before_copies, before_keeps_own, before_no_gap, before_rises, fold_counts_records, fold_counts_tables, fold_keeps_own, fold_proper}
pub use Rattle.model.proofs.MarkLaws.{greatest_mark-empty_table, greatest_mark-without_all, greatest_mark-without_others_own}
pub use Rattle.model.proofs.Owners.{length-lists_in, list_read}
pub use Rattle.model.proofs.TableLaws.{entry_at-empty_table}
pub use Rattle.model.proofs.Tables.{cluster_of, table_of_node-made}
pub use Rattle.model.specs.Clusters.{NoMarksFall}
pub use Rattle.model.specs.Copies.{IsLastOf}
pub use Rattle.model.specs.ExchangeLaws.{NoMarkFalls}
pub use Rattle.model.specs.Figures.{figures_of}
pub use Rattle.model.specs.Folds.{Folded, fold_of, tables_before}
pub use Rattle.model.specs.RoundLists.{RoundListView}
pub use Rattle.model.specs.Table.{IsProper, Table, empty_table, entry_at, greatest_version, with_own_writes, without_all, without_others}
pub use Rattle.model.specs.Tables.{AreProper, AreTablesInOrder, HoldsOfEach, table_of_node}
pub use Rattle.model.specs.Writes.{write_of_entry}
pub use Rattle.model.specs.calls.OwnerListView.{OwnerListView, lists_in, no_writes, list_of_owner}
pub use Rattle.model.specs.calls.RoundLists.{IsRoundPlan}
pub use Rattle.model.specs.calls.Tables.{IsCluster}
pub use Rattle.model.specs.inner.Owns.{KeepOwnParts}
pub use Rattle.round_plan.proofs.Generations.{generation_upto-next, generation_upto-same}
pub use Rattle.round_plan.proofs.Growth.{count_before-grown, count_upto-grown, keys-own_writes, next-own_writes, written_upto-grown}
pub use Rattle.round_plan.proofs.Planned.{planned_list}
pub use Rattle.round_plan.specs.Generations.{generation_upto}
pub use Rattle.round_plan.specs.Outages.{forgets_now, restarts_now}
pub use Rattle.round_plan.specs.Plan.{round_list_of}
pub use Rattle.round_plan.specs.Writes.{count_before, count_upto, own_writes, written_upto, writes_upto}
pub use Rattle.round_histories.specs.Histories.{AreWrittenBy, HistoriesView, StandsAmong}
pub use Rattle.scenario.specs.Settings.{IsBudgetOf, IsLawfulScenario, Settings}
