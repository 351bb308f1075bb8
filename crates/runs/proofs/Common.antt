-- The names of other libraries that these proofs cite, passed on from one place. Declares nothing.
-- Serves most of the crate.
pub use Rattle.std.proofs.Common.{Bool, Err, IfErr, IfOk, IfSome, List, None, Ok, Option, Result, Some, [], add-one, ap, append_assoc, arith, cond, drop, drop-cons, false, get_or, inl, inr, length, length-append, refl, rules, subst, suc, sym, take, take-append-drop, true, zero, ℕ, ◌*◌, ◌++◌, ◌+◌, ◌-◌, ◌<◌, ◌∙◌, ◌∷◌, ◌≡◌, ◌≢◌, ◌≤◌}
pub use Rattle.std.proofs.Math.Path.{transport}
pub use Rattle.std.proofs.KnownBytes.{Appends-trans, Consumes-all, Consumes-trans}
pub use Rattle.std.proofs.lemmas.Grind.{flat_map-append}
pub use Rattle.std.proofs.lemmas.List.{append-nil, length-take, length-take-le, map-id, take-append-le, take_all, take_more}
pub use Rattle.std.proofs.lemmas.List.FromFn.{map-range_with_len_more}
pub use Rattle.std.proofs.lemmas.Option.{same_Some}
pub use Rattle.std.proofs.lemmas.Result.{IfErr-weaker, on_ok_weaker}
pub use Rattle.std.specs.Io.KnownBytes.{Consumes, IsAtEnd}
pub use Rattle.std.specs.List.{range_with_len}
pub use Rattle.std.specs.Prelude.{Contains, IsErrAnd, IsSomeAnd, OnOk, flat_map}
pub use Rattle.limits.proofs.Sums.{sum_below-most}
pub use Rattle.bench_types.specs.Mode.{modes}
pub use Rattle.bench_types.specs.Output.{IsWriteFault, IsWritten}
pub use Rattle.bench_types.specs.declared.faults.Fault.{Fault}
pub use Rattle.bench_types.specs.declared.faults.Fault.TheVariants.{OutOfMemory, WriteFailed}
pub use Rattle.limits.specs.declared.TheConstants.{MOST_BYTES, MOST_WRITES}
pub use Rattle.model.proofs.Common.{Entry, Mode}
pub use Rattle.model.specs.Runs.{IsFaultOfWorkers}
pub use Rattle.model.specs.Table.{Table}
pub use Rattle.model.specs.calls.Numbers.{write_from, write_numbered}
pub use Rattle.report.specs.Compare.{compare_header_line, compare_line, compare_lines}
pub use Rattle.report.specs.Report.{report_header_line, report_line, report_lines}
pub use Rattle.report.specs.Trace.{trace_header_line}
pub use Rattle.round_plan.proofs.Growth.{length-own_writes, writes_in_le}
pub use Rattle.round_plan.proofs.Written.{apart-written_upto}
pub use Rattle.round_plan.specs.Outages.{is_up}
pub use Rattle.round_plan.specs.Writes.{count_before, own_writes, writes_in, written_upto}
pub use Rattle.scenario.specs.CheckFault.{IsFaultOfCheck}
pub use Rattle.scenario.specs.Order.{Says, document_of, first_fault}
pub use Rattle.scenario.specs.Settings.{IsLawfulScenario, Settings, with_mode}
pub use Rattle.played_rounds.specs.Outcomes.{row_in}
pub use Rattle.played_rounds.specs.calls.Outcomes.{played_of}
pub use Rattle.played_rounds.specs.calls.RoundView.{RoundView}
pub use Rattle.cluster.specs.calls.Standing.{MayWriteAll}
pub use Rattle.version_tables.specs.inner.Histories.{IsWriteUnder}
