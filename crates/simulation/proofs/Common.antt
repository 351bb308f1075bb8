-- The names of other libraries that these proofs cite, passed on from one place. Declares nothing.
-- Serves the functions of `apart` and `sims` and `Stepping`.
pub use Rattle.std.proofs.Common.{Err, IfErr, IfOk, Ok, Option, Result, Some, ap, arith, false, inl, inr, map, refl, subst, sym, ℕ, ◌+◌, ◌-◌, ◌<◌, ◌∙◌, ◌≡◌}
pub use Rattle.std.proofs.lemmas.Result.{IfOk-at_ok, IfOk-weaker}
pub use Rattle.std.specs.Prelude.{IfSome, is_none}
pub use Rattle.bench_types.specs.declared.faults.Fault.{Fault}
pub use Rattle.model.proofs.Common.{Entry}
pub use Rattle.model.specs.Runs.{IsFaultOfWorkers}
pub use Rattle.model.specs.Table.{Table}
pub use Rattle.round_histories.specs.Histories.{HistoriesView}
pub use Rattle.scenario.specs.Settings.{IsLawfulScenario, Settings}
