-- The rounds of a scenario and what they are written to, of whatever kind that is: `Wrote` says what it is once a round
-- was written, from what it was before, and `Stops` what it is where writing a round came to a fault.
-- Source: this project.
use Rattle.std.specs.Prelude.{◌≡◌, ℕ, zero, suc, ◌+◌, ◌*◌, ◌⊎◌, Result, OnOk, IfOk, IfErr, nat_lt, if◌then◌else◌}
use Rattle.bench_types.specs.declared.faults.Fault.{Fault}
use Rattle.bench_types.specs.declared.faults.Fault.TheVariants.{OutOfMemory}
use Rattle.model.specs.Table.{Table}
use Rattle.round_histories.specs.Histories.{HistoriesView}
use Rattle.cluster.specs.declared.clusters.Cluster.{Cluster}
use Rattle.cluster.specs.calls.Clusters.{IsAfterRound}
use Rattle.runs.specs.Runs.{IsFaultInRounds}
use Rattle.scenario.specs.Settings.{Settings}
use Rattle.played_rounds.specs.calls.Outcomes.{played_of}
use Rattle.played_rounds.specs.calls.RoundView.{RoundView}
use Rattle.played_rounds.specs.declared.playing.NextRound.{NextRound}

-- of the workers that are asked for, one where all tables together have fewer numbers than so many, else all
abbrev pub workers_worth : Settings → ℕ → ℕ → ℕ
workers_worth s few asked = if nat_lt (s.nodes * s.nodes * s.keys) few then 1 else asked

module _ {O : Type 0} (Wrote : O → O → RoundView → Type 0) (s : Settings) (old : O) where
  -- the first so many rounds were written, one after another
  abbrev pub AreWrittenInTurn : O → ℕ → Type 0
  AreWrittenInTurn new zero = new ≡ old
  AreWrittenInTurn new (suc done) = (now : O) × AreWrittenInTurn now done × Wrote now new (played_of s (suc done))

module _ {O : Type 0} (Wrote : O → O → RoundView → Type 0) (Stops : O → O → RoundView → Fault → Type 0)
    (s : Settings) (old new : O) where
  -- and then writing the next one came to this fault
  abbrev pub StopsInTurn : Fault → ℕ → Type 0
  StopsInTurn fault done =
      (now : O) × AreWrittenInTurn Wrote s old now done × Stops now new (played_of s (done + 1)) fault

  -- the fault of the rounds and of writing them
  abbrev pub IsFaultInTurn : ℕ → Fault → Type 0
  IsFaultInTurn workers fault = IsFaultInRounds s workers fault (AreWrittenInTurn Wrote s old new) (StopsInTurn fault)

  -- what comes of all rounds: they are written, and the scenario comes back, or a fault in them
  pub record AnswersRounds (workers : ℕ) (answer : Result Settings Fault) : Type 0 where
    pub same : IfOk answer (λ back. back ≡ s)
    pub written : OnOk answer (AreWrittenInTurn Wrote s old new s.rounds)
    pub fault : IfErr answer (IsFaultInTurn workers)

-- the next round was played, and written
pub record WritesNext {T K G O : Type 0} (table : T → Table) (kept : K → HistoriesView) (Wrote : O → O → RoundView → Type 0)
    (next : NextRound T K G) (old new : O) (cluster : Cluster T K) : Type 0 where
  pub after : IsAfterRound table kept next.scenario.now next.round cluster
  pub wrote : Wrote old new (played_of next.scenario.now next.round)

-- memory was lacking for it, or writing it came to this fault
abbrev pub StopsNext : {T K G O : Type 0} → (O → O → RoundView → Fault → Type 0) → NextRound T K G → O → O → Fault → Type 0
StopsNext Stops next old new fault =
    ((fault ≡ OutOfMemory) × (new ≡ old)) ⊎ Stops old new (played_of next.scenario.now next.round) fault
