-- What contracts see of a simulation, and what a step makes of it. Where it is broken it has no tables.
-- Source: this project.
use Rattle.std.specs.Prelude.{◌≡◌, ℕ, ◌+◌, ◌<◌, ◌⊎◌, Bool, true, false, List, map}
use Rattle.bench_types.specs.declared.faults.Fault.{Fault}
use Rattle.bench_types.specs.declared.faults.Fault.TheVariants.{Broken, Finished}
use Rattle.model.specs.Table.{Table}
use Rattle.scenario.specs.Settings.{Settings}
use Rattle.model.specs.calls.OwnerListView.{OwnerListView}
use Rattle.played_rounds.specs.calls.RoundView.{RoundView}
use Rattle.model.specs.Runs.{IsFaultOfWorkers}
use Rattle.cluster.specs.Rounds.{tables_after}
use Rattle.played_rounds.specs.calls.Outcomes.{played_of}
use Rattle.played_rounds.specs.Soundness.{AreSound, OnlyRestartsLowerMarks}
use Rattle.cluster.specs.calls.Standing.{StandAfterRound}

-- `T` are the tables in memory
pub record SimView (T : Type 0) : Type 0 where
  pub settings : Settings
  pub rounds_done : ℕ
  pub broken : Bool
  pub tables : List T
  pub lists : List OwnerListView

-- these are the tables of the definition, unless a round has failed
abbrev pub AreTablesAfter : {T : Type 0} → (T → Table) → SimView T → List T → Type 0
AreTablesAfter table v tables = v.broken ≡ false → map table tables ≡ tables_after v.settings v.rounds_done

-- a round is left, and none has failed
abbrev pub MayStep : {T : Type 0} → SimView T → Type 0
MayStep v = (v.broken ≡ false) × (v.rounds_done < v.settings.rounds)

-- a step that carried out the next round
pub record PlaysNext {T : Type 0} (table : T → Table) (old new : SimView T) (round : RoundView) : Type 0 where
  pub may : MayStep old
  pub still : new.broken ≡ false
  pub settings : new.settings ≡ old.settings
  pub done : new.rounds_done ≡ old.rounds_done + 1
  pub tables : map table new.tables ≡ tables_after new.settings new.rounds_done
  pub standing : StandAfterRound new.settings new.rounds_done (map table new.tables) new.lists
  pub played : round ≡ played_of new.settings new.rounds_done
  pub sound : AreSound new.settings new.rounds_done (map table new.tables)
  pub kept : OnlyRestartsLowerMarks new.settings new.rounds_done (map table old.tables) (map table new.tables)

-- a step that failed with so many workers
abbrev pub IsFailedBy : {T : Type 0} → ℕ → SimView T → SimView T → Fault → Type 0
IsFailedBy workers old new fault =
    IsFaultOfWorkers workers fault × MayStep old × (new.broken ≡ true) × (new.settings ≡ old.settings)
    × (new.rounds_done ≡ old.rounds_done)

-- a step that had nothing to do
abbrev pub IsRefusedBy : {T : Type 0} → SimView T → Fault → Type 0
IsRefusedBy old fault =
    ((fault ≡ Broken) × (old.broken ≡ true))
    ⊎ ((fault ≡ Finished) × (old.broken ≡ false) × (old.rounds_done ≡ old.settings.rounds))

-- the fault of a step; one that had nothing to do has changed nothing
abbrev pub IsStepFault : {T : Type 0} → ℕ → SimView T → SimView T → Fault → Type 0
IsStepFault workers old new fault = IsFailedBy workers old new fault ⊎ (IsRefusedBy old fault × (new ≡ old))
