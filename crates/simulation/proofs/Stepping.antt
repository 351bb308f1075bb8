-- A step that carries out the next round.
-- Serves `Sim::step`, `Sim::step_by` and `Sim::take_out`.
use Rattle.simulation.proofs.Common.{Err, Fault, IfErr, IfOk, IsFaultOfWorkers, Ok, Result, inl, ◌≡◌, ℕ, ◌<◌, map, sym, ◌∙◌, arith, ◌+◌, ◌-◌, false, Option, Some, refl, ap, subst, Table, Settings, IsLawfulScenario, HistoriesView, is_none, IfSome, Entry}
use Rattle.std.specs.Prelude.{IsOkUnless}
use Rattle.bench_types.specs.declared.faults.Fault.TheVariants.{OutOfMemory}
use Rattle.cluster.specs.Rounds.{tables_after}
use Rattle.cluster.specs.calls.Standing.{StandAfterRound}
use Rattle.cluster.specs.declared.clusters.Cluster.{Cluster}
use Rattle.cluster.specs.calls.Clusters.{HaveEnded, IsAfterRound, IsBefore}
use Rattle.cluster.specs.calls.Plans.{IsDrawnAfter}
use Rattle.played_rounds.specs.calls.RoundView.{RoundView}
use Rattle.played_rounds.specs.Soundness.{AreSound, OnlyRestartsLowerMarks}
use Rattle.played_rounds.specs.calls.Playing.{IsPlayed}
use Rattle.played_rounds.proofs.Soundness.{sound_run, round_rises}
use Rattle.simulation.specs.inner.Insides.{IsInside, simulation_of, tables_held, lists_held}
use Rattle.simulation.specs.inner.Stepping.{HasTakenOut, IsPutBack}
use Rattle.simulation.specs.calls.Simulation.{IsStepFault, PlaysNext, SimView}

-- what a round asks of the cluster that it begins with
pub after_before : {T K : Type 0} (table : T → Table) (kept : K → HistoriesView) (May : ℕ → ℕ → Entry → Type 0) (s : Settings)
    (cluster : Option (Cluster T K)) (old : Cluster T K) (done : ℕ) → IsInside table kept May s cluster done → cluster ≡ Some old
    → IsAfterRound table kept s (done + 1 - 1) old
after_before table kept May s cluster old done so_far is = subst (λ r. IsAfterRound table kept s r old) previous (record {
  standing = subst (λ c. StandAfterRound s done (map table (tables_held c)) (lists_held kept c)) is (so_far.simulation.standing unbroken);
  tables = ap (λ c. map table (tables_held c)) (sym is) ∙ so_far.simulation.tables unbroken;
  ended = subst (λ c. IfSome c (λ d. HaveEnded s done (kept d.histories))) is so_far.ended;
  drawn = subst (λ c. IfSome c (λ d. IsDrawnAfter s done d.drawn)) is so_far.drawn;
})
  where
    previous : done ≡ done + 1 - 1
    previous = omega arith

    unbroken : is_none cluster ≡ false
    unbroken = ap is_none is

-- a cluster that was taken out has played the next round, and was put back
step_played : {T K : Type 0} (table : T → Table) (kept : K → HistoriesView) (May : ℕ → ℕ → Entry → Type 0) (old out new : SimView T)
    (c d : Cluster T K) (round : RoundView) → HasTakenOut table kept May old out c
    → IsPlayed table kept out.settings (out.rounds_done + 1) d round
    → new ≡ simulation_of kept out.settings (Some d) (out.rounds_done + 1) → PlaysNext table old new round
step_played table kept May old out new c d round taken played is = subst (λ v. PlaysNext table old v round) (sym is) (record {
  may = taken.may;
  still = refl;
  settings = taken.settings;
  done = ap (λ n. n + 1) taken.rounds_done;
  tables = played.after.tables;
  standing = played.after.standing;
  sound = subst (AreSound s (done + 1)) (sym played.after.tables) ((sound_run s lawful.nodes.0 lawful.nodes.1 lawful.keys.0 lawful.keys.1).after (done + 1));
  kept = subst (λ ts. OnlyRestartsLowerMarks s (done + 1) ts (map table d.tables.items)) (sym before)
      (subst (OnlyRestartsLowerMarks s (done + 1) (tables_after s done)) (sym played.after.tables)
      (round_rises s lawful.nodes.0 lawful.nodes.1 lawful.keys.0 lawful.keys.1 done));
  played = played.played;
})
  where
    s : Settings
    s = out.settings

    done : ℕ
    done = out.rounds_done

    lawful : IsLawfulScenario s
    lawful = taken.before.lawful

    before : map table old.tables ≡ tables_after s done
    before = ap (map table) taken.tables ∙ taken.before.before.tables ∙ ap (tables_after s) (omega arith)

-- what is taken out may play the next round, and where it does it is put back
module _ {T K : Type 0} {table : T → Table} {kept : K → HistoriesView} {May : ℕ → ℕ → Entry → Type 0} {old out new inside : SimView T}
    {c : Cluster T K} (taken : HasTakenOut table kept May old out c) (same : new ≡ out) (is : inside ≡ new) where
  pub may_play_next : IsBefore table kept May inside.settings (inside.rounds_done + 1) c
  may_play_next = subst (λ (v : SimView T). IsBefore table kept May v.settings (v.rounds_done + 1) c) (sym (is ∙ same)) taken.before

  pub round_left : new.rounds_done < new.settings.rounds
  round_left = subst (λ (v : SimView T). v.rounds_done < v.settings.rounds) (sym same) (omega (arith, taken.before.of_run.within))

  pub next_played : {d : Cluster T K} {round : RoundView} → IsPlayed table kept inside.settings (inside.rounds_done + 1) d round
      → IsPlayed table kept new.settings (new.rounds_done + 1) d round
  next_played {d} {round} = subst (λ (v : SimView T). IsPlayed table kept v.settings (v.rounds_done + 1) d round) is

  pub step_done : (end : SimView T) (played : Result (Cluster T K × RoundView) Fault) (result : Result RoundView Fault)
      → IfOk played (λ p. IsPlayed table kept inside.settings (inside.rounds_done + 1) p.0 p.1) → IsPutBack kept new end played result
      → IfOk result (PlaysNext table old end)
  step_done end (Ok p) result is_played back = subst (λ r. IfOk r (PlaysNext table old end)) (sym back.0)
      (step_played table kept May old new end c p.0 p.1 (subst (λ o. HasTakenOut table kept May old o c) (sym same) taken) (next_played is_played) back.1)
  step_done end (Err e) result is_played back = subst (λ r. IfOk r (PlaysNext table old end)) (sym back.0) tt

  -- or the round failed
  pub step_failed : (end : SimView T) (workers : ℕ) (played : Result (Cluster T K × RoundView) Fault) (result : Result RoundView Fault)
      → IfErr played (IsFaultOfWorkers workers) → IsPutBack kept new end played result → IfErr result (IsStepFault workers old end)
  step_failed end workers (Ok p) result of_workers back = subst (λ r. IfErr r (IsStepFault workers old end)) (sym back.0) tt
  step_failed end workers (Err e) result of_workers back =
      subst (λ r. IfErr r (IsStepFault workers old end)) (sym back.0) (subst (λ v. IsStepFault workers old v e) (sym (back.1 ∙ same))
      (inl (of_workers, taken.may, taken.broken, taken.settings, taken.rounds_done)))

-- lack of memory is a fault of any workers
pub fault_of_memory : {X : Type 0} (workers : ℕ) (r : Result X Fault) → IsOkUnless r OutOfMemory → IfErr r (IsFaultOfWorkers workers)
fault_of_memory workers (Ok x) only = tt
fault_of_memory workers (Err e) only = inl only
