-- How far the rounds of a scenario have been carried out and written.
-- Serves `write_all`, `write_over`, `write_rounds`, `Comparison` and `Reporting`.
use Rattle.runs.proofs.Common.{◌≡◌, ℕ, ◌+◌, ◌<◌, ◌≤◌, Result, Ok, Err, inl, inr, refl, sym, ap, subst, arith, add-one, IsErrAnd, Fault, Table, IsFaultOfWorkers, Settings, RoundView, played_of}
use Rattle.runs.specs.Runs.{IsFaultInRounds}
use Rattle.std.specs.Prelude.{◌⊎◌}
use Rattle.bench_types.specs.declared.faults.Fault.TheVariants.{OutOfMemory}
use Rattle.round_histories.specs.Histories.{HistoriesView}
use Rattle.cluster.specs.declared.clusters.Cluster.{Cluster}
use Rattle.cluster.specs.calls.Clusters.{IsAfterRound}
use Rattle.runs.specs.inner.Rounds.{AreWrittenInTurn, IsFaultInTurn, AnswersRounds}

-- what is written on both sides of a fault in rounds may be told otherwise
pub fault_told : {s : Settings} {workers : ℕ} {fault : Fault} {Wrote Wrote' Stops Stops' : ℕ → Type 0}
    → ((rounds : ℕ) → Wrote rounds → Wrote' rounds) → ((rounds : ℕ) → Stops rounds → Stops' rounds)
    → IsFaultInRounds s workers fault Wrote Stops → IsFaultInRounds s workers fault Wrote' Stops'
fault_told wrote stops found = record {
  rounds = found.rounds;
  within = found.within;
  stops = elim found.stops [
    | inl lost ↦ inl (lost.0, wrote found.rounds lost.1)
    | inr stop ↦ inr (stops found.rounds stop)
  ];
}

-- the fault of fewer workers is one of more
fault_of_fewer : {s : Settings} (fewer workers : ℕ) (fault : Fault) {Wrote Stops : ℕ → Type 0} → fewer ≤ workers
    → IsFaultInRounds s fewer fault Wrote Stops → IsFaultInRounds s workers fault Wrote Stops
fault_of_fewer fewer workers fault within found = record {
  rounds = found.rounds;
  within = found.within;
  stops = elim found.stops [
    | inl lost ↦ inl (
      elim lost.0 [
        | inl memory ↦ inl memory
        | inr thread ↦ inr (thread.0, omega (arith, thread.1, within))
      ],
      lost.1,
    )
    | inr stop ↦ inr stop
  ];
}

module _ {O : Type 0} (Wrote : O → O → RoundView → Type 0) (Stops : O → O → RoundView → Fault → Type 0) (s : Settings) (old : O) where
  module _ {T K : Type 0} (table : T → Table) (kept : K → HistoriesView) where
    -- so many rounds are done and written
    pub record HaveRun (now : O) (cluster : Cluster T K) (rounds : ℕ) : Type 0 where
      pub after : IsAfterRound table kept s rounds cluster
      pub written : AreWrittenInTurn Wrote s old now rounds

    -- the next one was played and written
    pub one_more : (now new : O) (cluster next : Cluster T K) (rounds : ℕ) → HaveRun now cluster rounds
        → IsAfterRound table kept s (rounds + 1) next → Wrote now new (played_of s (rounds + 1)) → HaveRun new next (rounds + 1)
    one_more now new cluster next rounds so_far after wrote = record {
      after = after;
      written = rw add-one (now, so_far.written, subst (Wrote now new) (ap (played_of s) (add-one rounds)) wrote);
    }

  -- or it wasn't, where there is one
  pub stops_next : (now new : O) (rounds workers : ℕ) (fault : Fault) → AreWrittenInTurn Wrote s old now rounds → rounds < s.rounds
      → ((fault ≡ OutOfMemory) × (new ≡ now)) ⊎ Stops now new (played_of s (rounds + 1)) fault → IsFaultInTurn Wrote Stops s old new workers fault
  stops_next now new rounds workers fault written more stop = record {
    rounds = rounds;
    within = more;
    stops = elim stop [
      | inl lost ↦ inl (inl lost.0, subst (λ n. AreWrittenInTurn Wrote s old n rounds) (sym lost.1) written)
      | inr cut ↦ inr (now, written, cut)
    ];
  }

  -- or the first one wasn't
  pub stops_at_first : (workers : ℕ) (fault : Fault) → 0 < s.rounds → IsFaultOfWorkers workers fault → IsFaultInTurn Wrote Stops s old old workers fault
  stops_at_first workers fault some of_workers = record { rounds = 0; within = some; stops = inl (of_workers, refl) }

  -- what fewer workers answer
  pub answers_of_fewer : (now : O) (fewer workers : ℕ) (answer : Result Settings Fault) → fewer ≤ workers
      → AnswersRounds Wrote Stops s old now fewer answer → AnswersRounds Wrote Stops s old now workers answer
  answers_of_fewer now fewer workers (Ok back) within all = record { same = all.same; written = all.written; fault = tt }
  answers_of_fewer now fewer workers (Err fault) within all =
      record { same = tt; written = tt; fault = fault_of_fewer fewer workers fault within all.fault }

  -- what is answered where a fault is handed on
  pub answers_fault : (now : O) (workers : ℕ) (answer : Result Settings Fault) (fault : Fault) → IsErrAnd answer (λ handed. handed ≡ fault)
      → IsFaultInTurn Wrote Stops s old now workers fault → AnswersRounds Wrote Stops s old now workers answer
  answers_fault now workers (Ok back) fault is stop = absurd is
  answers_fault now workers (Err handed) fault is stop = record {
    same = tt;
    written = tt;
    fault = subst (IsFaultInTurn Wrote Stops s old now workers)
        (sym is) stop;
  }
