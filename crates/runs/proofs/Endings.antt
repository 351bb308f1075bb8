-- What the fault of a call tells of its ends, and of reading.
-- Serves `compare` and `run`.
use Rattle.runs.proofs.Common.{◌≡◌, ℕ, List, inl, inr, refl, ap, Fault, OutOfMemory, WriteFailed, IsWritten, IsWriteFault, Settings}
use Rattle.bench_types.specs.declared.sinks.Sink.{Ghosts as Sink}
use Rattle.runs.specs.Comparisons.{IsComparingFault}
use Rattle.runs.specs.Runs.{IsFaultAfter, IsWritingFault, StopsInRound, TellsOfFailing, at_report_header, at_trace_header, in_rounds, at_lines, at_row}

-- a sink that is as it was hasn't failed within the call, and one that took a text hasn't failed
same_tells : {W : Type 0} (sink : Sink W) (old new : W) (fault : Fault) → new ≡ old → TellsOfFailing sink old new fault
same_tells sink old new fault same sound failed = let is = ap sink.failed same in absurd (cc)

written_tells : {W : Type 0} (sink : Sink W) (old new : W) (text : List ℕ) (fault : Fault) → IsWritten sink old new text → TellsOfFailing sink old new fault
written_tells sink old new text fault written sound failed = let is = written.sound in absurd (cc)

write_tells : {W : Type 0} (sink : Sink W) (old new : W) (text : List ℕ) (fault : Fault) → IsWriteFault sink old new text fault
    → TellsOfFailing sink old new fault
write_tells sink old new text OutOfMemory same sound failed = same_tells sink old new OutOfMemory same sound failed
write_tells sink old new text WriteFailed stop sound failed = refl
write_tells sink old new text _ stop sound failed = absurd stop

after_tells : {W : Type 0} (sink : Sink W) (old new : W) (whole next : List ℕ) (fault : Fault) → IsFaultAfter sink old new whole next fault
    → TellsOfFailing sink old new fault
after_tells sink old new whole next fault stop sound failed = write_tells sink stop.0 new next fault stop.2 stop.1.sound failed

-- of both ends of a run
module _ {W X : Type 0} (sink : Sink W) (old new : W) (sink' : Sink X) (old' new' : X) (s : Settings) (workers : ℕ) (fault : Fault) where
  abbrev BothTell : Type 0
  BothTell = TellsOfFailing sink old new fault × TellsOfFailing sink' old' new' fault

  round_tells : (rounds : ℕ) → StopsInRound sink old new sink' old' new' s rounds fault → BothTell
  round_tells rounds (at_lines report lines) = (written_tells sink old new _ fault report, after_tells sink' old' new' _ _ fault lines)
  round_tells rounds (at_row trace row) = (after_tells sink old new _ _ fault row, written_tells sink' old' new' _ fault trace)

  pub run_tells : IsWritingFault sink old new sink' old' new' s workers fault → BothTell
  run_tells (at_report_header header same) = (write_tells sink old new _ fault header, same_tells sink' old' new' fault same)
  run_tells (at_trace_header header trace) = (written_tells sink old new _ fault header, write_tells sink' old' new' _ fault trace)
  run_tells (in_rounds stop) = elim stop.stops [
    | inl lost ↦ (written_tells sink old new _ fault lost.1.report, written_tells sink' old' new' _ fault lost.1.trace)
    | inr cut ↦ round_tells stop.rounds cut
  ]

-- of the end of a comparison
pub comparison_tells : {W : Type 0} (sink : Sink W) (old new : W) (s : Settings) (workers : ℕ) (fault : Fault)
    → IsComparingFault sink old new s workers fault → TellsOfFailing sink old new fault
comparison_tells sink old new s workers fault stop = elim stop [
  | inl header ↦ write_tells sink old new _ fault header
  | inr mode ↦ elim mode.stops.stops [
    | inl lost ↦ written_tells sink old new _ fault lost.1
    | inr cut ↦ after_tells sink old new _ _ fault cut
  ]
]
