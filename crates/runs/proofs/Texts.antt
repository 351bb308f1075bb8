-- One text behind another.
-- Serves `Comparison` and `Reporting`.
use Rattle.runs.proofs.Common.{◌++◌, List, ℕ, Appends-trans, IsWritten}
use Rattle.bench_types.specs.declared.sinks.Sink.{Ghosts as Sink}

pub written_then : {W : Type 0} (sink : Sink W) (old now new : W) (text next : List ℕ) → IsWritten sink old now text → IsWritten sink now new next
    → IsWritten sink old new (text ++ next)
written_then sink old now new text next first second = record {
  taken = Appends-trans (sink.taken old) (sink.taken now) (sink.taken new) text next first.taken second.taken;
  flushed = second.flushed;
  sound = second.sound;
  was_sound = first.was_sound;
}
