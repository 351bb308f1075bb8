-- What writing a text to a sink comes to. `sink` has the words of a sink: what it has taken, and whether it has
-- failed or is flushed. `old` and `new` are its states before and after the call. Source: this project.
use Rattle.std.specs.Prelude.{◌≡◌, ℕ, true, false, List, take}
use Rattle.std.specs.Io.KnownBytes.{Appends}
use Rattle.bench_types.specs.declared.faults.Fault.{Fault}
use Rattle.bench_types.specs.declared.faults.Fault.TheVariants.{OutOfMemory, WriteFailed}
use Rattle.bench_types.specs.declared.sinks.Sink.{Ghosts as Sink}

-- the sink has taken this text, and nothing else, and is flushed; it hasn't failed, and hadn't before
pub record IsWritten {W : Type 0} (sink : Sink W) (old new : W) (text : List ℕ) : Type 0 where
  pub taken : Appends (sink.taken old) (sink.taken new) text
  pub flushed : sink.flushed new ≡ true
  pub sound : sink.failed new ≡ false
  pub was_sound : sink.failed old ≡ false

-- the sink has failed: it has taken a beginning of this text, which may be none or all of it; one that had failed
-- before is as it was
pub record IsBrokenOff {W : Type 0} (sink : Sink W) (old new : W) (text : List ℕ) : Type 0 where
  pub count : ℕ
  pub taken : Appends (sink.taken old) (sink.taken new) (take count text)
  pub failed : sink.failed new ≡ true
  pub stays : sink.failed old ≡ true → new ≡ old

-- the fault of writing this text: where memory runs out it leaves the sink as it was, and a failure cuts the text
abbrev pub IsWriteFault : {W : Type 0} → Sink W → W → W → List ℕ → Fault → Type 0
IsWriteFault sink old new text OutOfMemory = new ≡ old
IsWriteFault sink old new text WriteFailed = IsBrokenOff sink old new text
IsWriteFault sink old new text _ = ⊥
