-- What reading an input comes to. `source` has the words of a source: what it has left, and whether it has failed.
-- `old` and `new` are its states before and after the call. Where the source doesn't tell its bytes, what is said of
-- them says nothing. Source: this project.
use Rattle.std.specs.Prelude.{ℕ, ◌≡◌, ◌≢◌, ◌⊎◌, ◌+◌, ◌<◌, ◌≤◌, true, false, List, Some, None, Result, Err, IfSome, IfOk, OnOk, IfErr, IsSomeAnd, length}
use Rattle.std.specs.Io.KnownBytes.{Consumes, IsAtEnd}
use Rattle.bench_types.specs.declared.faults.Fault.{Fault}
use Rattle.bench_types.specs.declared.faults.Fault.TheVariants.{OutOfMemory, TooLong, ReadFailed}
use Rattle.limits.specs.declared.TheConstants.{MOST_BYTES}
use Rattle.bench_types.specs.declared.sources.Source.{Ghosts as Source}
use Rattle.scenario.specs.Order.{document_of, first_fault, Says}
use Rattle.scenario.specs.CheckFault.{IsFaultOfCheck}
use Rattle.scenario.specs.Settings.{Settings}

-- the source gave n bytes
abbrev pub Gave : {R : Type 0} → Source R → R → R → ℕ → Type 0
Gave source old new n = (bytes : List ℕ) × Consumes (source.left old) (source.left new) bytes × (length bytes ≡ n)

-- the source gave at most n bytes
abbrev pub GaveUpTo : {R : Type 0} → Source R → R → R → ℕ → Type 0
GaveUpTo source old new n = (bytes : List ℕ) × Consumes (source.left old) (source.left new) bytes × (length bytes ≤ n)

-- the source gave this text, all that it had, and is at its end; the text isn't too long
pub record IsReadWhole {R : Type 0} (source : Source R) (old new : R) (text : List ℕ) : Type 0 where
  pub given : Consumes (source.left old) (source.left new) text
  pub end : IsAtEnd (source.left new)
  pub all : IfSome (source.left old) (λ bytes. text ≡ bytes)
  pub within : length text ≤ MOST_BYTES
  pub sound : source.failed new ≡ false
  pub was_sound : source.failed old ≡ false

-- reading stopped where memory ran out
pub record IsReadInPart {R : Type 0} (source : Source R) (old new : R) : Type 0 where
  pub given : GaveUpTo source old new MOST_BYTES
  pub sound : source.failed new ≡ false
  pub was_sound : source.failed old ≡ false

-- the source gave one byte more than a text may have
pub record IsTooLong {R : Type 0} (source : Source R) (old new : R) : Type 0 where
  pub given : Gave source old new (MOST_BYTES + 1)
  pub longer : IfSome (source.left old) (λ bytes. MOST_BYTES < length bytes)
  pub sound : source.failed new ≡ false
  pub was_sound : source.failed old ≡ false

-- the source has failed; one that had failed before is as it was
pub record HasFailed {R : Type 0} (source : Source R) (old new : R) : Type 0 where
  pub given : GaveUpTo source old new MOST_BYTES
  pub failed : source.failed new ≡ true
  pub stays : source.failed old ≡ true → new ≡ old

-- the fault of reading an input whole
abbrev pub IsReadingFault : {R : Type 0} → Source R → R → R → Fault → Type 0
IsReadingFault source old new OutOfMemory = IsReadInPart source old new
IsReadingFault source old new TooLong = IsTooLong source old new
IsReadingFault source old new ReadFailed = HasFailed source old new
IsReadingFault source old new _ = ⊥

-- a text was read whole, and this is the answer of its check: settings that are what its document says, where no check
-- fails, or the fault of the first check that fails
pub record IsRead {R : Type 0} (source : Source R) (old new : R) (answer : Result Settings Fault) : Type 0 where
  pub text : List ℕ
  pub whole : IsReadWhole source old new text
  pub says : IfOk answer (λ settings. IsSomeAnd (document_of text) (λ table. Says table settings))
  pub no_fault : OnOk answer (first_fault (document_of text) ≡ None)
  pub first : IfErr answer (λ fault. first_fault (document_of text) ≡ Some fault)

-- a text was read whole, and this is the fault of its check
pub record IsRefused {R : Type 0} (source : Source R) (old new : R) (fault : Fault) : Type 0 where
  pub of_check : IsFaultOfCheck fault
  pub not_memory : fault ≢ OutOfMemory
  pub read : IsRead source old new (Err fault)

-- the fault of reading a scenario: of reading its text, or of the check
abbrev pub IsInputFault : {R : Type 0} → Source R → R → R → Fault → Type 0
IsInputFault source old new fault = IsReadingFault source old new fault ⊎ IsRefused source old new fault
