-- What a call comes to that may lack memory. Source: this project.
use Rattle.std.specs.Prelude.{◌≡◌, Result, MatchResult}
use Rattle.bench_types.specs.declared.faults.Fault.{Fault}
use Rattle.bench_types.specs.declared.faults.Fault.TheVariants.{OutOfMemory}

-- a value of which this holds, or lack of memory and no other fault
abbrev pub ComesTo : {A : Type 0} → Result A Fault → (A → Type 0) → Type 0
ComesTo result holds = MatchResult result holds (λ f. f ≡ OutOfMemory)
