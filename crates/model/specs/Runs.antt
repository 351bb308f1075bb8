-- How many workers may carry out a list of exchanges, and the faults that this may come to. Source: this project.
use Rattle.std.specs.Prelude.{◌≡◌, ℕ, ◌<◌, ◌≤◌, ◌⊎◌}
use Rattle.bench_types.specs.declared.faults.Fault.{Fault}
use Rattle.bench_types.specs.declared.faults.Fault.TheVariants.{OutOfMemory, NoThread}
use Rattle.limits.specs.declared.TheConstants.{MOST_WORKERS}

-- so many workers may be asked for
abbrev pub AreWorkers : ℕ → Type 0
AreWorkers workers = (1 ≤ workers) × (workers ≤ MOST_WORKERS)

-- memory was refused, or one of several threads couldn't be started
abbrev pub IsFaultOfWorkers : ℕ → Fault → Type 0
IsFaultOfWorkers workers fault = (fault ≡ OutOfMemory) ⊎ ((fault ≡ NoThread) × (1 < workers))
