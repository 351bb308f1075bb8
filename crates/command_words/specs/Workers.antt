-- How many workers a job may have. Source: this project.
use Rattle.std.specs.Prelude.{ℕ, ◌≤◌}
use Rattle.limits.specs.declared.TheConstants.{MOST_WORKERS}
use Rattle.command_words.specs.declared.jobs.Job.{Job}
use Rattle.command_words.specs.declared.jobs.Job.TheVariants.{Check, Run, Compare}

-- there may be so many workers
abbrev pub AreLawfulWorkers : ℕ → Type 0
AreLawfulWorkers workers = (1 ≤ workers) × (workers ≤ MOST_WORKERS)

abbrev pub HasLawfulWorkers : Job → Type 0
HasLawfulWorkers Check = Unit {0}
HasLawfulWorkers (Run trace workers) = AreLawfulWorkers workers
HasLawfulWorkers (Compare workers) = AreLawfulWorkers workers
