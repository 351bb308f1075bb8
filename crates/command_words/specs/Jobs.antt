-- Which job a command asks for. Source: this project.
use Rattle.std.specs.Prelude.{◌≡◌, ℕ, List, Option, Some, None, codes, option_map}
use Rattle.std.specs.Str.Parse.{IsNumeral, digits_value, without_leading_plus}
use Rattle.clap.specs.Words.{Row, Text, first_of, one_of}
use Rattle.command_words.specs.Workers.{HasLawfulWorkers}
use Rattle.command_words.specs.declared.jobs.Job.{Job}
use Rattle.command_words.specs.declared.jobs.Job.TheVariants.{Check, Run, Compare}

-- the value of the option `workers` is written in digits, and this is their number
pub record AreWorkersOf (options : List Row) (workers : ℕ) : Type 0 where
  pub text : Text
  pub given : one_of (codes "workers") options ≡ Some text
  pub numeral : IsNumeral 10 (without_leading_plus text)
  pub number : workers ≡ digits_value 10 (without_leading_plus text)

-- the command of this name with these options asks for the job
abbrev pub AsksFor : Text → List Row → Job → Type 0
AsksFor name options Check = name ≡ codes "check"
AsksFor name options (Run trace workers) = (name ≡ codes "run")
    × (option_map (λ path. path.now) trace ≡ first_of (codes "trace") options)
    × AreWorkersOf options workers
AsksFor name options (Compare workers) = (name ≡ codes "compare") × AreWorkersOf options workers

-- there is a command, and it asks for the job, with a lawful number of workers
abbrev pub IsAskedFor : Option (Text × List Row) → Job → Type 0
IsAskedFor None job = ⊥
IsAskedFor (Some command) job = AsksFor command.0 command.1 job × HasLawfulWorkers job

-- there is none, or it asks for no such job
abbrev pub AsksForNone : Option (Text × List Row) → Type 0
AsksForNone command = (job : Job) → IsAskedFor command job → ⊥
