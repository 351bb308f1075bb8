-- What an error of `clap` means. Source: this project.
use Rattle.std.specs.Prelude.{◌≡◌, ◌≢◌, ◌⊎◌, List, ⊤, Result, MatchResult}
use Rattle.clap.specs.Words.{IsAmong, Text, kind_of}
use Rattle.clap.specs.declared.error.Error.{Error}
use Rattle.clap.specs.declared.error.ErrorKind.{ErrorKind}
use Rattle.clap.specs.declared.error.ErrorKind.TheVariants as kind
use Rattle.command_words.specs.Words.{AskFor, AskForNoJob, IsHelp, faults_of}
use Rattle.command_words.specs.declared.jobs.Job.{Job}
use Rattle.command_words.specs.declared.words.NoJob.{NoJob}
use Rattle.command_words.specs.declared.words.NoJob.TheVariants.{Help, Refused, OutOfMemory}

-- what an error of this kind says
abbrev pub IsReason : ErrorKind → NoJob → Type 0
IsReason k (Help text) = IsHelp k
IsReason k (Refused text) = (IsHelp k → ⊥) × (k ≢ kind.OutOfMemory)
IsReason k OutOfMemory = ⊤

-- the kind of an error at these words
abbrev pub IsKindAt : List Text → ErrorKind → Type 0
IsKindAt words k = (k ≡ kind.OutOfMemory)
    ⊎ (IsAmong k (faults_of words) ⊎ ((k ≡ kind.InvalidSubcommand) × AskForNoJob words))

-- what a parse of these words answers: the job that they ask for, or an error of a kind that they have
abbrev pub IsParsed : List Text → Result Job Error → Type 0
IsParsed words result = MatchResult result (AskFor words) (λ error. IsKindAt words (kind_of error))
