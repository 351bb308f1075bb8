-- What words come to, those behind the program's name. Source: this project.
use Rattle.std.specs.Prelude.{◌≡◌, ◌⊎◌, List, [], Option, ⊤}
use Rattle.clap.specs.Words.{IsAmong, Kinds, Row, Text, fault_of, subcommand_of}
use Rattle.clap.specs.declared.error.ErrorKind.{ErrorKind}
use Rattle.clap.specs.declared.error.ErrorKind.TheVariants.{DisplayHelp, DisplayVersion}
use Rattle.command_words.specs.Jobs.{AsksForNone, IsAskedFor}
use Rattle.command_words.specs.Program.{program}
use Rattle.command_words.specs.declared.jobs.Job.{Job}
use Rattle.command_words.specs.declared.words.NoJob.{NoJob}
use Rattle.command_words.specs.declared.words.NoJob.TheVariants.{Help, Refused, OutOfMemory}

-- the command that they name, with what they say of its options
unfoldable pub command_of : List Text → Option (Text × List Row)
command_of words = subcommand_of program words

-- the kinds of the first fault that `clap` finds in them: there are none where it takes them
unfoldable pub faults_of : List Text → Kinds
faults_of words = fault_of program words

-- they are taken, and their command asks for the job
pub record AskFor (words : List Text) (job : Job) : Type 0 where
  pub taken : faults_of words ≡ []
  pub asked : IsAskedFor (command_of words) job

-- they are taken, and their command asks for no job
pub record AskForNoJob (words : List Text) : Type 0 where
  pub taken : faults_of words ≡ []
  pub none : AsksForNone (command_of words)

-- a fault of this kind is a wish to be told, and its text goes to the standard output
abbrev pub IsHelp : ErrorKind → Type 0
IsHelp kind = (kind ≡ DisplayHelp) ⊎ (kind ≡ DisplayVersion)

-- why there is no job for them: a wish for help, or another fault
abbrev pub HaveNoJob : List Text → NoJob → Type 0
HaveNoJob words (Help text) = (kind : ErrorKind) × IsAmong kind (faults_of words) × IsHelp kind
HaveNoJob words (Refused text) =
    ((kind : ErrorKind) × IsAmong kind (faults_of words) × (IsHelp kind → ⊥)) ⊎ AskForNoJob words
HaveNoJob words OutOfMemory = ⊤
