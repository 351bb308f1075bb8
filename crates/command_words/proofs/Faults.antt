-- From what `clap` says of the program to what the words come to.
-- Serves `job_of` and `parse_by`.
use Rattle.command_words.proofs.Common.{◌≡◌, ◌∙◌, List, [], Result, Ok, Err, true, ap, inl, inr, refl, subst, MatchResult, IsErrAnd, App, FailsBy, HasKind, HasMatchesOf, Text, fault_of, is_simple, is_simple_and_free, kind_of, subcommand_of, subcommand_rows_of, Error, ErrorKind, ArgMatches}
use Rattle.clap.proofs.OnLiterals.{clap_on_literals}
use Rattle.command_words.specs.declared.jobs.Job.{Job}
use Rattle.command_words.specs.Program.{program}
use Rattle.command_words.specs.Words.{AskFor, HaveNoJob, command_of, faults_of}
use Rattle.command_words.specs.inner.Errors.{IsKindAt, IsReason}
use Rattle.command_words.specs.declared.words.NoJob.{NoJob}
use Rattle.command_words.specs.declared.words.NoJob.TheVariants.{Help, Refused, OutOfMemory}

program_is_free : is_simple_and_free program ≡ true
unfolding program clap_on_literals
program_is_free = refl

program_is_simple : is_simple program ≡ true
unfolding program clap_on_literals
program_is_simple = refl

-- a parse says which faults there are
pub faults_are : (T : Type 0) (app : App) (words : List Text) (r : Result T Error) → app ≡ program
    → (is_simple_and_free app ≡ true → FailsBy (fault_of app words) r)
    → MatchResult r (λ _. faults_of words ≡ []) (HasKind (faults_of words))
unfolding faults_of
faults_are T app words r is says =
    subst (λ (a : App). FailsBy (fault_of a words) r) is (says (ap is_simple_and_free is ∙ program_is_free))

-- and which command was met
pub command_is : (app : App) (words : List Text) (m : ArgMatches) → app ≡ program → HasMatchesOf app words m
    → subcommand_rows_of m ≡ command_of words
unfolding command_of
command_is app words m is matches =
    (matches (ap is_simple is ∙ program_is_simple)).1 ∙ ap (λ (a : App). subcommand_of a words) is

-- an error of a parse, handed on
pub handed_on : (words : List Text) (e : Error) (r : Result Job Error) → HasKind (faults_of words) e → IsErrAnd r (λ y. y ≡ e)
    → MatchResult r (AskFor words) (λ y. IsKindAt words (kind_of y))
handed_on words e (Ok job) has same = absurd same
handed_on words e (Err y) has same = rw same (elim has [ inl lost ↦ inl lost | inr among ↦ inr (inl among) ])

-- why there is no job
pub no_job : (words : List Text) (k : ErrorKind) (reason : NoJob) → IsKindAt words k → IsReason k reason → HaveNoJob words reason
no_job words k (Help text) (inl lost) says = elim says [ inl e ↦ cc | inr e ↦ cc ]
no_job words k (Help text) (inr (inl among)) says = (k, among, says)
no_job words k (Help text) (inr (inr other)) says = elim says [ inl e ↦ cc | inr e ↦ cc ]
no_job words k (Refused text) (inl lost) says = absurd (says.1 lost)
no_job words k (Refused text) (inr (inl among)) says = inl (k, among, says.0)
no_job words k (Refused text) (inr (inr other)) says = inr other.1
no_job words k OutOfMemory at says = tt
