-- What some words come to.
-- Serves no file: it is for readers.
use Rattle.command_words.proofs.Common.{◌≡◌, List, [], ◌∷◌, Option, Some, None, codes, refl, Text, first_of, one_of, DisplayHelp, MissingSubcommand, UnknownArgument, ValueValidation, option_map}
use Rattle.clap.proofs.OnLiterals.{clap_on_literals}
use Rattle.command_words.specs.Program.{program}
use Rattle.command_words.specs.Words.{command_of, faults_of}

-- the command's name, its trace and its workers
abbrev seen : List Text → Option (Text × Option Text × Option Text)
seen words = option_map (λ p. (p.0, first_of (codes "trace") p.1, one_of (codes "workers") p.1)) (command_of words)

run_alone : seen (codes "run" ∷ []) ≡ Some (codes "run", None, Some (codes "1"))
unfolding command_of program clap_on_literals
run_alone = refl

run_with_both : seen (codes "run" ∷ codes "--workers" ∷ codes "8" ∷ codes "--trace=t.csv" ∷ []) ≡ Some (codes "run", Some (codes "t.csv"), Some (codes "8"))
unfolding command_of program clap_on_literals
run_with_both = refl

both_are_taken : faults_of (codes "run" ∷ codes "--workers" ∷ codes "8" ∷ codes "--trace=t.csv" ∷ []) ≡ []
unfolding faults_of program clap_on_literals
both_are_taken = refl

nothing_is_refused : faults_of [] ≡ MissingSubcommand ∷ []
unfolding faults_of program clap_on_literals
nothing_is_refused = refl

help_is_asked_for : faults_of (codes "run" ∷ codes "--help" ∷ []) ≡ DisplayHelp ∷ []
unfolding faults_of program clap_on_literals
help_is_asked_for = refl

too_many_workers : faults_of (codes "compare" ∷ codes "--workers" ∷ codes "65" ∷ []) ≡ ValueValidation ∷ []
unfolding faults_of program clap_on_literals
too_many_workers = refl

no_trace_of_a_comparison : faults_of (codes "compare" ∷ codes "--trace" ∷ codes "t" ∷ []) ≡ UnknownArgument ∷ []
unfolding faults_of program clap_on_literals
no_trace_of_a_comparison = refl
