-- The fields that take one of a few words, and what the words stand for. Source: this project.
use Rattle.std.specs.Prelude.{ℕ, List, Option, None, Some, Result, Ok, Err, codes, bytes_eq, if◌then◌else◌}
use Rattle.toml.specs.Data.{Members}
use Rattle.bench_types.specs.declared.faults.Fault.{Fault}
use Rattle.bench_types.specs.declared.faults.Fault.TheVariants.{OutOfRange}
use Rattle.bench_types.specs.declared.fields.Field.{Field}
use Rattle.scenario.specs.declared.choices.Peers.{Peers}
use Rattle.scenario.specs.declared.choices.Peers.TheVariants as peers
use Rattle.scenario.specs.declared.choices.Rotation.{Rotation}
use Rattle.scenario.specs.declared.choices.Rotation.TheVariants as rotation
use Rattle.scenario.specs.declared.choices.Choice.{Choice}
use Rattle.scenario.specs.declared.choices.Choice.TheVariants as choice
use Rattle.scenario.specs.Fields.{◌>>=◌, text_at}

-- what a word stands for; a word that stands for nothing is out of range
abbrev pub or_out_of_range : {A : Type 0} → Field → Option A → Result A Fault
or_out_of_range f None = Err (OutOfRange f)
or_out_of_range f (Some x) = Ok x

-- the value of a field whose words stand for what `meaning` says
abbrev pub word_at : {A : Type 0} → Field → (List ℕ → Option A) → Members → Result A Fault
word_at f meaning table = text_at f table >>= (λ word. or_out_of_range f (meaning word))

abbrev pub peers_of : List ℕ → Option Peers
peers_of word =
    if bytes_eq word (codes "random") then Some peers.Random
    else if bytes_eq word (codes "ring") then Some peers.Ring
    else None

abbrev pub rotation_of : List ℕ → Option Rotation
rotation_of word =
    if bytes_eq word (codes "random") then Some rotation.Random
    else if bytes_eq word (codes "none") then Some rotation.Off
    else None

abbrev pub choice_of : List ℕ → Option Choice
choice_of word =
    if bytes_eq word (codes "random") then Some choice.Random
    else if bytes_eq word (codes "cycle") then Some choice.Cycle
    else None
