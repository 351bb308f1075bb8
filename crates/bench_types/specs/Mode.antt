-- The modes: what a digest tells in each, and its name. The scuttle modes are those of the LADIS 2008 paper, in
-- which a digest tells one mark of each owner, there a version. Source: that paper; the names precise-oldest and
-- precise-newest and the order of all modes are this project's.
use Rattle.std.specs.Prelude.{ℕ, List, [], ◌∷◌, Option, codes, bytes_eq, find}
use Rattle.bench_types.specs.declared.exchanges.Mode.{Mode}
use Rattle.bench_types.specs.declared.exchanges.Mode.TheVariants.{ScuttleBreadth, ScuttleDepth, PreciseOldest, PreciseNewest}
use Rattle.bench_types.specs.declared.exchanges.DigestKind.{DigestKind}
use Rattle.bench_types.specs.declared.exchanges.DigestKind.TheVariants.{Scuttle, Precise}

-- the kind of a mode's digests
abbrev pub digest_kind : Mode → DigestKind
digest_kind ScuttleBreadth = Scuttle
digest_kind ScuttleDepth = Scuttle
digest_kind PreciseOldest = Precise
digest_kind PreciseNewest = Precise

abbrev pub mode_name : Mode → List ℕ
mode_name ScuttleBreadth = codes "scuttle-breadth"
mode_name ScuttleDepth = codes "scuttle-depth"
mode_name PreciseOldest = codes "precise-oldest"
mode_name PreciseNewest = codes "precise-newest"

-- all modes, in the order of a comparison
abbrev pub modes : List Mode
modes = ScuttleBreadth ∷ ScuttleDepth ∷ PreciseOldest ∷ PreciseNewest ∷ []

-- the mode of a name, if there is one
abbrev pub mode_named : List ℕ → Option Mode
mode_named word = find (λ mode. bytes_eq word (mode_name mode)) modes
