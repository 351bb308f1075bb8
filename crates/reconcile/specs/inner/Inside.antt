-- What a digest keeps, seen as what it tells, and how its numbers are made. Source: this project.
use Rattle.std.specs.Prelude.{◌≡◌, ℕ, ◌+◌, ◌*◌, ◌<◌, ◌⊎◌, List, [], ◌∷◌, length, slice_index, slice_set}
use Rattle.bench_types.specs.declared.entries.Entry.{Entry}
use Rattle.model.specs.Table.{Table, mark_at}
use Rattle.reconcile.specs.Digests.{DigestView, ToldVersions, Greatest, Each, each_in, version_index}
use Rattle.reconcile.specs.declared.digests.Versions.{Versions}
use Rattle.reconcile.specs.declared.digests.Versions.TheVariants as versions

abbrev pub versions_told : Versions → ToldVersions
versions_told (versions.Greatest v) = Greatest v.items
versions_told (versions.Each v) = Each v.items

-- there is a version for each owner, or for each key of each owner
abbrev pub AreComplete : ℕ → ℕ → Versions → Type 0
AreComplete nodes keys (versions.Greatest v) = length v.items ≡ nodes
AreComplete nodes keys (versions.Each v) = length v.items ≡ nodes * keys

-- and a generation for each owner or for none
pub record IsComplete (nodes keys : ℕ) (generations : List ℕ) (versions : Versions) : Type 0 where
  pub generations_all : (length generations ≡ 0) ⊎ (length generations ≡ nodes)
  pub versions_all : AreComplete nodes keys versions

-- the version of each key of each owner, owner by owner
pub record AreVersions (t : Table) (versions : List ℕ) : Type 0 where
  pub count : length versions ≡ t.nodes * t.keys
  pub each : (owner key : ℕ) → owner < t.nodes → key < t.keys
      → slice_index versions (version_index t.keys owner key) ≡ (mark_at t owner key).version

-- the version that a digest tells of each of an owner's keys
pub record AreVersionsTold (told : DigestView) (owner : ℕ) (versions : List ℕ) : Type 0 where
  pub count : length versions ≡ told.keys
  pub each : (key : ℕ) → key < told.keys → slice_index versions key ≡ each_in told.keys told.versions owner key

-- numbers with the versions of an owner's entries among them, where its first key's stands at the start
abbrev pub with_row : ℕ → List Entry → List ℕ → List ℕ
with_row start [] versions = versions
with_row start (e ∷ es) versions = with_row start es (slice_set versions (start + e.key) e.version)
