-- What contracts see of a digest, and when it is a table's: in a scuttle mode it tells the greatest mark of each owner,
-- in a precise one the mark of each key of each owner. A copy has one generation, so a digest tells that once for each
-- owner. Source: the LADIS 2008 paper; generations are this project's.
use Rattle.std.specs.Prelude.{◌≡◌, ℕ, ◌+◌, ◌*◌, ◌<◌, ◌==◌, List, slice_index, if◌then◌else◌}
use Rattle.bench_types.specs.declared.entries.Item.{Item}
use Rattle.bench_types.specs.declared.exchanges.DigestKind.{DigestKind}
use Rattle.bench_types.specs.declared.exchanges.DigestKind.TheVariants as kinds
use Rattle.bench_types.specs.declared.entries.Mark.{Mark}
use Rattle.bench_types.specs.Mark.{absent}
use Rattle.model.specs.Table.{Table, mark_at, greatest_mark, generation_held}
use Rattle.model.specs.Digests.{digest_size}

-- which versions a digest tells: the greatest one of each owner, in order, or that of each key of each owner, owner by
-- owner, 0 where none is held
pub data ToldVersions : Type 0 where
  Greatest : List ℕ → ToldVersions
  Each : List ℕ → ToldVersions

-- what contracts see of a digest; there are generations for all owners, in order, or for none
pub record DigestView : Type 0 where
  pub nodes : ℕ
  pub keys : ℕ
  pub size : ℕ
  pub generations : List ℕ
  pub versions : ToldVersions

-- where the version of an owner's key stands
abbrev pub version_index : ℕ → ℕ → ℕ → ℕ
version_index keys owner key = owner * keys + key

-- which of the two
abbrev pub kind_told : ToldVersions → DigestKind
kind_told (Greatest gs) = kinds.Scuttle
kind_told (Each vs) = kinds.Precise

abbrev pub IsOfKind : DigestKind → DigestView → Type 0
IsOfKind kind told = kind_told told.versions ≡ kind

-- the generation of an owner's copy
abbrev pub told_generation : DigestView → ℕ → ℕ
told_generation told owner = slice_index told.generations owner

-- the greatest version of an owner, where a digest gives that
abbrev pub greatest_in : ToldVersions → ℕ → ℕ
greatest_in (Greatest gs) owner = slice_index gs owner
greatest_in (Each vs) owner = 0

abbrev pub told_greatest : DigestView → ℕ → Mark
told_greatest told owner =
    record { generation = told_generation told owner; version = greatest_in told.versions owner }

-- the version of an owner's key, where a digest gives that
abbrev pub each_in : ℕ → ToldVersions → ℕ → ℕ → ℕ
each_in keys (Greatest gs) owner key = 0
each_in keys (Each vs) owner key = slice_index vs (version_index keys owner key)

-- the mark of a version in a generation, where 0 is none's
abbrev pub mark_with : ℕ → ℕ → Mark
mark_with generation version = if version == 0 then absent else record { generation = generation; version = version }

abbrev pub told_each : DigestView → ℕ → ℕ → Mark
told_each told owner key = mark_with (told_generation told owner) (each_in told.keys told.versions owner key)

-- it tells what the table holds: the greatest mark of each owner, or the mark of each owner and key
abbrev pub Tells : DigestKind → Table → DigestView → Type 0
Tells kinds.Scuttle t told = (owner : ℕ) → owner < t.nodes → told_greatest told owner ≡ greatest_mark t owner
Tells kinds.Precise t told =
    (owner key : ℕ) → owner < t.nodes → key < t.keys → told_each told owner key ≡ mark_at t owner key

-- it is the table's digest of this kind
pub record IsDigestOf (kind : DigestKind) (t : Table) (told : DigestView) : Type 0 where
  pub nodes : told.nodes ≡ t.nodes
  pub keys : told.keys ≡ t.keys
  pub size : told.size ≡ digest_size kind t
  pub of_kind : IsOfKind kind told
  pub generations : (owner : ℕ) → owner < t.nodes → told_generation told owner ≡ generation_held t owner
  pub tells : Tells kind t told

-- the version up to which a digest knows what an owner's key has
abbrev pub told_up_to : ℕ → ToldVersions → ℕ → ℕ → ℕ
told_up_to keys (Greatest gs) owner key = slice_index gs owner
told_up_to keys (Each vs) owner key = slice_index vs (version_index keys owner key)

-- and the mark
abbrev pub told_mark_at : DigestView → ℕ → ℕ → Mark
told_mark_at told owner key =
    record { generation = told_generation told owner; version = told_up_to told.keys told.versions owner key }

abbrev pub told_mark : DigestView → Item → Mark
told_mark told i = told_mark_at told i.owner i.entry.key
