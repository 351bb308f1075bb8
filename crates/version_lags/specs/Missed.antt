-- How far copies lag, told by numbers of writes. The writes of an owner's generation are those above the number of its
-- earlier ones. Source: this project.
use Rattle.std.specs.Prelude.{◌≡◌, ℕ, ◌<◌, ◌≤◌, List, length, Option, Some}
use Rattle.version_lags.specs.Common.{Entry, mark_held, Table, entry_at, OwnerListView, entries_of, written, list_of_owner, write_numbered, staleness_of}

-- how many writes an owner made in its earlier generations
abbrev pub base_of : OwnerListView → ℕ
base_of v = length v.earlier

-- a number is that of what a table holds of an owner's key, of a write that was made
pub record IsNumberAt (lists : List OwnerListView) (t : Table) (owner key number : ℕ) : Type 0 where
  pub held : entry_at t owner key ≡ write_numbered (entries_of (list_of_owner lists owner)) number
  pub written : number ≤ length (entries_of (list_of_owner lists owner))

-- how long a copy of an owner's key has been behind that holds the write of a number
abbrev pub number_staleness : ℕ → OwnerListView → ℕ → ℕ → Option ℕ
number_staleness round v key number =
    staleness_of round v.generation (written v) key (mark_held (write_numbered (entries_of v) number))

-- a number of the generation above another one is that of a write of this key
pub record IsMissed (v : OwnerListView) (key above number : ℕ) (e : Entry) : Type 0 where
  pub written : write_numbered (entries_of v) number ≡ Some e
  pub current : base_of v < number
  pub keyed : e.key ≡ key
  pub over : above < number

abbrev pub HasNoneMissed : OwnerListView → ℕ → ℕ → Type 0
HasNoneMissed v key above = (m : ℕ) (d : Entry) → IsMissed v key above m d → ⊥

-- the number of the last write of a key in the generation, 0 where there is none
pub record IsLastNumber (v : OwnerListView) (key number : ℕ) : Type 0 where
  pub written : number ≤ length (entries_of v)
  pub last : HasNoneMissed v key number
  pub there : (below : ℕ) → below < number → (e : Entry) × IsMissed v key below number e

-- no write of the generation up to a place is above the least number of its key
abbrev pub NonePassUpto : OwnerListView → (ℕ → ℕ) → ℕ → Type 0
NonePassUpto v least place =
    (m : ℕ) (e : Entry) → write_numbered (entries_of v) m ≡ Some e → base_of v < m → m ≤ place → m ≤ least e.key
