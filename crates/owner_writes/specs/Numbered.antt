-- What owners write, by numbers: each owner's writes are numbered from 1, through all its generations, so within one
-- owner numbers compare as marks. Source: this project.
use Rattle.std.specs.Prelude.{◌≡◌, ℕ, ◌+◌, ◌-◌, ◌<◌, ◌≤◌, List, length, slice_index_or, Option, Some, None}
use Rattle.bench_types.specs.declared.entries.Entry.{Entry}
use Rattle.bench_types.specs.Mark.{mark_of, IsBefore}
use Rattle.model.specs.calls.Numbers.{write_numbered}

-- the marks of an owner's writes rise, and births never fall
pub record IsHistory (writes : List Entry) : Type 0 where
  pub rise : (i j : ℕ) (d : Entry) → i < j → j < length writes
      → IsBefore (mark_of (slice_index_or writes i d)) (mark_of (slice_index_or writes j d))
  pub born : (i j : ℕ) (d : Entry) → i ≤ j → j < length writes
      → (slice_index_or writes i d).born ≤ (slice_index_or writes j d).born

-- each generation's writes have the versions from 1 on, one after another: up to a write there are as many of its
-- generation as its version, and all before those are of older ones
pub record IsNumberedHistory (writes : List Entry) : Type 0 where
  pub counted : (number : ℕ) (e : Entry) → write_numbered writes number ≡ Some e
      → (1 ≤ e.version) × (e.version ≤ number)
  pub older : (m n : ℕ) (d e : Entry) → write_numbered writes m ≡ Some d → write_numbered writes n ≡ Some e
      → m + e.version ≤ n → d.generation < e.generation
  pub alike : (m n : ℕ) (d e : Entry) → write_numbered writes m ≡ Some d → write_numbered writes n ≡ Some e
      → m ≤ n → n < m + e.version → d.generation ≡ e.generation

-- how many writes there are before the generation of a write, 0 for none
abbrev pub start_before : ℕ → Option Entry → ℕ
start_before number None = 0
start_before number (Some e) = number - e.version

abbrev pub start_of : List Entry → ℕ → ℕ
start_of writes number = start_before number (write_numbered writes number)

-- none was made later than in a round, and none before round 1
pub record AreMadeBy (round : ℕ) (writes : List Entry) : Type 0 where
  pub first : (number : ℕ) (e : Entry) → write_numbered writes number ≡ Some e → 1 ≤ e.born
  pub last : (number : ℕ) (e : Entry) → write_numbered writes number ≡ Some e → e.born ≤ round

-- a mark that parts an owner's writes by round: those up to it were born by a round, and those above it later
pub record IsRoundMark (writes : List Entry) (low round mark : ℕ) : Type 0 where
  pub upto : (number : ℕ) (e : Entry) → low < number → write_numbered writes number ≡ Some e → number ≤ mark → e.born ≤ round
  pub above : (number : ℕ) (e : Entry) → low < number → write_numbered writes number ≡ Some e → mark < number → round < e.born

-- for each round from 0 on, which has no writes, how many writes each owner has made up to that round
pub record AreEnds (lists : ℕ → List Entry) (nodes rounds : ℕ) (ends : ℕ → ℕ → ℕ) : Type 0 where
  pub none : (owner : ℕ) → owner < nodes → ends owner 0 ≡ 0
  pub rise : (owner round : ℕ) → owner < nodes → round < rounds → ends owner round ≤ ends owner (round + 1)
  pub parts : (owner round : ℕ) → owner < nodes → round ≤ rounds → IsRoundMark (lists owner) 0 round (ends owner round)
