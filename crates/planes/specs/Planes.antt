-- What loops over planes do to one number. Source: this project.
use Rattle.std.specs.Prelude.{◌≡◌, ◌⊎◌, ℕ, ◌+◌, ◌-◌, ◌*◌, ◌<◌, ◌≤◌, ◌&&◌, Bool, false, List, length, max, min, nat_lt, nat_le, slice_index, if◌then◌else◌}
use Rattle.limits.specs.declared.TheConstants.{MOST_NODES, MOST_KEYS}
use Rattle.limits.specs.Sums.{sum_below}

-- numbers by owner and key
abbrev pub Cells : Type 0
Cells = ℕ → ℕ → ℕ

-- how many of an owner's numbers are above a mark
abbrev pub count_above : Cells → ℕ → ℕ → ℕ → ℕ
count_above cells keys owner mark = sum_below keys (λ key. if nat_lt mark (cells owner key) then 1 else 0)

-- how many of an owner's numbers are above one mark and up to another
abbrev pub count_between : Cells → ℕ → ℕ → ℕ → ℕ → ℕ
count_between cells keys owner low mark =
    sum_below keys (λ key. if nat_lt low (cells owner key) then (if nat_le (cells owner key) mark then 1 else 0) else 0)

-- the least of an owner's numbers above a mark, which is that of a key
pub record IsLeastAbove (cells : Cells) (keys owner mark least : ℕ) : Type 0 where
  pub key : ℕ
  pub below : key < keys
  pub is : cells owner key ≡ least
  pub above : mark < least
  pub no_less : (k : ℕ) → k < keys → mark < cells owner k → least ≤ cells owner k

abbrev pub HasNoneAbove : Cells → ℕ → ℕ → ℕ → Type 0
HasNoneAbove cells keys owner mark = (k : ℕ) → k < keys → cells owner k ≤ mark

-- no number is above 0 and up to its owner's mark
abbrev pub HasNoneUpto : List ℕ → List ℕ → Type 0
HasNoneUpto xs high = (owner : ℕ) → owner < length xs
    → (nat_lt 0 (slice_index xs owner) && nat_le (slice_index xs owner) (slice_index high owner)) ≡ false

-- a number that is above both the peer's and a mark
abbrev pub number_ahead : ℕ → ℕ → ℕ → ℕ
number_ahead number peer low = if nat_lt (max peer low) number then number else 0

-- a number raised to a sent one that is above one mark and up to another
abbrev pub number_taken : ℕ → ℕ → ℕ → ℕ → ℕ
number_taken number sent low high = max number (if nat_lt low sent && nat_le sent high then sent else 0)

-- a number raised to another one that is above a mark
abbrev pub number_raised : ℕ → ℕ → ℕ → ℕ
number_raised number other low = max number (if nat_lt low other then other else 0)

-- how far each owner's number is ahead of another, but no more than the keys, for all owners together
abbrev pub most_ahead : ℕ → ℕ → List ℕ → List ℕ → ℕ
most_ahead nodes keys numbers others = sum_below nodes (λ r. min keys (slice_index numbers r - slice_index others r))

-- the number of a key of an owner, in planes one after another
abbrev pub cell : List ℕ → ℕ → Cells
cell xs nodes owner key = slice_index xs (key * nodes + owner)

-- numbers raised to those sent that are above one mark of their owner and up to another
abbrev pub numbers_taken : ℕ → List ℕ → List ℕ → List ℕ → List ℕ → Cells
numbers_taken nodes cells sent low high owner key =
    number_taken (cell cells nodes owner key) (cell sent nodes owner key)
    (slice_index low owner) (slice_index high owner)

-- planes of so many nodes, one for each key
pub record IsGrid (nodes keys size : ℕ) : Type 0 where
  pub whole : size ≡ keys * nodes
  pub few_nodes : nodes ≤ MOST_NODES
  pub few_keys : keys ≤ MOST_KEYS

-- numbers, one for each node, of which each is as a relation of index and number says
pub record HasEach (nodes : ℕ) (is : ℕ → ℕ → Type 0) (xs : List ℕ) : Type 0 where
  pub size : length xs ≡ nodes
  pub each : (r : ℕ) → r < nodes → is r (slice_index xs r)

-- the least number above a mark, or the most where there is none
abbrev pub IsNextAbove : ℕ → Cells → ℕ → ℕ → ℕ → ℕ → Type 0
IsNextAbove most cells keys owner mark least =
    (HasNoneAbove cells keys owner mark × (least ≡ most)) ⊎ IsLeastAbove cells keys owner mark least

-- how many places pass a test of owner and key
abbrev pub total_of : ℕ → ℕ → (ℕ → ℕ → Bool) → ℕ
total_of nodes keys test = sum_below nodes (λ owner. sum_below keys (λ key. if test owner key then 1 else 0))

-- how many numbers are above their owners' marks
abbrev pub total_above : ℕ → ℕ → List ℕ → List ℕ → ℕ
total_above nodes keys cells low = total_of nodes keys (λ r k. nat_lt (slice_index low r) (cell cells nodes r k))

-- no number is above its owner's mark
abbrev pub AreCovered : ℕ → ℕ → List ℕ → List ℕ → Type 0
AreCovered nodes keys cells high =
    (owner : ℕ) → owner < nodes → HasNoneAbove (cell cells nodes) keys owner (slice_index high owner)

-- the planes of the keys below a bound are changed as a relation of owner, key, old and new number says, and the others
-- aren't
pub record ArePlanesChangedUpto (changed : ℕ → ℕ → ℕ → ℕ → Type 0) (nodes : ℕ) (old new : List ℕ)
    (bound : ℕ) : Type 0 where
  pub size : length new ≡ length old
  pub below : (owner key : ℕ) → owner < nodes → key < bound
      → changed owner key (cell old nodes owner key) (cell new nodes owner key)
  pub from : (i : ℕ) → bound * nodes ≤ i → slice_index new i ≡ slice_index old i

-- and so for all keys
pub record ArePlanesChanged (changed : ℕ → ℕ → ℕ → ℕ → Type 0) (nodes keys : ℕ) (old new : List ℕ) : Type 0 where
  pub size : length new ≡ length old
  pub each : (owner key : ℕ) → owner < nodes → key < keys
      → changed owner key (cell old nodes owner key) (cell new nodes owner key)

-- planes of which each number is as a relation of owner, key and number says
pub record HasEachPlace (nodes keys : ℕ) (is : ℕ → ℕ → ℕ → Type 0) (xs : List ℕ) : Type 0 where
  pub size : length xs ≡ keys * nodes
  pub each : (owner key : ℕ) → owner < nodes → key < keys → is owner key (cell xs nodes owner key)

-- y is x raised to the greatest of an owner's numbers
pub record IsRaised (cells : Cells) (keys owner x y : ℕ) : Type 0 where
  pub rises : x ≤ y
  pub upto : (key : ℕ) → key < keys → cells owner key ≤ y
  pub from : (y ≡ x) ⊎ ((key : ℕ) × (key < keys) × (cells owner key ≡ y))

-- each owner's greatest number is raised to the greatest of its numbers, once these were raised to what is sent
abbrev pub AreRaised : ℕ → ℕ → List ℕ → List ℕ → List ℕ → List ℕ → List ℕ → List ℕ → Type 0
AreRaised nodes keys cells sent low high old new =
    HasEach nodes (λ r y. IsRaised (numbers_taken nodes cells sent low high) keys r (slice_index old r) y) new
