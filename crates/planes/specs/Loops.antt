-- What loops over planes make of what a closure answers. Source: this project.
use Rattle.std.specs.Prelude.{◌≡◌, ◌⊎◌, ℕ, ◌+◌, ◌<◌, ◌≤◌, nat_le, nat_lt, Bool, List, length, map, slice_index, if◌then◌else◌}
use Rattle.limits.specs.Sums.{sum_below}
use Rattle.planes.specs.Elementwise.{AreChangedUpto}

-- a number is what a call made of another one
pub record IsMade {N : Type 0} (number : N → ℕ) (makes : ℕ → N → N → Type 0) (r x y : ℕ) : Type 0 where
  pub from : N
  pub to : N
  pub was : number from ≡ x
  pub is : number to ≡ y
  pub made : makes r from to

-- the least of the values below a bound, each of which is no more than the most, and of the most
pub record IsLeastOf (most : ℕ) (values : ℕ → ℕ) (keys least : ℕ) : Type 0 where
  pub upto : least ≤ most
  pub fits : (k : ℕ) → k < keys → values k ≤ most
  pub no_less : (k : ℕ) → k < keys → least ≤ values k
  pub is : (least ≡ most) ⊎ ((k : ℕ) × (k < keys) × (values k ≡ least))

-- how many of the places below a bound pass a test
abbrev pub count_passing : ℕ → (ℕ → Bool) → ℕ
count_passing bound test = sum_below bound (λ r. if test r then 1 else 0)

-- the numbers below a bound are changed, and so many of them pass a test
pub record AreCountedUpto (changed : ℕ → ℕ → ℕ → Type 0) (test : ℕ → Bool) (old new : List ℕ)
    (bound passed : ℕ) : Type 0 where
  pub numbers : AreChangedUpto changed old new bound
  pub count : passed ≡ count_passing bound test

-- so many numbers from one on are a part of all, and a number can count them
pub record IsPart (most whole from size : ℕ) : Type 0 where
  pub within : from + size ≤ whole
  pub few : size ≤ most

-- each answer for an owner below a bound is that of a test of owner and number
abbrev pub AnswersAs : {N : Type 0} → (N → ℕ) → (ℕ → N → Bool → Type 0) → ℕ → (ℕ → ℕ → Bool) → Type 0
AnswersAs {N} number answers bound test =
    (r : ℕ) (n : N) (passes : Bool) → r < bound → answers r n passes → passes ≡ test r (number n)

-- one number of a plane, where it is above one mark and up to another
abbrev pub one_between : {N : Type 0} → (N → ℕ) → List N → List N → List N → ℕ → ℕ
one_between number plane low high r =
    if nat_lt (slice_index (map number low) r) (slice_index (map number plane) r)
    then (if nat_le (slice_index (map number plane) r) (slice_index (map number high) r) then 1 else 0) else 0

-- a number of a plane and two marks for each count
pub record MayCountPlane {N : Type 0} (counts plane low high : List N) : Type 0 where
  pub plane_count : length plane ≡ length counts
  pub low_count : length low ≡ length counts
  pub high_count : length high ≡ length counts

-- so many more can be counted
abbrev pub HasRoomToCount : {N : Type 0} → (N → ℕ) → ℕ → ℕ → List N → Type 0
HasRoomToCount number most more counts = (r : ℕ) → r < length counts → slice_index (map number counts) r + more ≤ most
