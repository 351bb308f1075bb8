-- What loops over one plane make of it, and what they ask. Source: this project.
use Rattle.std.specs.Prelude.{◌≡◌, ℕ, ◌+◌, ◌*◌, ◌<◌, ◌≤◌, nat_lt, Bool, List, length, map, max, slice_index}
use Rattle.grids.specs.Common.{AreChanged, AreChangedUpto, count_passing, AreCountedUpto, number_raised, Sent, BothCounts, BothMarks}
use Rattle.grids.specs.Grids.{taken_by}

-- what a call makes of a number, and its answers to two questions
abbrev pub Made : Type 0 → Type 0
Made N = N × Bool × Bool

-- each call answers, or makes of its number, what a function of place and number does
abbrev pub AnswersBy : {N B : Type 0} → (N → ℕ) → (Made N → B) → (ℕ → N → Made N → Type 0) → ℕ → (ℕ → ℕ → B) → Type 0
AnswersBy {N} number answer makes bound by =
    (r : ℕ) (n : N) (all : Made N) → r < bound → makes r n all → answer all ≡ by r (number n)

-- of so many numbers from one on so many pass the test of a question, where the whole's numbers before were counted
abbrev pub IsCounted : {N : Type 0} → (N → ℕ) → (Made N → Bool) → (ℕ → N → Made N → Type 0) → List N → ℕ → ℕ → ℕ
    → Type 0
IsCounted number answer makes old from size passed =
    (test : ℕ → ℕ → Bool) → AnswersBy number answer makes (length old) test
    → (whole : List ℕ) → ((r : ℕ) → from ≤ r → slice_index (map number old) r ≡ slice_index whole r)
    → (before : ℕ) → before ≡ count_passing from (λ r. test r (slice_index whole r))
    → before + passed ≡ count_passing (from + size) (λ r. test r (slice_index whole r))

-- the numbers below a bound are raised to others, where these are above their marks, and so many of them are
abbrev pub AreRaisedUpto : List ℕ → List ℕ → List ℕ → List ℕ → ℕ → ℕ → Type 0
AreRaisedUpto others low old new bound count =
    AreCountedUpto (λ r x y. y ≡ number_raised x (slice_index others r) (slice_index low r))
    (λ r. nat_lt (slice_index low r) (slice_index others r)) old new bound count

-- so many numbers from one on are changed and counted as calls say, where those before it were
pub record AreCounted {N : Type 0} (number : N → ℕ) (makes : ℕ → N → Made N → Type 0) (old new : List N)
    (from size : ℕ) (passed : ℕ × ℕ) : Type 0 where
  pub upto : (passed.0 ≤ size) × (passed.1 ≤ size)
  pub numbers : (made : ℕ → ℕ → ℕ) → AnswersBy number (λ all. number all.0) makes (length old) made
      → (whole : List ℕ) → AreChangedUpto (λ r x y. y ≡ made r x) whole (map number old) from
      → AreChangedUpto (λ r x y. y ≡ made r x) whole (map number new) (from + size)
  pub rest : (r : ℕ) → from + size ≤ r → slice_index (map number new) r ≡ slice_index (map number old) r
  pub first : IsCounted number (λ all. all.1) makes old from size passed.0
  pub second : IsCounted number (λ all. all.2) makes old from size passed.1

-- a plane, the greatest number of each owner and the marks are of the size of what is sent
pub record MayTakePlane {N : Type 0} (plane greatest : List N) (sent : Sent N) (key : ℕ) : Type 0 where
  pub within : key * sent.grid.size.nodes + sent.grid.size.nodes ≤ length sent.grid.cells.now
  pub count : length plane ≡ sent.grid.size.nodes
  pub greatest_count : length greatest ≡ sent.grid.size.nodes
  pub low_count : length sent.low.now ≡ sent.grid.size.nodes
  pub high_count : length sent.high.now ≡ sent.grid.size.nodes

-- the plane's numbers and the greatest ones once it took what is sent of its key
pub record IsPlaneTaken {N : Type 0} (number : N → ℕ) (sent : Sent N) (key : ℕ)
    (old old_greatest new new_greatest : List N) : Type 0 where
  pub plane : AreChanged (λ r x y. y ≡ taken_by number sent r key x) (map number old) (map number new)
  pub greatest : AreChanged (λ r x y. y ≡ max x (taken_by number sent r key (slice_index (map number old) r)))
      (map number old_greatest) (map number new_greatest)

-- two planes and the marks of both are of one size
pub record AreBothMarked {N : Type 0} (one other : List N) (marks : BothMarks N) : Type 0 where
  pub second : length other ≡ length one
  pub first_low : length marks.first.now ≡ length one
  pub second_low : length marks.second.now ≡ length one

-- each number of both planes is raised to the other's, where that is above its own mark, and so many come to each
pub record ArePlanesMerged {N : Type 0} (number : N → ℕ) (marks : BothMarks N) (one other new_one new_other : List N)
    (came : BothCounts) : Type 0 where
  pub upto : (came.first ≤ length one) × (came.second ≤ length one)
  pub first : AreRaisedUpto (map number other) (map number marks.first.now) (map number one) (map number new_one)
      (length one) came.first
  pub second : AreRaisedUpto (map number one) (map number marks.second.now) (map number other) (map number new_other)
      (length other) came.second

-- so many numbers from one on, of which those before it were raised
pub record ArePartMerged {N : Type 0} (number : N → ℕ) (marks : BothMarks N) (one other new_one new_other : List N)
    (from size : ℕ) (came : BothCounts) : Type 0 where
  pub upto : (came.first ≤ size) × (came.second ≤ size)
  pub done : (whole rest : List ℕ) (to_first to_second : ℕ)
      → AreRaisedUpto rest (map number marks.first.now) whole (map number one) from to_first
      → AreRaisedUpto whole (map number marks.second.now) rest (map number other) from to_second
      → AreRaisedUpto rest (map number marks.first.now) whole (map number new_one) (from + size) (to_first + came.first)
      × AreRaisedUpto whole (map number marks.second.now) rest (map number new_other)
      (from + size) (to_second + came.second)
