-- Levels of what is offered, as marks: near marks let through whole levels, and far marks one level more, which doesn't
-- fit. Source: this project.
use Rattle.std.specs.Prelude.{◌≡◌, ◌⊎◌, ℕ, ◌+◌, ◌<◌, ◌≤◌, nat_le, List, length, map, if◌then◌else◌}
use Rattle.delta_plans.specs.Common.{First, amount_of, Cells, HasEach, HasNoneAbove, IsLeastAbove, MOST_KEYS, Offer, Level, Step}
use Rattle.delta_plans.specs.OfferInMemory.{cells_in, low_in, high_in, owner_count_in, marks, weights_in, count_in, IsOffer}
use Rattle.delta_plans.specs.LevelMarks.{AreLevelMarks, IsOn}
use Rattle.delta_plans.specs.Weights.{weight_through, one_each}

-- a mark goes on to the owner's next number, or stays where there is none
abbrev pub IsNextMark : Cells → ℕ → ℕ → ℕ → ℕ → Type 0
IsNextMark cells keys owner mark next =
    (HasNoneAbove cells keys owner mark × (next ≡ mark)) ⊎ IsLeastAbove cells keys owner mark next

-- marks of one level more, each as a relation of owner and mark says, none lower than before, and so many numbers more
pub record IsStep {N : Type 0} (number : N → ℕ) (offer : Offer N) (near : ℕ → ℕ) (is : ℕ → ℕ → Type 0)
    (step : Step N) : Type 0 where
  pub count : length step.marks.items ≡ offer.grid.size.nodes
  pub rises : (owner : ℕ) → owner < offer.grid.size.nodes → near owner ≤ marks number step.marks.items owner
  pub more : step.more ≡ count_in number offer near (marks number step.marks.items)
  pub next : (owner : ℕ) → owner < offer.grid.size.nodes → is owner (marks number step.marks.items owner)

-- one number more of each owner that has one
abbrev pub IsNextLayer : {N : Type 0} → (N → ℕ) → Offer N → (ℕ → ℕ) → Step N → Type 0
IsNextLayer number offer near =
    IsStep number offer near (λ owner. IsNextMark (cells_in number offer) offer.grid.size.keys owner (near owner))

-- what marks let through takes so much of the budget, and is so many numbers
abbrev pub weight_on : {N : Type 0} → First → (N → ℕ) → Offer N → (ℕ → ℕ) → ℕ
weight_on first number offer mark =
    weight_through first (weights_in offer) (cells_in number offer) offer.grid.size.nodes offer.grid.size.keys
    (low_in number offer) (high_in number offer) mark

abbrev pub count_on : {N : Type 0} → First → (N → ℕ) → Offer N → (ℕ → ℕ) → ℕ
count_on first number offer mark =
    weight_through first one_each (cells_in number offer) offer.grid.size.nodes offer.grid.size.keys
    (low_in number offer) (high_in number offer) mark

-- far marks, which let through all that near marks do; none is below the low one
abbrev pub AreFarther : First → ℕ → ℕ → ℕ → Type 0
AreFarther first low near far = (low ≤ far) × IsOn first near far

-- marks for each owner, none below the low one, that let so many numbers through and leave so much
pub record HaveLeft {N : Type 0} (first : First) (number : N → ℕ) (offer : Offer N) (mark : List N)
    (count left : ℕ) : Type 0 where
  pub size : length mark ≡ offer.grid.size.nodes
  pub above : (owner : ℕ) → owner < offer.grid.size.nodes → low_in number offer owner ≤ marks number mark owner
  pub counted : count ≡ count_on first number offer (marks number mark)
  pub rest : weight_on first number offer (marks number mark) + left ≡ amount_of offer.budget

-- and far marks, the first that let through more than fits
pub record IsLevel {N : Type 0} (first : First) (number : N → ℕ) (offer : Offer N) (near far : List N)
    (whole left : ℕ) : Type 0 where
  pub so_far : HaveLeft first number offer near whole left
  pub each_far : length far ≡ offer.grid.size.nodes
  pub farther : (owner : ℕ) → owner < offer.grid.size.nodes
      → AreFarther first (low_in number offer owner) (marks number near owner) (marks number far owner)
  pub beyond : amount_of offer.budget < weight_on first number offer (marks number far)

-- whose marks part levels that go by these numbers
pub record IsLevelBy {N : Type 0} (first way : First) (level_number : ℕ → ℕ → ℕ) (number : N → ℕ) (offer : Offer N)
    (level : Level N) : Type 0 where
  pub is_level : IsLevel first number offer level.near.items level.far.items level.whole level.left
  pub shape : AreLevelMarks first way level_number (cells_in number offer) offer.grid.size.nodes offer.grid.size.keys
      (low_in number offer) (marks number level.near.items) (marks number level.far.items)

-- an owner's mark goes all the way where it has so many numbers, and else not at all
abbrev pub IsMarkFrom : {N : Type 0} → (N → ℕ) → Offer N → ℕ → ℕ → ℕ → Type 0
IsMarkFrom number offer size owner mark =
    mark ≡ (if nat_le size (owner_count_in number offer owner) then high_in number offer owner
    else low_in number offer owner)

abbrev pub AreMarksFrom : {N : Type 0} → (N → ℕ) → Offer N → ℕ → (ℕ → ℕ) → Type 0
AreMarksFrom number offer size mark =
    (owner : ℕ) → owner < offer.grid.size.nodes → IsMarkFrom number offer size owner (mark owner)

-- how many numbers each owner has, and near marks, which let through the runs that are longer than a size
pub record AreRunsFrom {N : Type 0} (number : N → ℕ) (most : ℕ) (offer : Offer N) (counts near : List N)
    (size : ℕ) : Type 0 where
  pub is_offer : IsOffer number most offer
  pub counts_are : HasEach offer.grid.size.nodes (λ r n. n ≡ owner_count_in number offer r) (map number counts)
  pub each_near : length near ≡ offer.grid.size.nodes
  pub some : 0 < size
  pub few : size ≤ MOST_KEYS
  pub longer : AreMarksFrom number offer (size + 1) (marks number near)

-- no owner has more numbers than a size and fewer than a bound above it
pub record HasNoneBetween {N : Type 0} (number : N → ℕ) (counts : List N) (bound size : ℕ) : Type 0 where
  pub below : size < bound
  pub none : (r : ℕ) → r < length counts → marks number counts r < bound → marks number counts r ≤ size
