-- What is sent where not all fits, or all, as one mark for each owner. Source: this project.
use Rattle.std.specs.Prelude.{◌≡◌, ◌⊎◌, ℕ, ◌+◌, ◌<◌, ◌≤◌, true}
pub use Rattle.delta_plans.specs.Common.{First, Oldest, Newest, Mode, amount_of, all_writes, Level, Offer, OutOfMemory, MOST_KEYS, ScuttleDepth, ScuttleBreadth}
pub use Rattle.delta_plans.specs.OfferInMemory.{cells_in, low_in, high_in, count_in, marks, HasMarks, IfGranted, IsOffer, IsTooLarge}
pub use Rattle.delta_plans.specs.Plans.{weight_on, count_on, IsLevelBy, AreRunsFrom, HasNoneBetween, IsMarkFrom, IsNextLayer, IsStep}
pub use Rattle.delta_plans.specs.LevelMarks.{first_level, first_sent, level_number, lets_through, AreLevelMarks}
use Rattle.delta_plans.specs.Turns.{AreShared}

-- the level of an owner's number that is offered
abbrev pub level_in : {N : Type 0} → Mode → (N → ℕ) → Offer N → ℕ → ℕ → ℕ
level_in mode number offer =
    level_number mode (all_writes offer.lists.now) (cells_in number offer) offer.grid.size.keys (low_in number offer)

-- a level as a mode has it
abbrev pub IsLevelOf : {N : Type 0} → Mode → (N → ℕ) → Offer N → Level N → Type 0
IsLevelOf mode number offer =
    IsLevelBy (first_sent mode) (first_level mode) (level_in mode number offer) number offer

-- marks that let all through, which fits
pub record LetAll {N : Type 0} (first : First) (number : N → ℕ) (offer : Offer N) (mark : ℕ → ℕ) : Type 0 where
  pub all : (owner key : ℕ) → owner < offer.grid.size.nodes → key < offer.grid.size.keys
      → low_in number offer owner < cells_in number offer owner key
      → lets_through first (mark owner) (cells_in number offer owner key) ≡ true
  pub within : weight_on first number offer mark ≤ amount_of offer.budget

-- marks that share out the first level that doesn't fit
pub record ShareLevel {N : Type 0} (mode : Mode) (rotation : ℕ) (number : N → ℕ) (offer : Offer N) (mark : ℕ → ℕ)
    (sent : ℕ) : Type 0 where
  pub near : ℕ → ℕ
  pub far : ℕ → ℕ
  pub shape : AreLevelMarks (first_sent mode) (first_level mode) (level_in mode number offer) (cells_in number offer)
      offer.grid.size.nodes offer.grid.size.keys (low_in number offer) near far
  pub shared : AreShared (first_sent mode) rotation number offer near far mark sent

-- from the newest on no mark is below the low one
abbrev pub KeepsLow : First → ℕ → (ℕ → ℕ) → (ℕ → ℕ) → Type 0
KeepsLow Oldest nodes low mark = Unit {0}
KeepsLow Newest nodes low mark = (r : ℕ) → r < nodes → low r ≤ mark r

-- marks of what is sent, so many numbers, and so many are cut
pub record AreMarked {N : Type 0} (mode : Mode) (rotation : ℕ) (number : N → ℕ) (offer : Offer N) (mark : ℕ → ℕ)
    (sent cut : ℕ) : Type 0 where
  pub above : KeepsLow (first_sent mode) offer.grid.size.nodes (low_in number offer) mark
  pub count : sent ≡ count_on (first_sent mode) number offer mark
  pub left : sent + cut ≡ count_in number offer (low_in number offer) (high_in number offer)
  pub how : LetAll (first_sent mode) number offer mark ⊎ ShareLevel mode rotation number offer mark sent
