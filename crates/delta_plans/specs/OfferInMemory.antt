-- What is offered in memory: cells with marks for each owner, and the owners' lists. Source: this project.
use Rattle.std.specs.Prelude.{◌≡◌, ℕ, ◌-◌, ◌<◌, ◌≤◌, IfOk, IsOkUnless, List, Option, Result, SomeIff, length, map, slice_index}
pub use Rattle.delta_plans.specs.Common.{Fault, OutOfMemory, amount_of, all_writes, IsGridOf, Cells, cell, count_above, HasNoneAbove, Offer, MOST_ENTRY_SIZE, count_between}
use Rattle.delta_plans.specs.LevelMarks.{NumbersDiffer}
pub use Rattle.delta_plans.specs.Weights.{number_shares, weight_between, count_all_between, weight_of}

-- what holds of an answer unless memory is refused
abbrev pub IfGranted : {T : Type 0} → Result T Fault → (T → Type 0) → Type 0
IfGranted result is = IfOk result is × IsOkUnless result OutOfMemory

-- a number for each owner
abbrev pub marks : {N : Type 0} → (N → ℕ) → List N → ℕ → ℕ
marks number xs owner = slice_index (map number xs) owner

-- the marks above which numbers are offered, and those up to which they are
abbrev pub low_in : {N : Type 0} → (N → ℕ) → Offer N → ℕ → ℕ
low_in number offer = marks number offer.low.now

abbrev pub high_in : {N : Type 0} → (N → ℕ) → Offer N → ℕ → ℕ
high_in number offer = marks number offer.high.now

abbrev pub cells_in : {N : Type 0} → (N → ℕ) → Offer N → Cells
cells_in number offer = cell (map number offer.grid.cells.now) offer.grid.size.nodes

-- what each owner's numbers take of the budget
abbrev pub weights_in : {N : Type 0} → Offer N → ℕ → ℕ → ℕ
weights_in offer = number_shares offer.budget (all_writes offer.lists.now)

-- what the numbers above marks and up to others take of it, and how many these are
abbrev pub weight_in : {N : Type 0} → (N → ℕ) → Offer N → (ℕ → ℕ) → (ℕ → ℕ) → ℕ
weight_in number offer =
    weight_between (weights_in offer) (cells_in number offer) offer.grid.size.nodes offer.grid.size.keys

abbrev pub count_in : {N : Type 0} → (N → ℕ) → Offer N → (ℕ → ℕ) → (ℕ → ℕ) → ℕ
count_in number offer = count_all_between (cells_in number offer) offer.grid.size.nodes offer.grid.size.keys

-- how many of an owner's numbers are above its mark
abbrev pub owner_count_in : {N : Type 0} → (N → ℕ) → Offer N → ℕ → ℕ
owner_count_in number offer owner =
    count_above (cells_in number offer) offer.grid.size.keys owner (low_in number offer owner)

-- each cell has the number of a write, or 0; those of an owner differ, and none is above its high mark
pub record IsOffer {N : Type 0} (number : N → ℕ) (most : ℕ) (offer : Offer N) : Type 0 where
  pub grid : IsGridOf offer.grid
  pub low : length offer.low.now ≡ offer.grid.size.nodes
  pub high : length offer.high.now ≡ offer.grid.size.nodes
  pub lists : length offer.lists.now ≡ offer.grid.size.nodes
  pub written : (owner key : ℕ) → owner < offer.grid.size.nodes → key < offer.grid.size.keys
      → cells_in number offer owner key ≤ length (all_writes offer.lists.now owner)
  pub below : (owner key : ℕ) → owner < offer.grid.size.nodes → key < offer.grid.size.keys
      → cells_in number offer owner key < most
  pub differ : (owner : ℕ) → owner < offer.grid.size.nodes
      → NumbersDiffer (cells_in number offer) offer.grid.size.keys owner
  pub covered : (owner : ℕ) → owner < offer.grid.size.nodes
      → HasNoneAbove (cells_in number offer) offer.grid.size.keys owner (high_in number offer owner)
  pub found : offer.found ≡ count_in number offer (low_in number offer) (high_in number offer)

-- what is left of so much room after what weighs so much, nothing where that doesn't fit
abbrev pub IsLeftOf : ℕ → ℕ → Option ℕ → Type 0
IsLeftOf room weight left = SomeIff left (weight ≤ room) (room - weight)

-- an offer that weighs more than the budget
pub record IsTooLarge {N : Type 0} (number : N → ℕ) (most : ℕ) (offer : Offer N) : Type 0 where
  pub is_offer : IsOffer number most offer
  pub beyond : amount_of offer.budget
      < weight_in number offer (low_in number offer) (high_in number offer)

-- an owner of an offer
pub record HasOwner {N : Type 0} (number : N → ℕ) (most : ℕ) (offer : Offer N) (owner : ℕ) : Type 0 where
  pub is_offer : IsOffer number most offer
  pub in_nodes : owner < offer.grid.size.nodes

-- a low and a high mark for each owner of an offer
pub record HasMarks {N : Type 0} (number : N → ℕ) (most : ℕ) (offer : Offer N) (low high : List N) : Type 0 where
  pub is_offer : IsOffer number most offer
  pub each_low : length low ≡ offer.grid.size.nodes
  pub each_high : length high ≡ offer.grid.size.nodes
