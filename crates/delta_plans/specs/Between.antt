-- What lies between two marks of each owner of an offer. Source: this project.
use Rattle.std.specs.Prelude.{◌≡◌, ℕ, ◌+◌, Bool, true, false, List, slice_index_or}
pub use Rattle.delta_plans.specs.Common.{count_between, sum_below}
pub use Rattle.delta_plans.specs.OfferInMemory.{cells_in, marks, weights_in, weight_in, HasMarks, IsLeftOf}
use Rattle.delta_plans.specs.Weights.{weight_of}
use Rattle.delta_plans.specs.declared.between.Between.{Between}

-- what an owner's numbers between them take of the budget, and how many of so many keys these are
abbrev pub owner_weight : {N : Type 0} → (N → ℕ) → Between N → ℕ → ℕ
owner_weight number b owner =
    weight_of (weights_in b.offer.now owner) (cells_in number b.offer.now) b.offer.now.grid.size.keys owner
    (marks number b.low.now owner) (marks number b.high.now owner)

abbrev pub owner_count : {N : Type 0} → (N → ℕ) → Between N → ℕ → ℕ → ℕ
owner_count number b keys owner =
    count_between (cells_in number b.offer.now) keys owner (marks number b.low.now owner) (marks number b.high.now owner)

-- of the owners from a first one on, those that aren't found have none among so many keys
abbrev pub AreFound : {N : Type 0} → (N → ℕ) → Between N → ℕ → ℕ → List Bool → Type 0
AreFound number b keys first found =
    (i : ℕ) → slice_index_or found i true ≡ false → owner_count number b keys (first + i) ≡ 0
