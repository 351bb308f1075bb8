-- Levels of rounds, as marks. Source: this project.
use Rattle.std.specs.Prelude.{◌≡◌, ℕ, ◌+◌, ◌-◌, ◌*◌, ◌<◌, ◌≤◌, max, length, map, IfSome, List, Option, Some, None}
pub use Rattle.delta_plans.specs.Common.{amount_of, all_writes, cell, HasEach, Ends, Offer, Fit, Rounds, AreMadeBy, AreEnds}
pub use Rattle.delta_plans.specs.OfferInMemory.{low_in, marks, IsTooLarge, IfGranted, IsLeftOf}
pub use Rattle.delta_plans.specs.Plans.{weight_on, count_on, IsLevelBy}
pub use Rattle.delta_plans.specs.LevelMarks.{by_first, round_in}

-- where the rounds end in which all that is offered was written
pub record AreEndsOf {N : Type 0} (number : N → ℕ) (offer : Offer N) (ends : Ends N) : Type 0 where
  pub size : length ends.numbers.now ≡ (ends.rounds + 1) * offer.grid.size.nodes
  pub are_ends : AreEnds (all_writes offer.lists.now) offer.grid.size.nodes ends.rounds
      (cell (map number ends.numbers.now) offer.grid.size.nodes)
  pub made : (owner : ℕ) → AreMadeBy ends.rounds (all_writes offer.lists.now owner)

-- an offer that is too large, and where its rounds end
pub record IsAsked {N : Type 0} (number : N → ℕ) (most : ℕ) (offer : Offer N) (ends : Ends N) : Type 0 where
  pub too_large : IsTooLarge number most offer
  pub are_ends_of : AreEndsOf number offer ends

-- marks for each owner of it, of which none is below the low one
pub record AreRaised {N : Type 0} (number : N → ℕ) (most : ℕ) (rounds : Rounds N) (mark : List N) : Type 0 where
  pub is_asked : IsAsked number most rounds.offer.now rounds.ends
  pub size : length mark ≡ rounds.offer.now.grid.size.nodes
  pub above : (r : ℕ) → r < rounds.offer.now.grid.size.nodes
      → low_in number rounds.offer.now r ≤ marks number mark r

-- it is found of what marks let through how many numbers these are, that they fit, and what they leave if that is
-- known, or that they don't fit
abbrev pub IsFound : {N : Type 0} → (N → ℕ) → Rounds N → (ℕ → ℕ) → Option Fit → Type 0
IsFound number rounds mark (Some fit) =
    (fit.count ≡ count_on rounds.first number rounds.offer.now mark)
    × (weight_on rounds.first number rounds.offer.now mark ≤ amount_of rounds.offer.now.budget)
    × IfSome fit.left
    (λ left. weight_on rounds.first number rounds.offer.now mark + left ≡ amount_of rounds.offer.now.budget)
IsFound number rounds mark None =
    weight_on rounds.first number rounds.offer.now mark ≤ amount_of rounds.offer.now.budget → ⊥

-- the marks of so many rounds, from the oldest or from the newest on, of which none is below its owner's low mark
abbrev pub mark_of_rounds : {N : Type 0} → (N → ℕ) → Rounds N → ℕ → ℕ → ℕ
mark_of_rounds number rounds count owner =
    max (low_in number rounds.offer.now owner) (cell (map number rounds.ends.numbers.now) rounds.offer.now.grid.size.nodes
    owner (by_first rounds.first count (rounds.ends.rounds - count)))

abbrev pub AreRoundMarks : {N : Type 0} → (N → ℕ) → Rounds N → ℕ → List N → Type 0
AreRoundMarks number rounds count mark =
    HasEach rounds.offer.now.grid.size.nodes (λ r n. n ≡ mark_of_rounds number rounds count r) (map number mark)

-- a few rounds fit, and enough rounds don't
pub record AreFewAndEnough {N : Type 0} (number : N → ℕ) (rounds : Rounds N) (few enough : ℕ) (fit : Fit) : Type 0 where
  pub below : few < enough
  pub bound : enough ≤ rounds.ends.rounds
  pub fits : IsFound number rounds (mark_of_rounds number rounds few) (Some fit)
  pub beyond : amount_of rounds.offer.now.budget
      < weight_on rounds.first number rounds.offer.now (mark_of_rounds number rounds enough)
