-- A level shared out by the owners' turns, from the rotation on. Source: this project.
use Rattle.std.specs.Prelude.{◌≡◌, ℕ, ◌+◌, ◌-◌, ◌<◌, ◌≤◌, nat_lt, List, length, map, if◌then◌else◌, ◌≢◌, true, false}
pub use Rattle.delta_plans.specs.Common.{amount_of, sum_below, HasEach, Cells, rotated, Reached, Turns, First, Offer}
pub use Rattle.delta_plans.specs.OfferInMemory.{cells_in, marks, weights_in, IsOffer, low_in, HasOwner, IfGranted}
use Rattle.delta_plans.specs.Plans.{weight_on, count_on, HaveLeft, IsLevel}
use Rattle.delta_plans.specs.Weights.{weight_from}
pub use Rattle.delta_plans.specs.LevelMarks.{comes_first, lets_through, IsOn, by_first}

-- an owner's mark that lets through what comes before a number, which its far mark lets through and its near one not
pub record StopsBefore (first : First) (cells : Cells) (keys owner low near far mark next : ℕ) : Type 0 where
  pub offered : low < next
  pub above : low ≤ mark
  pub outside : lets_through first near next ≡ false
  pub inside : lets_through first far next ≡ true
  pub own : (k : ℕ) → k < keys → lets_through first mark (cells owner k) ≡ comes_first first (cells owner k) next

-- marks that stop at an owner's number: of the others, those whose turn is before its owner's have the far mark, and
-- those whose turn is behind it the near one
pub record StopAt (first : First) (rotation nodes keys : ℕ) (cells : Cells) (low near far mark : ℕ → ℕ) : Type 0 where
  pub owner : ℕ
  pub key : ℕ
  pub owner_below : owner < nodes
  pub key_below : key < keys
  pub stops : StopsBefore first cells keys owner (low owner) (near owner) (far owner) (mark owner) (cells owner key)
  pub others : (r : ℕ) → r < nodes → r ≢ owner
      → mark r ≡ (if nat_lt (rotated nodes rotation r) (rotated nodes rotation owner) then far r else near r)

-- marks that share out a level: they stop at a number that doesn't fit any more
pub record AreShared {N : Type 0} (first : First) (rotation : ℕ) (number : N → ℕ) (offer : Offer N)
    (near far mark : ℕ → ℕ) (sent : ℕ) : Type 0 where
  pub stop : StopAt first rotation offer.grid.size.nodes offer.grid.size.keys (cells_in number offer)
      (low_in number offer) near far mark
  pub above : (r : ℕ) → r < offer.grid.size.nodes → low_in number offer r ≤ mark r
  pub count : sent ≡ count_on first number offer mark
  pub within : weight_on first number offer mark ≤ amount_of offer.budget
  pub beyond : amount_of offer.budget
      < weight_on first number offer mark + weights_in offer stop.owner (cells_in number offer stop.owner stop.key)

-- a level that doesn't fit, of an offer, that is shared out in turn from a rotation on
pub record AreTurns {N : Type 0} (number : N → ℕ) (most : ℕ) (turns : Turns N) : Type 0 where
  pub offer : IsOffer number most turns.offer.now
  pub rotation : turns.rotation < turns.offer.now.grid.size.nodes
  pub level : IsLevel turns.first number turns.offer.now turns.near.now turns.far.now turns.whole turns.left

-- what an owner's numbers from one mark on to another weigh, and what its part of it does
abbrev pub weight_to : {N : Type 0} → (N → ℕ) → (ℕ → ℕ) → Turns N → ℕ → ℕ → ℕ → ℕ
weight_to number weight turns =
    weight_from turns.first weight (cells_in number turns.offer.now) turns.offer.now.grid.size.keys

abbrev pub part_weight : {N : Type 0} → (N → ℕ) → (ℕ → ℕ) → Turns N → ℕ → ℕ
part_weight number weight turns owner =
    weight_to number weight turns owner (marks number turns.near.now owner) (marks number turns.far.now owner)

-- two marks on the way from a near to a far one: numbers up to the first fit into some room, and leave so much, and
-- those up to the second don't
pub record IsStopBetween (first : First) (weight : ℕ → ℕ) (cells : Cells)
    (keys owner near far room mark beyond left : ℕ) : Type 0 where
  pub on : IsOn first near mark
  pub between : IsOn first mark beyond
  pub upto : IsOn first beyond far
  pub rest : weight_from first weight cells keys owner near mark + left ≡ room
  pub more : left < weight_from first weight cells keys owner mark beyond

-- so it is of an owner's part of the level
abbrev pub IsStopSoFar : {N : Type 0} → (N → ℕ) → Turns N → ℕ → ℕ → ℕ → ℕ → ℕ → Type 0
IsStopSoFar number turns owner =
    IsStopBetween turns.first (weights_in turns.offer.now owner) (cells_in number turns.offer.now)
    turns.offer.now.grid.size.keys owner (marks number turns.near.now owner) (marks number turns.far.now owner)

-- and there is no other between them
pub record IsStopOf {N : Type 0} (number : N → ℕ) (turns : Turns N) (owner room mark : ℕ) : Type 0 where
  pub beyond : ℕ
  pub left : ℕ
  pub so_far : IsStopSoFar number turns owner room mark beyond left
  pub below : mark ≤ beyond + 1
  pub above : beyond ≤ mark + 1

-- how many numbers the parts of so many owners have, from one on
abbrev pub parts_count : {N : Type 0} → (N → ℕ) → Turns N → ℕ → ℕ → ℕ
parts_count number turns owner size = sum_below size (λ i. part_weight number (λ _. 1) turns (owner + i))

-- and each of them
abbrev pub AreParts : {N : Type 0} → (N → ℕ) → Turns N → ℕ → ℕ → List N → Type 0
AreParts number turns owner size counts =
    HasEach size (λ i n. n ≡ part_weight number (λ _. 1) turns (owner + i)) (map number counts)

-- a mark for each owner, by which turns share their level out
pub record AreSharedBy {N : Type 0} (number : N → ℕ) (turns : Turns N) (mark : List N) (sent : ℕ) : Type 0 where
  pub size : length mark ≡ turns.offer.now.grid.size.nodes
  pub shared : AreShared turns.first turns.rotation number turns.offer.now (marks number turns.near.now)
      (marks number turns.far.now) (marks number mark) sent

-- owners whose turn has come have the far mark, and the others the near one
pub record HasReached {N : Type 0} (number : N → ℕ) (turns : Turns N) (mark : List N) (reached : Reached) : Type 0 where
  pub so_far : HaveLeft turns.first number turns.offer.now mark reached.sent reached.left
  pub each : (r : ℕ) → r < turns.offer.now.grid.size.nodes
      → marks number mark r ≡ (if nat_lt (rotated turns.offer.now.grid.size.nodes turns.rotation r) reached.turn
      then marks number turns.far.now r else marks number turns.near.now r)

-- owners in a row, from one on, have their turns next, and their parts so many numbers
pub record HaveTurns {N : Type 0} (number : N → ℕ) (most : ℕ) (turns : Turns N) (mark : List N) (reached : Reached)
    (owner : ℕ) (counts : List N) : Type 0 where
  pub are : AreTurns number most turns
  pub has_reached : HasReached number turns mark reached
  pub turn : rotated turns.offer.now.grid.size.nodes turns.rotation owner ≡ reached.turn
  pub in_nodes : owner + length counts ≤ turns.offer.now.grid.size.nodes
  pub in_turns : reached.turn + length counts ≤ turns.offer.now.grid.size.nodes
  pub parts : AreParts number turns owner (length counts) counts

-- what is reached once so many owners more, from one on, have the far mark
abbrev pub reached_after : {N : Type 0} → (N → ℕ) → Turns N → Reached → ℕ → ℕ → Reached
reached_after number turns reached owner size = record {
  turn = reached.turn + size;
  left = reached.left - parts_count number turns owner size;
  sent = reached.sent + parts_count number turns owner size;
}
