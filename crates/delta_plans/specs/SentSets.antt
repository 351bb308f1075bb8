-- What a budget lets through of candidates, told by any set of them. Source: this project.
use Rattle.std.specs.Prelude.{◌≡◌, ◌≢◌, ℕ, ◌+◌, ◌<◌, ◌≤◌, ◌↔◌, Bool, true, false, not, List, length, count_by, Contains, if◌then◌else◌}
use Rattle.delta_plans.specs.Common.{sum_by, Ordering, Less, Item, Budget, Mode, amount_of, Table, IsProper, candidates, DeltaView, delta_between, item_share, sending_order}

module _ {X : Type 0} (order : X → X → Ordering) (candidates : List X) (size : X → ℕ) (is_in : X → Bool) where
  -- the sizes of those in the set
  abbrev pub size_in : ℕ
  size_in = sum_by (λ c. if is_in c then size c else 0) candidates

  -- one outside that comes no later doesn't fit beside the set
  pub record IsKeptOut (budget : ℕ) (c : X) : Type 0 where
    pub next : X
    pub candidate : Contains candidates next
    pub outside : is_in next ≡ false
    pub no_later : order c next ≢ Less
    pub beyond : budget < size_in + size next

  -- the set is closed downwards in the order, fits into the budget, and nothing more does
  pub record IsSentSet (budget : ℕ) : Type 0 where
    pub closed : (c d : X) → Contains candidates c → Contains candidates d
        → order c d ≡ Less → is_in d ≡ true → is_in c ≡ true
    pub within : size_in ≤ budget
    pub tight : (c : X) → Contains candidates c → is_in c ≡ false → IsKeptOut budget c

-- a delta has those of the candidates that are in the set, and cuts the others
pub record HasSet (candidates : List Item) (is_in : Item → Bool) (delta : DeltaView) : Type 0 where
  pub members : (c : Item) → Contains delta.items c ↔ (Contains candidates c × (is_in c ≡ true))
  pub count : length delta.items ≡ count_by is_in candidates
  pub cut : delta.cut ≡ count_by (λ c. not (is_in c)) candidates

-- between proper tables a delta has every such set
abbrev pub DeltasHaveTheirSets : Type 0
DeltasHaveTheirSets =
    (mode : Mode) (rotation : ℕ) (budget : Budget) (from to : Table) (is_in : Item → Bool)
    → IsProper from → rotation < from.nodes
    → IsSentSet (sending_order mode from.nodes rotation (candidates mode from to)) (candidates mode from to)
    (item_share budget) is_in (amount_of budget)
    → HasSet (candidates mode from to) is_in (delta_between mode rotation budget from to)
