-- One owner's numbers, key by key. Source: this project.
use Rattle.std.specs.Prelude.{◌≡◌, ℕ, ◌≤◌, ◌==◌, List, map, if◌then◌else◌}
use Rattle.grids.specs.Common.{cell, count_above, number_raised, ArePlanesChanged, IsRaised, Sent}
use Rattle.grids.specs.Grids.{taken_by}

-- an owner's numbers once they were raised to those of another table that are above a mark, and so many are
pub record HasRaisedOwner {N : Type 0} (number : N → ℕ) (nodes keys owner : ℕ) (others : List N) (low : N)
    (old new : List N) (raised : ℕ) : Type 0 where
  pub cells : ArePlanesChanged (λ r k x y. y ≡ (if r == owner then number_raised x (cell (map number others) nodes r k)
      (number low) else x)) nodes keys (map number old) (map number new)
  pub upto : raised ≤ keys
  pub count : raised ≡ count_above (cell (map number others) nodes) keys owner (number low)

-- an owner's numbers once it took what is sent, and the greatest of them then, which was another one before
pub record HasTakenOwner {N : Type 0} (number : N → ℕ) (sent : Sent N) (owner : ℕ) (old : List N) (had : N)
    (new : List N) (now : N) : Type 0 where
  pub cells : ArePlanesChanged (λ r k x y. y ≡ (if r == owner then taken_by number sent r k x else x))
      sent.grid.size.nodes sent.grid.size.keys (map number old) (map number new)
  pub greatest : IsRaised (λ r k. taken_by number sent r k (cell (map number old) sent.grid.size.nodes r k))
      sent.grid.size.keys owner (number had) (number now)
