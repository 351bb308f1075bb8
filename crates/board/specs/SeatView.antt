-- What contracts see of a seat, with which one thread uses a board. Source: this project.
use Rattle.std.specs.Prelude.{◌≡◌, ℕ, ◌+◌, ◌-◌, Bool, true, false, ◌==◌, ◌||◌, if◌then◌else◌, nat_le, Option, List, [], ◌∷◌, ◌++◌}
use Rattle.dependencies.specs.Neighbours.{as_list}

pub record SeatView : Type 0 where
  -- the exchanges that it has put back, in order
  pub made : List ℕ
  -- those that it has claimed and not put back
  pub held : List ℕ
  -- those that its releases made ready
  pub freed : List ℕ
  -- those that it was told are taken
  pub told : List ℕ
  -- those that were put back before it was split off, as far as its parent knew
  pub known : List ℕ
  -- the greatest count of finished exchanges that it has seen
  pub seen : ℕ
  -- it knows of a stop
  pub is_stopped : Bool
  -- it has called for a stop
  pub is_halted : Bool
  pub parts : ℕ

-- how many parts all seats of a board have together
abbrev pub ALL_PARTS : ℕ
ALL_PARTS = 65536

-- the seats of the board have been joined, all of them, to this one
abbrev pub IsWhole : SeatView → Type 0
IsWhole v = v.parts ≡ ALL_PARTS

abbrev pub first_seat : SeatView
first_seat = record {
  made = [];
  held = [];
  freed = [];
  told = [];
  known = [];
  seen = 0;
  is_stopped = false;
  is_halted = false;
  parts = ALL_PARTS;
}

-- a split moves one part to a new seat, which knows what was put back as far as this one knows
abbrev pub split_left : SeatView → SeatView
split_left v = record {
  made = v.made;
  held = v.held;
  freed = v.freed;
  told = v.told;
  known = v.known;
  seen = v.seen;
  is_stopped = v.is_stopped;
  is_halted = v.is_halted;
  parts = v.parts - 1;
}

abbrev pub split_right : SeatView → SeatView
split_right v = record {
  made = [];
  held = [];
  freed = [];
  told = [];
  known = v.known ++ v.made;
  seen = v.seen;
  is_stopped = v.is_stopped;
  is_halted = false;
  parts = 1;
}

abbrev pub joined : SeatView → SeatView → SeatView
joined v w = record {
  made = v.made ++ w.made;
  held = v.held ++ w.held;
  freed = v.freed ++ w.freed;
  told = v.told ++ w.told;
  known = v.known ++ w.known;
  seen = if nat_le v.seen w.seen then w.seen else v.seen;
  is_stopped = v.is_stopped || w.is_stopped;
  is_halted = v.is_halted || w.is_halted;
  parts = v.parts + w.parts;
}

-- a list with one index taken out, where it stands first
abbrev pub without : ℕ → List ℕ → List ℕ
without i [] = []
without i (x ∷ xs) = if x == i then xs else x ∷ without i xs

-- What a call makes of a seat.

abbrev pub with_held : SeatView → ℕ → SeatView
with_held v i = record v { held = v.held ++ i ∷ [] }

abbrev pub with_told : SeatView → ℕ → SeatView
with_told v i = record v { told = v.told ++ i ∷ [] }

abbrev pub without_held : SeatView → ℕ → SeatView
without_held v i = record v { held = without i v.held }

-- an exchange is put back, and so many were finished before it, as the count says
abbrev pub with_made : SeatView → ℕ → ℕ → Bool → SeatView
with_made v i finished is_stopped = record v { made = v.made ++ i ∷ []; seen = finished + 1; is_stopped = is_stopped }

-- an exchange is made ready, if any
abbrev pub freed_by : SeatView → Option ℕ → SeatView
freed_by v named = record v { freed = v.freed ++ as_list named }

abbrev pub having_seen : SeatView → ℕ → Bool → SeatView
having_seen v finished is_stopped = record v { seen = finished; is_stopped = is_stopped }

abbrev pub having_stopped : SeatView → ℕ → SeatView
having_stopped v finished = record v { seen = finished; is_stopped = true; is_halted = true }
