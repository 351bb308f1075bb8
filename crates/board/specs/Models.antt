-- The slots of a board and what a seat carries, with each table in memory seen as the model's table.
-- Source: this project.
use Rattle.std.specs.Prelude.{ℕ, List, map, Option, Some, None}
use mathlib.Core.Option.{some, none}
use Rattle.model.specs.Table.{Table}
use Rattle.atomic_table.specs.Table.{State, Me, Step}
use Rattle.board.specs.Rule.{Slot, Home}
use Rattle.board.specs.Seats.{Sat}
use Rattle.board.specs.declared.views.View.{View}

module _ {T : Type 0} (table : T → Table) where
  abbrev pub slot_model : Option T → Slot
  slot_model None = None
  slot_model (Some kept) = Some (table kept)

  abbrev pub home_model : mathlib.Core.Option.Option (Option T) → Home
  home_model none = none
  home_model (some slot) = some (slot_model slot)

  abbrev pub state_model : State (Option T) View → State Slot View
  state_model s = record { words = s.words; homes = map home_model s.homes; views = s.views }

  abbrev pub carried_model : List (ℕ × Option T) → List (ℕ × Slot)
  carried_model carried = map (λ c. (c.0, slot_model c.1)) carried

  abbrev pub seat_model : Me (Option T) View → Sat
  seat_model m = (m.0, carried_model m.1)

  abbrev pub step_model : Step (Option T) → Step Slot
  step_model st = record {
    slots = st.slots;
    word = st.word;
    first = st.first;
    second = st.second;
    said = home_model st.said;
  }

  -- what a step tells, of the models of the step and of the seat before and after
  abbrev pub TellsOf :
      (Step Slot → Sat → ℕ → Sat → Type 0)
      → Step (Option T) → Me (Option T) View → ℕ → Me (Option T) View → Type 0
  TellsOf told st m r n = told (step_model st) (seat_model m) r (seat_model n)
