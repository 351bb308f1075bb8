-- Tables that were moved into slots. Source: this project.
use Rattle.std.specs.Prelude.{◌≡◌, ◌≤◌, List, [], length, map, Option, Vec, vec_capacity}
use Rattle.std.specs.declared.alloc.Global.{Global}
use Rattle.dependencies.specs.inner.Slots.{in_place}

-- each in its place, and there is room for all where they were
pub record AreInSlots {T : Type 0} (tables : List T) (slots : List (Option T)) (room : Vec T Global) : Type 0 where
  pub placed : slots ≡ map in_place tables
  pub empty : room.items ≡ []
  pub fits : length tables ≤ vec_capacity room
