-- The rule of trays: whoever finds one free finds nothing in it, or what it may hold. Source: this project.
use Rattle.std.specs.Prelude.{◌≡◌, ℕ, ◌<◌, [], ◌∷◌, length, slice_index, Option, IfSome}
use mathlib.Core.Option.{some}
use lib.ListN.{get_elem?}
use Rattle.atomic_table.specs.Table.{State, Me}

module _ {X V : Type 0} where
  -- the tray is at home, and what it holds it may hold
  abbrev pub IsKeptAt : (ℕ → X → Type 0) → State (Option X) V → ℕ → Type 0
  IsKeptAt kept s i = (held : Option X) × (get_elem? s.homes i ≡ some (some held)) × IfSome held (kept i)

  -- a word of 0 says that a tray is free
  pub record AreTraysKept (kept : ℕ → X → Type 0) (s : State (Option X) V) : Type 0 where
    pub words : length s.words ≡ length s.homes
    pub free : (i : ℕ) → i < length s.homes → slice_index s.words i ≡ 0 → IsKeptAt kept s i

  -- this tray is out with a thread, and what it held it might hold
  abbrev pub IsTrayOpened : (X → Type 0) → ℕ → Me (Option X) V → Type 0
  IsTrayOpened kept i m = (held : Option X) × (m.1 ≡ (i, held) ∷ []) × IfSome held kept
