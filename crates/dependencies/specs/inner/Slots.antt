-- Tables in their slots. Source: this project.
use Rattle.std.specs.Prelude.{Option, Some}

-- a table in its place, whatever its representation is
abbrev pub in_place : {T : Type 0} → T → Option T
in_place kept = Some kept
