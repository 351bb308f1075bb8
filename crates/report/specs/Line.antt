-- A line of a text of comma-separated fields: the fields with one comma, which is byte 44, between each two, and one
-- line feed, byte 10, at the end. No field is quoted, since none has a byte that would call for it. Source: this
-- project.
use Rattle.std.specs.Prelude.{ℕ, List, [], ◌∷◌, ◌++◌}
use Rattle.std.specs.List.{join_with_byte}

unfoldable pub line_of : List (List ℕ) → List ℕ
line_of fields = join_with_byte 44 fields ++ (10 ∷ [])
