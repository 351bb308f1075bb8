-- The text of a cell of a line, and what the writer of lines holds. Source: this project.
use Rattle.std.specs.Prelude.{◌≡◌, ◌==◌, ◌<◌, ◌&&◌, not, Bool, true, false, ℕ, List, [], ◌∷◌, ◌++◌, if◌then◌else◌, length, map, decimal, Vec, IsTrue}
use Rattle.std.specs.List.{list_all}
use Rattle.std.specs.declared.alloc.Global.{Global}
use Rattle.csv.specs.declared.writer.Writer.{Writer}
use Rattle.csv.specs.Writing.{default_writer, needs_quotes, fields_written, has_written, writer_pending, writer_setup, writer_under}
use Rattle.report.specs.declared.cells.Cell.{Cell}
use Rattle.report.specs.declared.cells.Cell.TheVariants.{Text, Number}

abbrev pub cell_text : Cell → List ℕ
cell_text (Text text) = text.now
cell_text (Number number) = decimal number

-- whether a field stands in a line as it is: it shows something, and has no byte that calls for quotes
abbrev pub is_plain : List ℕ → Bool
is_plain field = not (length field == 0) && not (needs_quotes default_writer field)

-- whether the text of a cell does; a number's always does
abbrev pub is_plain_cell : Cell → Bool
is_plain_cell (Text text) = is_plain text.now
is_plain_cell (Number number) = true

-- what a writer of lines has written
abbrev pub bytes_written : Writer (Vec ℕ Global) → List ℕ
bytes_written lines = (writer_under lines).items ++ writer_pending lines

abbrev pub comma : ℕ
comma = 44

-- what stands before the next field: a comma, where one was written in this line
abbrev pub comma_before : Writer (Vec ℕ Global) → List ℕ
comma_before lines = if fields_written lines == 0 then [] else comma ∷ []

-- the writer stands between two lines
pub record IsBetweenLines (lines : Writer (Vec ℕ Global)) : Type 0 where
  pub setup : writer_setup lines ≡ default_writer
  pub fields : fields_written lines ≡ 0
  pub wrote : has_written lines ≡ false

-- the writer has added this field to a line
pub record AddsField (old new : Writer (Vec ℕ Global)) (field : List ℕ) : Type 0 where
  pub setup : writer_setup new ≡ default_writer
  pub fields : 0 < fields_written new
  pub wrote : has_written new ≡ true
  pub text : bytes_written new ≡ bytes_written old ++ (comma_before old ++ field)

-- cells of these texts stand behind the old ones; there are some cells, and each stands in a line as it is
pub record AddsCells (old new : List Cell) (texts : List (List ℕ)) : Type 0 where
  pub shown : map cell_text new ≡ map cell_text old ++ texts
  pub plain : IsTrue (list_all is_plain_cell new)
  pub some : 0 < length new
