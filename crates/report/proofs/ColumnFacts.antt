-- The cells of a line, pushed column by column.
-- Serves `Told::cell` and `push_columns`.
use Rattle.std.proofs.Common.{◌≡◌, ℕ, ◌<◌, ◌≤◌, Bool, true, nat_le, List, ◌++◌, length, take, get_or, map, filter, ap, sym, refl, false, ◌+◌, ◌∷◌, [], ◌∙◌, append_assoc, append-nil, length-append, arith}
use Rattle.std.specs.Prelude.{IsTrue}
use Rattle.std.specs.List.{list_all}
use Rattle.std.proofs.lemmas.Bool.{le-leb, lt-leb}
use Rattle.std.proofs.lemmas.List.{take_all, length-map, map-append}
use Rattle.std.proofs.lemmas.List.Elements.{filter_more}
use Rattle.std.proofs.lemmas.List.Folds.{list_all-append}
use Rattle.report.specs.inner.Cells.{cell_text, is_plain, is_plain_cell, AddsCells}
use Rattle.report.specs.Columns.{rule_of, all_columns, columns}
use Rattle.report.specs.declared.cells.Cell.{Cell}
use Rattle.report.specs.declared.columns.Column.{Column}
use Rattle.report.specs.declared.columns.Column.TheVariants as column

abbrev pub is_in : ℕ → Column → Bool
is_in format c = nat_le (rule_of c).since format

-- behind the old cells stand the texts of those of the first i columns that a format has
pub record ArePushed (text : Column → List ℕ) (format i : ℕ) (old now : List Cell) : Type 0 where
  pub shown : map cell_text now ≡ map cell_text old ++ map text (filter (is_in format) (take i all_columns))
  pub plain : IsTrue (list_all is_plain_cell now)

module _ (text : Column → List ℕ) (format : ℕ) (old : List Cell) where
  -- each format has some column
  some_columns : 1 ≤ format → 0 < length (columns format)
  unfolding columns
  some_columns some =
      let first : nat_le 1 format ≡ true = le-leb 1 format some in
      rw first (omega arith)

  -- all are pushed
  pub all_pushed : 1 ≤ format → (i : ℕ) (now : List Cell) → length all_columns ≤ i → ArePushed text format i old now
      → AddsCells old now (map text (columns format))
  unfolding columns
  all_pushed some i now past pushed =
      let shown : map cell_text now ≡ map cell_text old ++ map text (columns format) =
      pushed.shown ∙ ap (λ cs. map cell_text old ++ map text (filter (is_in format) cs)) (take_all i all_columns past) in
      record {
        shown = shown;
        plain = pushed.plain;
        some = omega (
          arith,
          length-map now cell_text,
          ap length shown,
          length-append (map cell_text old) (map text (columns format)),
          some_columns some,
          length-map (columns format) text,
        );
      }

module _ (text : Column → List ℕ) (format : ℕ) (old : List Cell) (i : ℕ) (d : Column) (now new : List Cell) (since : ℕ) (below : i < length all_columns) where
  -- a column that a format hasn't is passed over
  pub pushed_none : format < since → since ≡ (rule_of (get_or all_columns i d)).since → new ≡ now → ArePushed text format i old now
      → ArePushed text format (i + 1) old new
  pushed_none later is same so_far =
      let out : is_in format (get_or all_columns i d) ≡ false = rw (sym is) (lt-leb since format later) in
      let more : filter (is_in format) (take (i + 1) all_columns) ≡ filter (is_in format) (take i all_columns) =
      rw out at (filter_more (is_in format) all_columns i d below) ∙ append-nil _ in
      record {
        shown = ap (map cell_text) same ∙ so_far.shown ∙ ap (λ cs. map cell_text old ++ map text cs) (sym more);
        plain = rw same so_far.plain;
      }

  -- another is pushed
  pub pushed_more : (cell : Cell) → cell_text cell ≡ text (get_or all_columns i d) → is_plain_cell cell ≡ true → since ≤ format
      → since ≡ (rule_of (get_or all_columns i d)).since → new ≡ now ++ cell ∷ [] → ArePushed text format i old now → ArePushed text format (i + 1) old new
  pushed_more cell shows plain since_then is added so_far =
      let front : List Column = filter (is_in format) (take i all_columns) in
      let there : is_in format (get_or all_columns i d) ≡ true = rw (sym is) (le-leb since format since_then) in
      let more : filter (is_in format) (take (i + 1) all_columns) ≡ front ++ get_or all_columns i d ∷ [] =
      rw there at (filter_more (is_in format) all_columns i d below) in
      record {
        shown = rw (added, map-append cell_text now (cell ∷ []), so_far.shown, more, map-append text front (get_or all_columns i d ∷ []), shows)
            (append_assoc (map cell_text old) (map text front) (text (get_or all_columns i d) ∷ []));
        plain = rw (added, list_all-append is_plain_cell now (cell ∷ []), so_far.plain, plain) refl;
      }

pub plain_name : (c : Column) → is_plain (rule_of c).name ≡ true
plain_name column.Round = refl
plain_name column.Exchanges = refl
plain_name column.Unreached = refl
plain_name column.Lost = refl
plain_name column.Entries = refl
plain_name column.Cut = refl
plain_name column.Stale = refl
plain_name column.Greatest = refl
plain_name column.Leftover = refl
