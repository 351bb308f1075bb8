-- The rows of a round, on their way into memory.
-- Serves `make_rows`.
use Rattle.std.proofs.Common.{◌≡◌, ℕ, ◌+◌, ◌<◌, List, ◌++◌, length, get_or, drop, sym, ap, ◌∙◌, append_assoc, add-one, drop-cons}
use Rattle.std.specs.declared.alloc.Global.{Global}
use Rattle.std.specs.Prelude.{Vec}
use Rattle.csv.specs.declared.writer.Writer.{Writer}
use Rattle.bench_types.specs.declared.exchanges.Exchange.{Exchange}
use Rattle.bench_types.specs.declared.exchanges.Record.{Record}
use Rattle.report.specs.inner.Cells.{bytes_written, IsBetweenLines}
use Rattle.report.specs.Trace.{trace_line, trace_lines, trace_lines_from}

-- the rows of the first i exchanges are written, and those that are still owed make the whole
pub record RowsSoFar (round : ℕ) (es : List Exchange) (rs : List Record) (lines : Writer (Vec ℕ Global)) (i : ℕ) : Type 0 where
  pub between : IsBetweenLines lines
  pub whole : bytes_written lines ++ trace_lines_from round i (drop i es) (drop i rs) ≡ trace_lines round es rs

-- the next row is the first of those that are owed
next_row : (round i : ℕ) (es : List Exchange) (rs : List Record) (e : Exchange) (r : Record) → i < length es → i < length rs
    → trace_lines_from round i (drop i es) (drop i rs) ≡ trace_line round i (get_or es i e) (get_or rs i r) ++ trace_lines_from round (i + 1) (drop (i + 1) es) (drop (i + 1) rs)
next_row round i es rs e r in_list in_records = rw (drop-cons es i e, drop-cons rs i r, add-one i)

-- one more row
pub rows_more : (round i : ℕ) (es : List Exchange) (rs : List Record) (e : Exchange) (r : Record) (lines lines' : Writer (Vec ℕ Global)) → i < length es → i < length rs
    → RowsSoFar round es rs lines i → IsBetweenLines lines' → bytes_written lines' ≡ bytes_written lines ++ trace_line round i (get_or es i e) (get_or rs i r) → RowsSoFar round es rs lines' (i + 1)
rows_more round i es rs e r lines lines' in_list in_records so_far between added = record {
  between = between;
  whole =
      ap (λ text. text ++ trace_lines_from round (i + 1) (drop (i + 1) es) (drop (i + 1) rs)) added
      ∙ append_assoc (bytes_written lines) _ _
      ∙ ap (λ text. bytes_written lines ++ text) (sym (next_row round i es rs e r in_list in_records))
      ∙ so_far.whole;
}
