-- The fields of a line.
-- Serves `put_line` and `put_number`.
use Rattle.std.proofs.Common.{◌≡◌, ◌==◌, ◌∙◌, ◌++◌, ◌∷◌, ◌^◌, ◌<◌, ◌+◌, ◌%◌, [], ℕ, List, refl, sym, true, false, length, take, get_or, arith, append_assoc, suc}
use Rattle.std.specs.Prelude.{decimal, map, if◌then◌else◌, is_ok, OnOk, Result, Ok, Err}
use Rattle.std.specs.List.{join_with_byte}
use Rattle.std.specs.declared.alloc.Global.{Global}
use Rattle.std.specs.Prelude.{Vec}
use Rattle.std.proofs.lemmas.Bool.{ne_eqb}
use Rattle.std.proofs.lemmas.Bool.Decides.{nat_tests}
use Rattle.std.proofs.lemmas.Fmt.{decimal_by_steps, decimal_nonempty}
use Rattle.std.proofs.lemmas.List.{length-map, length-take, map-append, take_all, take_more}
use Rattle.std.proofs.lemmas.List.Folds.{list_any-append}
use Rattle.csv.specs.Quoting.{needs_byte}
use Rattle.csv.specs.Writing.{default_writer, needs_quotes, fields_written, has_written, tail_text, writer_setup}
use Rattle.csv.specs.declared.writer.Writer.{Writer}
use Rattle.report.specs.Line.{line_of}
use Rattle.report.specs.inner.Cells.{comma, cell_text, comma_before, is_plain, bytes_written, AddsField}
use Rattle.report.specs.declared.cells.Cell.{Cell}

-- a digit calls for no quotes
needs_byte-digit : (d : ℕ) → d < 10 → needs_byte default_writer (48 + d) ≡ false
needs_byte-digit d small = grind (arith, nat_tests)

-- nor does a number
pub needs_quotes-decimal : (n : ℕ) → n < 2 ^ 64 → needs_quotes default_writer (decimal n) ≡ false
needs_quotes-decimal =
    decimal_by_steps (λ n ds. needs_quotes default_writer ds ≡ false)
    (λ n small. rw (needs_byte-digit n small) refl)
    (λ n ds large front. rw (list_any-append (needs_byte default_writer) ds ((48 + n % 10) ∷ []), front, needs_byte-digit (n % 10) (omega arith)) refl)

pub is_plain-decimal : (n : ℕ) → n < 2 ^ 64 → is_plain (decimal n) ≡ true
is_plain-decimal n fits =
    let some : 0 < length (decimal n) = decimal_nonempty n fits in
    rw (ne_eqb (length (decimal n)) 0 (λ e. omega arith), needs_quotes-decimal n fits) refl

-- what stands before the field at this place of a line
abbrev pub comma_at : ℕ → List ℕ
comma_at i = if i == 0 then [] else comma ∷ []

comma_at-suc : (n : ℕ) → comma_at (suc n) ≡ comma ∷ []
comma_at-suc n = rw (ne_eqb (suc n) 0 (λ e. cc e)) refl

-- one more field
join_with_byte-snoc : (xs : List (List ℕ)) (x : List ℕ) → join_with_byte comma (xs ++ x ∷ []) ≡ join_with_byte comma xs ++ (comma_at (length xs) ++ x)
join_with_byte-snoc [] x = refl
join_with_byte-snoc (y ∷ []) x = refl
join_with_byte-snoc (y ∷ z ∷ rest) x =
    let more = rw (comma_at-suc (length rest)) at (join_with_byte-snoc (z ∷ rest) x) in
    rw (comma_at-suc (suc (length rest)), more) (sym (append_assoc y (comma ∷ join_with_byte comma (z ∷ rest)) _))

-- the writer has written these many cells of a line
pub record LineSoFar (old now : Writer (Vec ℕ Global)) (cells : List Cell) (i : ℕ) : Type 0 where
  pub setup : writer_setup now ≡ default_writer
  pub before : comma_before now ≡ comma_at i
  pub wrote : 0 < i → has_written now ≡ true
  pub text : bytes_written now ≡ bytes_written old ++ join_with_byte comma (map cell_text (take i cells))

-- one more cell
pub so_far_more : (old now new : Writer (Vec ℕ Global)) (cells : List Cell) (i : ℕ) (d : Cell) → LineSoFar old now cells i
    → i < length cells → AddsField now new (cell_text (get_or cells i d)) → LineSoFar old new cells (i + 1)
so_far_more old now new cells i d so_far below added =
    let front = map cell_text (take i cells) in
    let size : length front ≡ i = rw (length-map (take i cells) cell_text) (omega (arith, length-take i cells)) in
    let next = cell_text (get_or cells i d) in
    let whole : map cell_text (take (i + 1) cells) ≡ front ++ (next ∷ []) =
    rw (take_more cells i d below) (map-append cell_text (take i cells) (get_or cells i d ∷ [])) in
    let joined : join_with_byte comma (front ++ (next ∷ [])) ≡ join_with_byte comma front ++ (comma_at i ++ next) =
    rw size at (join_with_byte-snoc front next) in
    record {
      setup = added.setup;
      before = rw (ne_eqb (fields_written new) 0 (λ e. omega arith), ne_eqb (i + 1) 0 (λ e. omega arith)) refl;
      wrote = λ _. added.wrote;
      text = added.text ∙ rw (so_far.text, so_far.before, whole, joined) (append_assoc (bytes_written old) (join_with_byte comma front) _);
    }

-- the end of the line
pub so_far_end : (old now new : Writer (Vec ℕ Global)) (cells : List Cell) (i : ℕ) → LineSoFar old now cells i → i ≡ length cells → 0 < length cells
    → bytes_written new ≡ bytes_written now ++ tail_text (writer_setup now) (has_written now) (fields_written now)
    → bytes_written new ≡ bytes_written old ++ line_of (map cell_text cells)
unfolding line_of
so_far_end old now new cells i so_far all some text =
    let wrote = so_far.wrote (omega arith) in
    let whole : take i cells ≡ cells = take_all i cells (omega arith) in
    let line = rw whole at so_far.text in
    text ∙ rw (so_far.setup, wrote, line) (append_assoc (bytes_written old) (join_with_byte comma (map cell_text cells)) _)

-- what holds where a call went well does where its error was mapped
pub on_ok_mapped : {T E F : Type 0} (P : Type 0) (r : Result T E) (s : Result T F) → is_ok s ≡ is_ok r → OnOk r P → OnOk s P
on_ok_mapped P (Ok x) (Ok y) same p = p
on_ok_mapped P (Ok x) (Err y) same p = tt
on_ok_mapped P (Err x) (Ok y) same p = cc
on_ok_mapped P (Err x) (Err y) same p = tt
