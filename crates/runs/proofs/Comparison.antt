-- How far a comparison of the modes has been written.
-- Serves `compare`, `write_comparison` and `write_mode`.
use Rattle.runs.proofs.Common.{Ok, Err, Result, ◌≡◌, ℕ, zero, suc, ◌+◌, ◌<◌, ◌≤◌, ◌++◌, ◌∷◌, [], List, length, take, drop, get_or, inl, inr, refl, sym, ap, ◌∙◌, subst, append_assoc, arith, add-one, drop-cons, take-append-drop, flat_map-append, append-nil, take_all, take_more, flat_map, map-range_with_len_more, Mode, Fault, modes, compare_header_line, compare_line, compare_lines, IsWritten, IsWriteFault, Settings, with_mode, row_in}
use Rattle.bench_types.specs.declared.sinks.Sink.{Ghosts as Sink}
use Rattle.runs.specs.declared.outputs.ModeRows.{ModeRows}
use Rattle.runs.specs.Comparisons.{lines_upto, lines_under, comparison_of, comparison_text, IsComparingFault, IsFaultInLines}
use Rattle.runs.specs.Reports.{rows_upto}
use Rattle.runs.specs.Runs.{IsFaultAfter}
use Rattle.runs.specs.inner.Outputs.{KeepsRows, WritesRow, StopsInRow}
use Rattle.runs.specs.inner.Lines.{AnswersLines}
use Rattle.runs.specs.inner.Rounds.{AnswersRounds, AreWrittenInTurn, StopsInTurn, IsFaultInTurn}
use Rattle.runs.proofs.Turns.{fault_told}
use Rattle.runs.proofs.Texts.{written_then}

lines_more : (s : Settings) (rounds : ℕ) → lines_upto s (rounds + 1) ≡ lines_upto s rounds ++ compare_line s.format s.mode (row_in s (rounds + 1))
lines_more s rounds =
    ap (compare_lines s.format s.mode) (map-range_with_len_more (row_in s) 1 rounds (rounds + 1) (omega arith))
    ∙ flat_map-append (compare_line s.format s.mode) (rows_upto s rounds) (row_in s (rounds + 1) ∷ [])
    ∙ ap (λ l. lines_upto s rounds ++ l) (append-nil (compare_line s.format s.mode (row_in s (rounds + 1))))

-- what is kept in two steps
kept_then : {W : Type 0} (old now new : ModeRows W) → KeepsRows old now → KeepsRows now new → KeepsRows old new
kept_then old now new first second = record { format = second.format ∙ first.format; mode = second.mode ∙ first.mode; writer = second.writer ∙ first.writer }

-- the rows of a mode, behind a text
module _ {W : Type 0} (sink : Sink W) (s : Settings) (start : W) (old : ModeRows W) (whole : List ℕ)
    (format : old.format ≡ s.format) (mode : old.mode ≡ s.mode) (before : IsWritten sink start old.writer.now whole) where
  line_is : (now : ModeRows W) (rounds : ℕ) → KeepsRows old now → compare_line now.format now.mode (row_in s (rounds + 1)) ≡ compare_line s.format s.mode
      (row_in s (rounds + 1))
  line_is now rounds kept = λ i. compare_line ((kept.format ∙ format) i) ((kept.mode ∙ mode) i) (row_in s (rounds + 1))

  -- what was written round by round are its lines
  pub lines_written : (now : ModeRows W) (rounds : ℕ) → AreWrittenInTurn (WritesRow sink) s old now rounds
      → KeepsRows old now × IsWritten sink start now.writer.now (whole ++ lines_upto s rounds)
  lines_written now zero same =
      subst (λ (n : ModeRows W). KeepsRows old n × IsWritten sink start n.writer.now (whole ++ lines_upto s 0)) (sym same)
      (record { format = refl; mode = refl; writer = refl }, subst (IsWritten sink start old.writer.now) (sym (append-nil whole)) before)
  lines_written now (suc rounds) (then, so_far, next) =
      let upto = lines_written then rounds so_far in
      let step = rw (← add-one) at next in
      let text : whole ++ lines_upto s (rounds + 1) ≡ (whole ++ lines_upto s rounds) ++ compare_line s.format s.mode (row_in s (rounds + 1)) =
      ap (λ l. whole ++ l) (lines_more s rounds) ∙ sym (append_assoc whole (lines_upto s rounds) (compare_line s.format s.mode (row_in s (rounds + 1)))) in (
        kept_then old then now upto.0 next.kept,
        subst (λ n. IsWritten sink start now.writer.now (whole ++ lines_upto s n)) (add-one rounds)
            (subst (IsWritten sink start now.writer.now) (sym text)
            (written_then sink start then.writer.now now.writer.now (whole ++ lines_upto s rounds) (compare_line s.format s.mode (row_in s (rounds + 1)))
            upto.1 (subst (IsWritten sink then.writer.now now.writer.now) (line_is then rounds upto.0) step.row))),
      )

  -- and a fault among them is one among the lines
  stops_at_line : (now : ModeRows W) (fault : Fault) (rounds : ℕ) → StopsInTurn (WritesRow sink) (StopsInRow sink) s old now fault rounds
      → IsFaultAfter sink start now.writer.now (whole ++ lines_upto s rounds) (compare_line s.format s.mode (row_in s (rounds + 1))) fault
  stops_at_line now fault rounds (then, so_far, stop) =
      let upto = lines_written then rounds so_far in
      (then.writer.now, upto.1, subst (λ l. IsWriteFault sink then.writer.now now.writer.now l fault) (line_is then rounds upto.0) stop.stops)

  kept_at_fault : (now : ModeRows W) (workers : ℕ) (fault : Fault) → IsFaultInTurn (WritesRow sink) (StopsInRow sink) s old now workers fault
      → KeepsRows old now
  kept_at_fault now workers fault stop = elim stop.stops [
    | inl lost ↦ (lines_written now stop.rounds lost.1).0
    | inr (then, so_far, cut) ↦ kept_then old then now (lines_written then stop.rounds so_far).0 cut.kept
  ]

  -- what stands behind the end, once it is given back
  module _ (now : ModeRows W) (end : W) (writer : old.writer.ghost_name ≡ now.writer.ghost_name → end ≡ now.writer.now) where
    stops_in_lines : (workers : ℕ) (fault : Fault) → IsFaultInTurn (WritesRow sink) (StopsInRow sink) s old now workers fault
        → IsFaultInLines sink start end whole s workers fault
    stops_in_lines workers fault stop =
        subst (λ w. IsFaultInLines sink start w whole s workers fault) (sym (writer (sym (kept_at_fault now workers fault stop).writer)))
        (fault_told (λ rounds written. (lines_written now rounds written).1) (stops_at_line now fault) stop)

    all_lines : AreWrittenInTurn (WritesRow sink) s old now s.rounds → IsWritten sink start end (whole ++ lines_upto s s.rounds)
    all_lines written =
        let upto = lines_written now s.rounds written in
        subst (λ w. IsWritten sink start w (whole ++ lines_upto s s.rounds)) (sym (writer (sym upto.0.writer))) upto.1

-- what comes of the rounds is what comes of the lines
pub lines_of_rounds : {W : Type 0} (sink : Sink W) (s : Settings) (old now : ModeRows W) (end : W) (workers : ℕ) (answer : Result Settings Fault)
    → AnswersRounds (WritesRow sink) (StopsInRow sink) s old now workers answer → old.format ≡ s.format → old.mode ≡ s.mode
    → (old.writer.ghost_name ≡ now.writer.ghost_name → end ≡ now.writer.now) → AnswersLines sink old.writer.now end s workers answer
lines_of_rounds sink s old now end workers (Ok back) all format mode writer = record {
  same = all.same;
  written = λ start whole before. all_lines sink s start old whole format mode before now end writer all.written;
  fault = tt;
}
lines_of_rounds sink s old now end workers (Err fault) all format mode writer = record {
  same = tt;
  written = tt;
  fault = λ start whole before. stops_in_lines sink s start old whole format mode before now end writer workers fault all.fault;
}

-- the lines of so many modes are written, and the scenario at hand differs in its mode alone
pub record AreModesWritten {W : Type 0} (sink : Sink W) (start now : W) (s current : Settings) (i : ℕ) : Type 0 where
  pub same : (mode : Mode) → with_mode current mode ≡ with_mode s mode
  pub written : IsWritten sink start now (comparison_of s (take i modes))

-- the next mode
module _ {W : Type 0} (sink : Sink W) (start now end : W) (s current under : Settings) (i : ℕ) (d : Mode)
    (so_far : AreModesWritten sink start now s current i) (below : i < length modes) (under_is : under ≡ with_mode current (get_or modes i d)) where
  abbrev next_mode : Mode
  next_mode = get_or modes i d

  abbrev whole : List ℕ
  whole = comparison_of s (take i modes)

  is_under : under ≡ with_mode s next_mode
  is_under = under_is ∙ so_far.same next_mode

  parted : modes ≡ take i modes ++ (next_mode ∷ drop (i + 1) modes)
  parted = sym (take-append-drop i modes) ∙ ap (λ xs. take i modes ++ xs) (rw (add-one, drop-cons modes i d))

  modes_next : comparison_of s (take (i + 1) modes) ≡ whole ++ lines_under s next_mode
  modes_next =
      ap (comparison_of s) (take_more modes i d below)
      ∙ ap (λ l. (compare_header_line s.format) ++ l) (flat_map-append (lines_under s) (take i modes) (next_mode ∷ []))
      ∙ sym (append_assoc (compare_header_line s.format) (flat_map (lines_under s) (take i modes)) (lines_under s next_mode ++ []))
      ∙ ap (λ l. whole ++ l) (append-nil (lines_under s next_mode))

  pub stops_in_mode : (workers : ℕ) (fault : Fault)
      → ((start : W) (whole : List ℕ) → IsWritten sink start now whole → IsFaultInLines sink start end whole under workers fault)
      → IsComparingFault sink start end s workers fault
  stops_in_mode workers fault stop = inr (record {
    done = take i modes;
    next = next_mode;
    rest = drop (i + 1) modes;
    order = parted;
    stops = subst (λ (t : Settings). IsFaultInLines sink start end whole t workers fault) is_under (stop start whole so_far.written);
  })

  pub modes_more : (back : Settings) → back ≡ under
      → ((start : W) (whole : List ℕ) → IsWritten sink start now whole → IsWritten sink start end (whole ++ lines_upto under under.rounds))
      → AreModesWritten sink start end s back (i + 1)
  modes_more back back_is written = record {
    same = λ mode. ap (λ (t : Settings). with_mode t mode) (back_is ∙ is_under);
    written = subst (IsWritten sink start end) (sym modes_next)
        (subst (λ (t : Settings). IsWritten sink start end (whole ++ lines_upto t t.rounds)) is_under (written start whole so_far.written));
  }

-- before the first mode the header is written, and behind the last one the whole text
pub none_written : {W : Type 0} (sink : Sink W) (start now : W) (s : Settings) (format : ℕ) → format ≡ s.format
    → IsWritten sink start now (compare_header_line format) → AreModesWritten sink start now s s 0
none_written sink start now s format is header = record {
  same = λ mode. refl;
  written = subst (IsWritten sink start now) (ap compare_header_line is ∙ sym (append-nil (compare_header_line s.format))) header;
}

pub all_written : {W : Type 0} (sink : Sink W) (start now : W) (s current : Settings) (i : ℕ) → AreModesWritten sink start now s current i
    → length modes ≤ i → IsWritten sink start now (comparison_text s)
unfolding comparison_text
all_written sink start now s current i so_far all = subst (λ ms. IsWritten sink start now (comparison_of s ms)) (take_all i modes all) so_far.written

-- under another mode it is the same
pub own_mode : (s : Settings) (mode : Mode) → comparison_text (with_mode s mode) ≡ comparison_text s
unfolding comparison_text
own_mode s mode = refl
