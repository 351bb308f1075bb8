-- How far the report and the trace have been written.
-- Serves `write_headers` and `write_run`.
use Rattle.runs.proofs.Common.{◌≡◌, ℕ, zero, suc, ◌+◌, ◌++◌, ◌∷◌, [], inl, inr, refl, sym, ap, ◌∙◌, subst, transport, append_assoc, arith, add-one, flat_map-append, range_with_len, append-nil, map-id, map-range_with_len_more, Fault, IsWritten, IsWriteFault, trace_header_line, report_header_line, report_line, report_lines, Settings, row_in}
use Rattle.bench_types.specs.declared.sinks.Sink.{Ghosts as Sink}
use Rattle.runs.specs.declared.outputs.ReportAndTrace.{ReportAndTrace}
use Rattle.runs.specs.Reports.{rows_upto, trace_in, traces_upto, report_upto, trace_upto, report_text, trace_text}
use Rattle.runs.specs.Runs.{AreWritten, AreWrittenUpto, IsWritingFault, StopsInRound, at_lines, at_row, in_rounds}
use Rattle.runs.specs.inner.Outputs.{KeepsTexts, WritesTexts, StopsInTexts}
use Rattle.runs.specs.inner.Rounds.{AreWrittenInTurn, StopsInTurn, IsFaultInTurn}
use Rattle.runs.proofs.Turns.{fault_told}
use Rattle.runs.proofs.Texts.{written_then}

range_more : (n : ℕ) → range_with_len 1 (n + 1) ≡ range_with_len 1 n ++ ((n + 1) ∷ [])
range_more n =
    sym (map-id (range_with_len 1 (n + 1)))
    ∙ map-range_with_len_more (λ (x : ℕ). x) 1 n (n + 1) (omega arith)
    ∙ ap (λ xs. xs ++ ((n + 1) ∷ [])) (map-id (range_with_len 1 n))

report_more : (s : Settings) (rounds : ℕ) → report_upto s (rounds + 1) ≡ report_upto s rounds ++ report_line s.format (row_in s (rounds + 1))
report_more s rounds =
    ap (λ rows. (report_header_line s.format) ++ report_lines s.format rows) (map-range_with_len_more (row_in s) 1 rounds (rounds + 1) (omega arith))
    ∙ ap (λ lines. (report_header_line s.format) ++ lines) (flat_map-append (report_line s.format) (rows_upto s rounds) (row_in s (rounds + 1) ∷ []))
    ∙ sym (append_assoc (report_header_line s.format) (report_lines s.format (rows_upto s rounds)) (report_line s.format (row_in s (rounds + 1)) ++ []))
    ∙ ap (λ line. report_upto s rounds ++ line) (append-nil (report_line s.format (row_in s (rounds + 1))))

trace_more : (s : Settings) (rounds : ℕ) → trace_upto s (rounds + 1) ≡ trace_upto s rounds ++ trace_in s (rounds + 1)
trace_more s rounds =
    ap (λ rs. trace_header_line ++ Rattle.std.specs.Prelude.flat_map (trace_in s) rs) (range_more rounds)
    ∙ ap (λ lines. trace_header_line ++ lines) (flat_map-append (trace_in s) (range_with_len 1 rounds) ((rounds + 1) ∷ []))
    ∙ sym (append_assoc trace_header_line (traces_upto s rounds) (trace_in s (rounds + 1) ++ []))
    ∙ ap (λ lines. trace_upto s rounds ++ lines) (append-nil (trace_in s (rounds + 1)))

-- both headers
pub headers_written : {W X : Type 0} (sink : Sink W) (sink' : Sink X) (s : Settings) (start end : W) (start' end' : X) (format : ℕ) → format ≡ s.format
    → IsWritten sink start end (report_header_line format) → IsWritten sink' start' end' trace_header_line → AreWrittenUpto sink start end sink' start' end' s 0
headers_written sink sink' s start end start' end' format is report trace = record {
  report = subst (IsWritten sink start end) (ap report_header_line is ∙ sym (append-nil (report_header_line s.format))) report;
  trace = subst (IsWritten sink' start' end') (sym (append-nil trace_header_line)) trace;
}

-- what is kept in two steps
kept_then : {W X : Type 0} (old now new : ReportAndTrace W X) → KeepsTexts old now → KeepsTexts now new → KeepsTexts old new
kept_then old now new first second = record { format = second.format ∙ first.format; writer = second.writer ∙ first.writer; trace = second.trace ∙ first.trace }

module _ {W X : Type 0} (sink : Sink W) (sink' : Sink X) (s : Settings) (start : W) (start' : X) (old : ReportAndTrace W X)
    (format : old.format ≡ s.format) (headers : AreWrittenUpto sink start old.writer.now sink' start' old.trace.now s 0) where
  abbrev Upto : ReportAndTrace W X → ℕ → Type 0
  Upto now rounds = AreWrittenUpto sink start now.writer.now sink' start' now.trace.now s rounds

  -- the next round's lines, and its row
  report_next : (now : ReportAndTrace W X) (new : W) (rounds : ℕ) → KeepsTexts old now → IsWritten sink start now.writer.now (report_upto s rounds)
      → IsWritten sink now.writer.now new (report_line now.format (row_in s (rounds + 1))) → IsWritten sink start new (report_upto s (rounds + 1))
  report_next now new rounds kept so_far row =
      subst (IsWritten sink start new) (sym (report_more s rounds))
      (written_then sink start now.writer.now new (report_upto s rounds) (report_line s.format (row_in s (rounds + 1))) so_far
      (subst (λ f. IsWritten sink now.writer.now new (report_line f (row_in s (rounds + 1)))) (kept.format ∙ format) row))

  trace_next : (now : ReportAndTrace W X) (new : X) (rounds : ℕ) → IsWritten sink' start' now.trace.now (trace_upto s rounds)
      → IsWritten sink' now.trace.now new (trace_in s (rounds + 1)) → IsWritten sink' start' new (trace_upto s (rounds + 1))
  trace_next now new rounds so_far lines =
      subst (IsWritten sink' start' new) (sym (trace_more s rounds)) (written_then sink' start' now.trace.now new (trace_upto s rounds)
      (trace_in s (rounds + 1)) so_far lines)

  -- what was written round by round are the two texts
  texts_upto : (now : ReportAndTrace W X) (rounds : ℕ) → AreWrittenInTurn (WritesTexts sink sink') s old now rounds → KeepsTexts old now × Upto now rounds
  texts_upto now zero same =
      subst (λ n. KeepsTexts old n × Upto n 0) (sym same) (record { format = refl; writer = refl; trace = refl }, headers)
  texts_upto now (suc rounds) (before, so_far, next) =
      let upto = texts_upto before rounds so_far in
      let step = rw (← add-one) at next in (
        kept_then old before now upto.0 next.kept,
        subst (Upto now) (add-one rounds)
            (record {
              report = report_next before now.writer.now rounds upto.0 upto.1.report step.row;
              trace = trace_next before now.trace.now rounds
                  upto.1.trace step.lines;
            }),
      )

  -- and a fault among them is one among the texts
  stops_in_round : (now : ReportAndTrace W X) (fault : Fault) (rounds : ℕ) → StopsInTurn (WritesTexts sink sink') (StopsInTexts sink sink') s old now
      fault rounds → StopsInRound sink start now.writer.now sink' start' now.trace.now s rounds fault
  stops_in_round now fault rounds (before, so_far, stop) =
      let upto = texts_upto before rounds so_far in
      elim stop.stops [
        | inl lines ↦ at_lines (subst (λ w. IsWritten sink start w (report_upto s rounds)) (sym lines.1) upto.1.report)
            (before.trace.now, upto.1.trace, lines.0)
        | inr row ↦ at_row (trace_next before now.trace.now rounds upto.1.trace row.0) (
          before.writer.now,
          upto.1.report,
          subst (λ f. IsWriteFault sink before.writer.now now.writer.now (report_line f (row_in s (rounds + 1)))
              fault) (upto.0.format ∙ format) row.1,
        )
      ]

  kept_at_fault : (now : ReportAndTrace W X) (workers : ℕ) (fault : Fault) → IsFaultInTurn (WritesTexts sink sink') (StopsInTexts sink sink') s old now
      workers fault → KeepsTexts old now
  kept_at_fault now workers fault stop = elim stop.stops [
    | inl lost ↦ (texts_upto now stop.rounds lost.1).0
    | inr (before, so_far, cut) ↦ kept_then old before now (texts_upto before stop.rounds so_far).0 cut.kept
  ]

-- what stands behind the ends, once they are given back
module _ {W X : Type 0} (sink : Sink W) (sink' : Sink X) (s : Settings) (start : W) (start' : X) (old now : ReportAndTrace W X) (end : W) (end' : X) where
  pub stops_in_texts : (workers : ℕ) (fault : Fault) → IsFaultInTurn (WritesTexts sink sink') (StopsInTexts sink sink') s old now workers fault
      → old.format ≡ s.format → AreWrittenUpto sink start old.writer.now sink' start' old.trace.now s 0
      → (old.writer.ghost_name ≡ now.writer.ghost_name → end ≡ now.writer.now) → (old.trace.ghost_name ≡ now.trace.ghost_name → end' ≡ now.trace.now)
      → IsWritingFault sink start end sink' start' end' s workers fault
  stops_in_texts workers fault stop format headers writer trace =
      let kept = kept_at_fault sink sink' s start start' old format headers now workers fault stop in
      transport (λ i. IsWritingFault sink start (sym (writer (sym kept.writer)) i) sink' start' (sym (trace (sym kept.trace)) i) s workers fault)
      (in_rounds (fault_told (λ rounds written. (texts_upto sink sink' s start start' old format headers now rounds written).1)
      (stops_in_round sink sink' s start start' old format headers now fault) stop))

  pub texts_written : AreWrittenInTurn (WritesTexts sink sink') s old now s.rounds
      → old.format ≡ s.format → AreWrittenUpto sink start old.writer.now sink' start' old.trace.now s 0
      → (old.writer.ghost_name ≡ now.writer.ghost_name → end ≡ now.writer.now) → (old.trace.ghost_name ≡ now.trace.ghost_name → end' ≡ now.trace.now)
      → AreWritten sink start end sink' start' end' s
  unfolding report_text trace_text
  texts_written written format headers writer trace =
      let upto = texts_upto sink sink' s start start' old format headers now s.rounds written in
      record {
        report = subst (λ w. IsWritten sink start w (report_upto s s.rounds)) (sym (writer (sym upto.0.writer))) upto.1.report;
        trace = subst (λ x. IsWritten sink' start' x (trace_upto s s.rounds)) (sym (trace (sym upto.0.trace))) upto.1.trace;
      }
