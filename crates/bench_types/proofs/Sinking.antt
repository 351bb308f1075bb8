-- A text on its way into a sink.
-- Serves `write_text`.
use Rattle.std.proofs.Common.{◌≡◌, ◌++◌, ◌∙◌, ℕ, true, List, Option, sym, ap, subst, take, drop, length, append_assoc, take-append-drop}
use lib.Seq.{take-append_seam}
use Rattle.std.proofs.KnownBytes.{Appends-trans, Appends-kept}
use Rattle.std.specs.Io.KnownBytes.{Appends, Keeps}
use Rattle.bench_types.specs.declared.sinks.Sink.{Ghosts as Sink}
use Rattle.bench_types.specs.Output.{IsBrokenOff}

-- the sink has taken the text up to `rest`
pub record TakesUpTo (old now : Option (List ℕ)) (text rest : List ℕ) : Type 0 where
  pub front : List ℕ
  pub whole : text ≡ front ++ rest
  pub taken : Appends old now front

-- it takes some more bytes
pub up_to_more : (old now new : Option (List ℕ)) (text rest : List ℕ) (n : ℕ) → TakesUpTo old now text rest
    → Appends now new (take n rest) → TakesUpTo old new text (drop n rest)
up_to_more old now new text rest n so_far more = record {
  front = so_far.front ++ take n rest;
  whole = so_far.whole ∙ ap (λ xs. so_far.front ++ xs) (sym (take-append-drop n rest)) ∙ sym (append_assoc so_far.front (take n rest) (drop n rest));
  taken = Appends-trans old now new so_far.front (take n rest) so_far.taken more;
}

-- it stops here
pub cut_here : {W A : Type 0} (sink : Sink W) (old now new : W) (text rest : List ℕ) → TakesUpTo (sink.taken old) (sink.taken now) text rest
    → (sink.failed old ≡ true → now ≡ old) → Keeps (sink.taken now) (sink.taken new) → sink.failed new ≡ true
    → (sink.failed now ≡ true → A × (new ≡ now)) → IsBrokenOff sink old new text
cut_here sink old now new text rest so_far was kept failed stays =
    let seam : take (length so_far.front) text ≡ so_far.front =
    ap (take (length so_far.front)) so_far.whole ∙ take-append_seam so_far.front rest in
    record {
      count = length so_far.front;
      taken = subst (Appends (sink.taken old) (sink.taken new)) (sym seam)
          (Appends-kept (sink.taken old) (sink.taken now) (sink.taken new) so_far.front so_far.taken kept);
      failed = failed;
      stays = λ broken. (stays (ap sink.failed (was broken) ∙ broken)).1 ∙ was broken;
    }
