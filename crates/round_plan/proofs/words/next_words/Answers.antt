use Rattle.round_plan.proofs.Common.{◌≡◌, ◌<◌, ℕ, slice_index, ◌+◌, ◌%◌, ◌^◌, slice_set, ap, subst, ◌∙◌, sym, arith, length-set, mod-eq_of_lt, fill_by_more, next_word, word_at}
use Rattle.round_plan.proofs.words.next_words.Goals as goal

pub loop-place-preserved : goal.loop-place-preserved
loop-place-preserved c =
    let first = c.args.stream.now in
    let at = c.loop-place.place in
    let ours : ℕ → ℕ = λ m. word_at 10 first.key first.stream (first.word_pos + m) in
    let less : first.word_pos + at + 1 < 2 ^ 68 = omega (arith, c.requires) in
    let next : (first.word_pos + at + 1) % 2 ^ 68 ≡ first.word_pos + (at + 1) = mod-eq_of_lt less ∙ omega arith in
    let stream = ap (λ p. p.1) c.next_word.ensures ∙ ap (λ g. (next_word 10 g).1) c.loop-place.invariant.0 in
    let word = ap (λ p. p.0) c.next_word.ensures ∙ ap (λ g. (next_word 10 g).0) c.loop-place.invariant.0 in (
      stream ∙ (λ i. record first { word_pos = next i }),
      length-set c.loop-place.words at c.next_word.result ∙ c.loop-place.invariant.1,
      subst (λ w. (m : ℕ) → m < at + 1 → slice_index (slice_set c.loop-place.words at w) m ≡ ours m) (sym word)
          (fill_by_more ours c.loop-place.words at 0 (omega (arith, c.loop-place.invariant.1)) c.loop-place.invariant.2),
    )
