use Rattle.round_plan.proofs.Common.{◌+◌, ◌<◌, ◌∙◌, length, sym, subst, ap, arith, MOST_ROUNDS}
use Rattle.round_plan.specs.calls.Words.{RunWordsView}
use Rattle.round_plan.specs.inner.Streams.{ArePartsOf, HaveDrawn}
use Rattle.round_plan.proofs.Streams.{back, parts_next}
use Rattle.round_plan.proofs.run_words.RunWords.next_round.Goals as goal

pub invariant_of-self : goal.invariant_of-self
invariant_of-self c =
    let fields = c.self.inside in
    let new = c.draw_next.new.parts in
    let drawn = subst (λ ps. HaveDrawn ps new) c.deref_mut.ensures.value c.draw_next.ensures in
    let kept = back fields.parts.len fields.parts.items new drawn.count fields.parts.ok.0 in
    let last = subst (λ r. r < MOST_ROUNDS) (sym (ap (λ (v : RunWordsView). v.round) c.self.view_is)) c.requires in
    subst (ArePartsOf fields.seed (fields.round + 1)) (sym kept)
    (parts_next fields.seed (fields.round + 1) fields.parts.items new (omega arith) (omega (arith, last))
    (λ node d lt. (c.self.invariant.each node d lt).stream) drawn)

pub returns : goal.returns
returns c =
    let parts = c.self.inside.parts in
    let same = c.draw_next.ensures.count ∙ ap length c.deref_mut.ensures.value in
    let kept = back parts.len parts.items c.draw_next.new.parts same parts.ok.0 in
    (λ i. record { seed = c.self.inside.seed; nodes = (ap length kept ∙ same) i; round = c.self.inside.round + 1 })
    ∙ ap (λ (v : RunWordsView). record v { round = v.round + 1 }) c.self.view_is
