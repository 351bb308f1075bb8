use Rattle.round_plan.proofs.Common.{◌∙◌, ap, length, sym, subst}
use Rattle.round_plan.specs.inner.Streams.{ArePartsOf, HaveDrawn}
use Rattle.round_plan.proofs.Streams.{back, parts_next}
use Rattle.round_plan.proofs.run_words.RunWords.of_round.Goals as goal

pub invariant_of-result : goal.invariant_of-result
invariant_of-result c =
    let seed = c.args.scenario.now.seed in
    let parts = c.in_ok-parts.parts in
    let new = c.draw_next.new.parts in
    let drawn = subst (λ ps. HaveDrawn ps new) c.deref_mut.ensures.value c.draw_next.ensures in
    let kept = back parts.len parts.items new drawn.count parts.ok.0 in
    rw c.seed.ensures.value (subst (ArePartsOf seed c.args.round) (sym kept)
    (parts_next seed c.args.round parts.items new c.requires.first c.requires.last c.in_ok-parts.ensures.parts drawn))

pub returns-clause-words : goal.returns-clause-words
returns-clause-words c =
    let parts = c.in_ok-parts.parts in
    let same = c.draw_next.ensures.count ∙ ap length c.deref_mut.ensures.value in
    let kept = back parts.len parts.items c.draw_next.new.parts same parts.ok.0 in
    λ i. record { seed = c.seed.ensures.value i; nodes = (ap length kept ∙ same ∙ c.in_ok-parts.ensures.count) i; round = c.args.round }
