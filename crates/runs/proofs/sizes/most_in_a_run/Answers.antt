use Rattle.runs.proofs.Common.{suc, ◌+◌, ap, ◌∙◌, arith, writes_in}
use Rattle.runs.specs.inner.Writes.{writes_if_up}
use Rattle.runs.proofs.sizes.most_in_a_run.Goals as goal

pub loop-done-preserved : goal.loop-done-preserved
loop-done-preserved c = record {
  most =
      (λ i. c.loop-done.invariant.most i + (c.writes_in-most.ensures.value ∙ ap (writes_in c.args.scenario.now) {x = c.loop-done.done + 1}
      {y = suc c.loop-done.done} (omega arith)) i)
      ∙ ap (writes_if_up c.args.scenario.now) {x = suc c.loop-done.done} {y = c.loop-done.done + 1} (omega arith);
  within = omega (arith, c.loop-done.invariant.within, c.writes_in-most.ensures.limit);
}
