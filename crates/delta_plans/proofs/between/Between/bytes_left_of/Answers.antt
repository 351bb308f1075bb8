use Rattle.delta_plans.proofs.Common.{◌≡◌, get_or_default, length, length-take-le, ◌+◌, ◌-◌, false, true, get_or, ap, ◌∙◌, rules, arith, owner_weight}
use Rattle.delta_plans.specs.Between.{owner_count}
use Rattle.delta_plans.proofs.WeightLaws.{sum_below-longer}
use Rattle.delta_plans.proofs.between.Between.bytes_left_of.Goals as goal

pub returns-in_err-left : goal.returns-in_err-left
returns-in_err-left g c =
    let nodes = c.args.self.now.offer.now.grid.size.nodes in
    let more = sum_below-longer (owner_weight g.N.Number.number c.args.self.now) c.min-end.result nodes (omega (arith, c.min-end.ensures)) in
    rw c.from_residual.ensures (λ fits. c.in_err-left.ensures (omega (arith, fits, more, c.loop-first.invariant.left)))

pub left_of_some-requires-clause-passed : goal.left_of_some-requires-clause-passed
left_of_some-requires-clause-passed g c = λ owner from to least lt from_is to_is called.
    let first = c.loop-first.first in let found = c.find.new.found in
    let long : length found ≡ c.min-end.result - first = c.find.auto.found ∙ length-take-le (c.min-end.result - first) _ (omega (arith, c.min-end.ensures)) in
    let told : get_or found (owner - first) true ≡ false =
    get_or_default found (owner - first) true false (omega (arith, long, least, lt)) ∙ search (rules, called) in
    ap (λ r. owner_count g.N.Number.number c.args.self.now c.args.self.now.offer.now.grid.size.keys r)
    {x = owner} {y = first + (owner - first)} (omega (arith, least)) ∙ c.find.ensures (owner - first) told

pub find-requires-clause-between : goal.find-requires-clause-between
find-requires-clause-between g c = c.requires
