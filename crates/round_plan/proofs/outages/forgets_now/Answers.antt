use Rattle.round_plan.proofs.Common.{ap, ◌∙◌, rules, tests, list_any, YieldsList-from_slice, any_from_yields_List}
use Rattle.round_plan.specs.Outages.{forgets_now, forgets_in}
use Rattle.round_plan.proofs.outages.forgets_now.Goals as goal

pub returns : goal.returns
unfolding forgets_now
returns c =
    let forgets = forgets_in c.args.node c.args.round in
    any_from_yields_List forgets _ _ _ c.any.ensures.ran (YieldsList-from_slice c.restarts.result.now cc) (λ x b q k. search (rules, tests))
    ∙ ap (list_any forgets) c.restarts.ensures.value
