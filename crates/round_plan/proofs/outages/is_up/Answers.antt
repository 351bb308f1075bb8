use Rattle.round_plan.proofs.Common.{not, ap, ◌∙◌, rules, tests, list_any, YieldsList-from_slice, any_from_yields_List}
use Rattle.round_plan.specs.Outages.{is_up, takes_down}
use Rattle.round_plan.proofs.outages.is_up.Goals as goal

pub returns : goal.returns
unfolding is_up
returns c =
    let is_down = takes_down c.args.node c.args.round in
    let found = any_from_yields_List is_down _ _ _ c.any.ensures.ran (YieldsList-from_slice c.restarts.result.now cc) (λ x b q k. search (rules, tests)) in
    ap not (found ∙ ap (list_any is_down) c.restarts.ensures.value)
