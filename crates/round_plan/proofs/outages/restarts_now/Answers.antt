use Rattle.round_plan.proofs.Common.{ap, ◌∙◌, rules, tests, list_any, YieldsList-from_slice, any_from_yields_List}
use Rattle.round_plan.specs.Outages.{restarts_now, restarts_in}
use Rattle.round_plan.proofs.outages.restarts_now.Goals as goal

pub returns : goal.returns
unfolding restarts_now
returns c =
    any_from_yields_List (restarts_in c.args.node c.args.round) _ _ _ c.any.ensures.ran (YieldsList-from_slice c.restarts.result.now cc) (λ x b q k. search (rules, tests))
    ∙ ap (list_any (restarts_in c.args.node c.args.round)) c.restarts.ensures.value
