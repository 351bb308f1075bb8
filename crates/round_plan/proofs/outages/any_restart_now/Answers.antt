use Rattle.round_plan.proofs.Common.{◌==◌, ap, ◌∙◌, rules, tests, list_any, YieldsList-from_slice, any_from_yields_List}
use Rattle.round_plan.specs.calls.Outages.{any_restart_now}
use Rattle.scenario.specs.declared.elements.Restart.{Restart}
use Rattle.round_plan.proofs.outages.any_restart_now.Goals as goal

pub returns : goal.returns
unfolding any_restart_now
returns c =
    let begins = λ (r : Restart). r.round == c.args.round in
    any_from_yields_List begins _ _ _ c.any.ensures.ran (YieldsList-from_slice c.restarts.result.now cc) (λ x b q k. search (rules, tests))
    ∙ ap (list_any begins) c.restarts.ensures.value
