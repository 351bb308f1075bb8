use Rattle.round_plan.proofs.Common.{◌+◌, ◌≤◌, All, sym, subst, ap, ◌∙◌, arith, IsPlanned, round_list_view}
use Rattle.round_plan.specs.declared.rounds.Chosen.TheVariants.{Down}
use Rattle.round_plan.proofs.Listed.{IsListed, IsChosen, is_chosen, length_chosen, chosen_at, listed_all, listed_begins, listed_unreached, listed_down}
use Rattle.round_plan.proofs.rounds.round_list_by.Goals.{in-Begins+in_ok-push-in-Begins, in-Unreached, in-Down}
use Rattle.round_plan.proofs.rounds.round_list_by.Goals as goal

pub overflow_add-unreached : goal.overflow_add-unreached
overflow_add-unreached g c =
    let many = length_chosen c.args.scenario.now c.args.round _ _ c.deref-choice-items.ensures.value c.in_ok-chosen.ensures in
    omega (arith, many, c.loop-choice.invariant.few, c.loop-choice-test.true, c.nodes-nodes.ensures.value, c.nodes-nodes.ensures.limits.1)

pub loop-choice-preserved : goal.loop-choice-preserved
loop-choice-preserved g c =
    let s = c.args.scenario.now in
    let round = c.args.round in
    let i = c.loop-choice.choice-index in
    let done = c.loop-choice.exchanges.items in
    let missed = c.loop-choice.unreached in
    let listed = c.loop-choice.invariant in
    let at = chosen_at s round _ _ c.deref-choice-items.ensures.value c.in_ok-chosen.ensures i Down c.loop-choice-test.true in
    let says = is_chosen s round i in
    elim c.match-choice.branch [
      | in-Begins+in_ok-push-in-Begins w ↦
          let is = subst (IsChosen s round i) (sym at.1 ∙ w.in-Begins.is) says in
          let some : 2 ≤ s.nodes = omega (arith, c.nodes-nodes.ensures.value, c.nodes-nodes.ensures.limits.0) in
          rw (w.exchanges-is, w.unreached-is) (subst (λ xs. IsListed s round (i + 1) xs missed) (sym w.in_ok-push-in-Begins.ensures.items)
          (listed_begins s round i done missed at.0 listed w.in-Begins.exchange some is.0 is.1 is.2))
      | in-Unreached w ↦
          let is = subst (IsChosen s round i) (sym at.1 ∙ w.in-Unreached.is) says in
          rw (w.exchanges-is, w.unreached-is) (listed_unreached s round i done missed at.0 listed is.0 is.1)
      | in-Down w ↦
          let down = subst (IsChosen s round i) (sym at.1 ∙ w.in-Down.is) says in
          rw (w.exchanges-is, w.unreached-is) (listed_down s round i done missed at.0 listed down)
    ]

pub planned-requires : goal.planned-requires
planned-requires g c =
    let s = c.args.scenario.now in
    let limits = c.nodes-nodes.ensures.limits in
    record {
      least = limits.0;
      most = limits.1;
      size = omega (arith, c.loop-choice.invariant.short, c.loop-choice.auto.choice-index-end, length_chosen s c.args.round _ _ c.deref-choice-items.ensures.value c.in_ok-chosen.ensures, c.nodes-nodes.ensures.value, limits.1);
      planned = subst (λ n. All (IsPlanned n) c.loop-choice.exchanges.items) (sym c.nodes-nodes.ensures.value) c.loop-choice.invariant.planned;
    }

pub returns-clause-plan : goal.returns-clause-plan
returns-clause-plan g c =
    let s = c.args.scenario.now in
    c.planned.ensures
    ∙ ap (λ n. round_list_view n c.loop-choice.unreached c.loop-choice.exchanges.items) c.nodes-nodes.ensures.value
    ∙ listed_all s c.args.round c.loop-choice.choice-index c.loop-choice.exchanges.items c.loop-choice.unreached c.loop-choice.invariant
    (omega (arith, c.loop-choice-test.false, length_chosen s c.args.round _ _ c.deref-choice-items.ensures.value c.in_ok-chosen.ensures))
