use Rattle.scenario.proofs.Common.{◌∙◌, refl, table_view}
use Rattle.scenario.specs.Budgets.{budget_at}
use Rattle.scenario.specs.Top.{mode_at, peers_at, rotation_at, choice_at, loss_ppm_at, writes_at}
use Rattle.scenario.proofs.Walks.{fault_is, passes, fails}
use Rattle.scenario.proofs.parts.conduct_at.Goals as goal

pub returns-in_err-mode-clause-answer : goal.returns-in_err-mode-clause-answer
returns-in_err-mode-clause-answer c =
    let t = table_view c.args.table.now in
    fault_is _ _ c.from_residual.ensures.1 ∙ fails (mode_at t) _ _ c.in_err-mode.ensures

pub returns-in_err-budget-clause-answer : goal.returns-in_err-budget-clause-answer
returns-in_err-budget-clause-answer c =
    let t = table_view c.args.table.now in
    fault_is _ _ c.from_residual-in_err-budget.ensures.1 ∙ passes (mode_at t) _ _ _ c.in_ok-mode.ensures
    (fails (budget_at c.args.format t) _ _ c.in_err-budget.ensures.answer)

pub returns-in_err-peers-clause-answer : goal.returns-in_err-peers-clause-answer
returns-in_err-peers-clause-answer c =
    let t = table_view c.args.table.now in
    fault_is _ _ c.from_residual-in_err-peers.ensures.1 ∙ passes (mode_at t) _ _ _ c.in_ok-mode.ensures
    (passes (budget_at c.args.format t) _ _ _ c.in_ok-budget.ensures.answer (fails (peers_at t) _ _ c.in_err-peers.ensures))

pub returns-in_err-rotation-clause-answer : goal.returns-in_err-rotation-clause-answer
returns-in_err-rotation-clause-answer c =
    let t = table_view c.args.table.now in
    fault_is _ _ c.from_residual-in_err-rotation.ensures.1 ∙ passes (mode_at t) _ _ _ c.in_ok-mode.ensures
    (passes (budget_at c.args.format t) _ _ _ c.in_ok-budget.ensures.answer
    (passes (peers_at t) _ _ _ c.in_ok-peers.ensures (fails (rotation_at t) _ _ c.in_err-rotation.ensures)))

pub returns-in_err-choice-clause-answer : goal.returns-in_err-choice-clause-answer
returns-in_err-choice-clause-answer c =
    let t = table_view c.args.table.now in
    fault_is _ _ c.from_residual-in_err-choice.ensures.1 ∙ passes (mode_at t) _ _ _ c.in_ok-mode.ensures
    (passes (budget_at c.args.format t) _ _ _ c.in_ok-budget.ensures.answer (passes (peers_at t) _ _ _ c.in_ok-peers.ensures
    (passes (rotation_at t) _ _ _ c.in_ok-rotation.ensures (fails (choice_at t) _ _ c.in_err-choice.ensures))))

pub returns-in_err-loss_ppm-clause-answer : goal.returns-in_err-loss_ppm-clause-answer
returns-in_err-loss_ppm-clause-answer c =
    let t = table_view c.args.table.now in
    fault_is _ _ c.from_residual-in_err-loss_ppm.ensures.1 ∙ passes (mode_at t) _ _ _ c.in_ok-mode.ensures
    (passes (budget_at c.args.format t) _ _ _ c.in_ok-budget.ensures.answer (passes (peers_at t) _ _ _ c.in_ok-peers.ensures
    (passes (rotation_at t) _ _ _ c.in_ok-rotation.ensures
    (passes (choice_at t) _ _ _ c.in_ok-choice.ensures (fails (loss_ppm_at t) _ _ c.in_err-loss_ppm.ensures.answer)))))

pub returns-in_err-writes-clause-answer : goal.returns-in_err-writes-clause-answer
returns-in_err-writes-clause-answer c =
    let t = table_view c.args.table.now in
    fault_is _ _ c.from_residual-in_err-writes.ensures.1 ∙ passes (mode_at t) _ _ _ c.in_ok-mode.ensures
    (passes (budget_at c.args.format t) _ _ _ c.in_ok-budget.ensures.answer (passes (peers_at t) _ _ _ c.in_ok-peers.ensures
    (passes (rotation_at t) _ _ _ c.in_ok-rotation.ensures (passes (choice_at t) _ _ _ c.in_ok-choice.ensures
    (passes (loss_ppm_at t) _ _ _ c.in_ok-loss_ppm.ensures.answer (fails (writes_at t) _ _ c.in_err-writes.ensures.answer))))))

pub returns-clause-answer : goal.returns-clause-answer
returns-clause-answer c =
    let t = table_view c.args.table.now in
    passes (mode_at t) _ _ _ c.in_ok-mode.ensures (passes (budget_at c.args.format t) _ _ _ c.in_ok-budget.ensures.answer
    (passes (peers_at t) _ _ _ c.in_ok-peers.ensures (passes (rotation_at t) _ _ _ c.in_ok-rotation.ensures
    (passes (choice_at t) _ _ _ c.in_ok-choice.ensures (passes (loss_ppm_at t) _ _ _ c.in_ok-loss_ppm.ensures.answer
    (passes (writes_at t) _ _ _ c.in_ok-writes.ensures.answer (refl)))))))

pub returns-clause-lawful : goal.returns-clause-lawful
returns-clause-lawful c = record {
  budget = c.in_ok-budget.ensures.lawful;
  loss_ppm = c.in_ok-loss_ppm.ensures.within.1;
  writes =
      c.in_ok-writes.ensures.within.1;
}
