use Rattle.planner.proofs.Common.{◌<◌, length, Some, sym, ap, ◌∙◌, arith, option_eq, false≢true, slice_get_within}
use Rattle.planner.specs.declared.schedules.Stage.TheVariants.{Waiting}
use Rattle.planner.specs.contracts.schedules.StagePartialEq.TheImpl.{eq-value}
use Rattle.planner.proofs.Standings.{schedule_there, told_stage, stage_told, stage_read, stage_there}
use Rattle.planner.proofs.schedules.Schedule.may_start.Goals as goal

pub is_free-requires : goal.is_free-requires
is_free-requires c =
    let waits = told_stage Waiting c.at.result (sym c.if-eq.ensures) in
    let inside = slice_get_within c.args.self.now.stages c.args.i Waiting (sym c.at.ensures.value ∙ waits) in
    record { within = omega (arith, inside, c.at.ensures.kept.size) }

pub returns-then-eq-clause-can_start : goal.returns-then-eq-clause-can_start
returns-then-eq-clause-can_start c =
    let waits = sym c.at.ensures.value ∙ told_stage Waiting c.at.result (sym c.if-eq.ensures) in
    let inside = slice_get_within c.args.self.now.stages c.args.i Waiting waits in (
      λ is. record {
        within = omega (arith, inside, c.at.ensures.kept.size);
        waiting = stage_read c.args.self.now.stages c.args.i Waiting waits;
        free = c.is_free.ensures.0 is;
      },
      λ can. c.is_free.ensures.1 can.free,
    )

pub returns-then-eq-clause-lawful : goal.returns-then-eq-clause-lawful
returns-then-eq-clause-lawful c = schedule_there c.args.self.now c.at.ensures.kept

pub returns-else-eq-clause-can_start : goal.returns-else-eq-clause-can_start
returns-else-eq-clause-can_start c = (
  λ is. absurd (false≢true (sym c.if-eq.false ∙ is)),
  λ can.
      let inside : c.args.i < length c.args.self.now.stages = omega (arith, can.within, c.at.ensures.kept.size) in
      c.eq.ensures ∙ ap (λ o. option_eq eq-value.it o (Some Waiting)) (c.at.ensures.value ∙ stage_there c.args.self.now.stages c.args.i Waiting inside can.waiting) ∙ stage_told Waiting,
)

pub returns-else-eq-clause-lawful : goal.returns-else-eq-clause-lawful
returns-else-eq-clause-lawful c = schedule_there c.args.self.now c.at.ensures.kept
