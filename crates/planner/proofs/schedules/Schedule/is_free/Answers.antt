use Rattle.planner.proofs.Common.{sym, ap, ◌∙◌, subst, false≢true, predecessors_of}
use Rattle.planner.specs.Stages.{ScheduleView, IsSchedule}
use Rattle.planner.proofs.Standings.{free_from_both, both_from_free}
use Rattle.planner.proofs.schedules.Schedule.is_free.Goals as goal

pub returns-then-is_over : goal.returns-then-is_over
returns-then-is_over c =
    let standing = subst IsSchedule c.self.view_is c.self.invariant in
    let before = c.before-before.ensures ∙ ap (λ (s : ScheduleView). predecessors_of s.plan.exchanges c.args.i) c.self.view_is in (
      λ is. free_from_both c.args.self.now standing c.args.i c.requires.within c.before-before.result before (sym c.if-is_over.ensures) (sym c.is_over-then-is_over.ensures ∙ is),
      λ free. c.is_over-then-is_over.ensures ∙ (both_from_free c.args.self.now standing c.args.i c.requires.within c.before-before.result before free).1,
    )

pub returns-else-is_over : goal.returns-else-is_over
returns-else-is_over c =
    let standing = subst IsSchedule c.self.view_is c.self.invariant in
    let before = c.before-before.ensures ∙ ap (λ (s : ScheduleView). predecessors_of s.plan.exchanges c.args.i) c.self.view_is in (
      λ is. absurd (false≢true (sym c.if-is_over.false ∙ is)),
      λ free. c.is_over.ensures ∙ (both_from_free c.args.self.now standing c.args.i c.requires.within c.before-before.result before free).0,
    )
