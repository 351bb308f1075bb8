use Rattle.planner.proofs.Common.{refl, sym, subst}
use Rattle.planner.specs.Stages.{CanStart, standing_of}
use Rattle.planner.proofs.Standings.{standing_started}
use Rattle.planner.proofs.schedules.Schedule.start.Goals as goal

pub invariant_of-self : goal.invariant_of-self
invariant_of-self c =
    standing_started (standing_of c.self.inside.deps c.self.inside.stages.items) c.args.i c.self.invariant
    (subst (λ s. CanStart s c.args.i) (sym c.self.view_is) (c.if-not-may_start.ensures.can_start.0 refl))
