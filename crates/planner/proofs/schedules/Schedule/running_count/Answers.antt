use Rattle.planner.proofs.Common.{subst}
use Rattle.planner.specs.Stages.{HasSchedule}
use Rattle.planner.proofs.Standings.{schedule_there}
use Rattle.planner.proofs.schedules.Schedule.running_count.Goals as goal

pub returns-clause-lawful : goal.returns-clause-lawful
returns-clause-lawful c = subst HasSchedule c.self.view_is (schedule_there _ c.self.invariant)
