use Rattle.planner.proofs.Common.{refl}
use Rattle.planner.specs.declared.schedules.Stage.TheVariants.{Done}
use Rattle.planner.proofs.Standings.{schedule_there, stage_asked, over_begun}
use Rattle.planner.proofs.schedules.Schedule.is_done.Goals as goal

pub returns-clause-done : goal.returns-clause-done
returns-clause-done c = stage_asked c.args.self.now.stages c.args.i Done c.at.result c.eq.result (over_begun Done refl) c.at.ensures.value c.eq.ensures

pub returns-clause-lawful : goal.returns-clause-lawful
returns-clause-lawful c = schedule_there c.args.self.now c.at.ensures.kept
