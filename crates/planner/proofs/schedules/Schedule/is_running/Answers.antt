use Rattle.planner.proofs.Common.{refl}
use Rattle.planner.specs.declared.schedules.Stage.TheVariants.{Running}
use Rattle.planner.proofs.Standings.{schedule_there, stage_asked, runs_begun}
use Rattle.planner.proofs.schedules.Schedule.is_running.Goals as goal

pub returns-clause-running : goal.returns-clause-running
returns-clause-running c = stage_asked c.args.self.now.stages c.args.i Running c.at.result c.eq.result (runs_begun Running refl) c.at.ensures.value c.eq.ensures

pub returns-clause-lawful : goal.returns-clause-lawful
returns-clause-lawful c = schedule_there c.args.self.now c.at.ensures.kept
