use Rattle.dependencies.proofs.Sets.{schedule_from}
use Rattle.dependencies.proofs.laws.two_sets_make_a_schedule.Goals as goal

pub returns : goal.returns
returns c es first second closed = (schedule_from es first second closed).lawful
