use Rattle.planner.proofs.Common.{take, tables_in}
use Rattle.planner.proofs.Playing.{IsSoFar}
use Rattle.planner.proofs.plays.play.Given as goal

abbrev pub invariant-loop-event : goal.invariant-loop-event
invariant-loop-event l = IsSoFar l.rules l.list (tables_in l.fn.tables.items) (take l.event-index l.events) l.schedule l.places
