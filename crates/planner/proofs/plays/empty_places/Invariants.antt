use Rattle.planner.specs.inner.Places.{AreEmpty}
use Rattle.planner.proofs.plays.empty_places.Given as goal

abbrev pub invariant-loop : goal.invariant-loop
invariant-loop g l = AreEmpty l.counter l.places.items
