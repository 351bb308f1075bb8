use Rattle.planner.proofs.Common.{◌≡◌, ◌++◌, filter_map, into_iter_items}
use Rattle.planner.specs.inner.Places.{itself}
use Rattle.planner.proofs.plays.all_of.Given as goal

abbrev pub invariant-loop-place : goal.invariant-loop-place
invariant-loop-place g l = (l.yielded ++ into_iter_items l.place-iterator ≡ l.fn.places.items) × (l.all.items ≡ filter_map itself l.yielded)
