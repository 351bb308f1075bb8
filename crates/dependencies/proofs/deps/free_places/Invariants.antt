use Rattle.dependencies.proofs.Common.{◌≡◌, List, length, map, range_with_len, filter, Exchange}
use Rattle.dependencies.specs.Neighbours.{predecessors_of, is_first_ready}
use Rattle.dependencies.proofs.deps.free_places.Given as goal

abbrev pub invariant-loop-i : goal.invariant-loop-i
invariant-loop-i l = (es : List Exchange) → l.before ≡ map (predecessors_of es) (range_with_len 0 (length es)) → l.free.items ≡ filter (is_first_ready es) (range_with_len 0 l.i)
