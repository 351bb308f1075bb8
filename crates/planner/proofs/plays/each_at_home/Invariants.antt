use Rattle.planner.proofs.Common.{◌≡◌, ◌++◌, map, into_iter_items, in_place}
use Rattle.planner.proofs.plays.each_at_home.Given as goal

abbrev pub invariant-loop-table : goal.invariant-loop-table
invariant-loop-table l = (l.yielded ++ into_iter_items l.table-iterator ≡ l.fn.tables.items) × (l.homes.items ≡ map in_place l.yielded)
