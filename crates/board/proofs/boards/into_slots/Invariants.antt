use Rattle.board.proofs.Common.{◌≡◌, ◌+◌, ◌++◌, length, map, reverse, vec_capacity, in_place}
use Rattle.board.proofs.boards.into_slots.Given as goal

abbrev pub invariant-loop : goal.invariant-loop
invariant-loop g l =
    (map in_place l.fn.tables.items ≡ map in_place l.tables.items ++ reverse l.slots.items)
    × (vec_capacity l.tables ≡ vec_capacity l.fn.tables)
    × (length l.tables.items + l.counter ≡ length l.fn.tables.items)
    × (vec_capacity l.slots ≡ length l.fn.tables.items)
