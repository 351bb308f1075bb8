use Rattle.board.proofs.Common.{List, ◌≡◌, ◌<◌, ◌≤◌, ℕ, length, map, take, get_or, false, vec_capacity, slots_items, slots_filled, slots_len, Filled, in_place}
use Rattle.board.proofs.boards.all_out.Given as goal

abbrev pub invariant-loop-i : goal.invariant-loop-i
invariant-loop-i g l =
    Filled (slots_filled l.closed.slots) l.i (slots_len l.closed.slots)
    × ((k : ℕ) → k < l.i → get_or (slots_filled l.closed.slots) k false ≡ false)
    × (slots_items l.closed.slots ≡ slots_items l.fn.closed.slots)
    × (slots_len l.closed.slots ≡ slots_len l.fn.closed.slots)
    × (length l.room.items ≤ l.i)
    × (vec_capacity l.room ≡ vec_capacity l.fn.room)
    × ((kept : List g.row.T.Denot) → slots_items l.fn.closed.slots ≡ map in_place kept → l.room.items ≡ take l.i kept)
