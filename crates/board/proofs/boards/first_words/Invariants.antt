use Rattle.board.proofs.Common.{◌≡◌, ◌+◌, ◌∷◌, map, range_with_len, pending_of, length, vec_capacity}
use Rattle.board.proofs.boards.first_words.Given as goal

abbrev pub invariant-loop-i : goal.invariant-loop-i
invariant-loop-i l =
    (l.words.items ≡ 0 ∷ map (pending_of l.deps.exchanges) (range_with_len 0 l.i))
    × (vec_capacity l.words ≡ length l.deps.exchanges + 1)
