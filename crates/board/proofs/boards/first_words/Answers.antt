use Rattle.board.proofs.Common.{arith, ℕ, ap, sym, ◌∙◌, ◌∷◌, ◌++◌, ◌≡◌}
use Rattle.board.proofs.Common.{[], map, range_with_len, map-range_with_len_more, length-map-range_with_len, length, pending_of}
use Rattle.board.proofs.boards.first_words.Goals as goal

pub loop-i-preserved : goal.loop-i-preserved
loop-i-preserved c =
    let es = c.args.deps.now.exchanges in
    let i = c.loop-i.i in (
      c.push_reserved-in-loop-i.ensures.items
          ∙ (λ t. c.loop-i.invariant.0 t ++ ((c.from.ensures ∙ c.pending.ensures) t) ∷ [])
          ∙ ap (λ xs. 0 ∷ xs) (sym (map-range_with_len_more (pending_of es) 0 i i (omega arith))),
      c.push_reserved-in-loop-i.ensures.capacity ∙ c.loop-i.invariant.1,
    )

pub push_reserved-requires-in-loop-i : goal.push_reserved-requires-in-loop-i
push_reserved-requires-in-loop-i c =
    let i = c.loop-i.i in
    let count = length-map-range_with_len (pending_of c.args.deps.now.exchanges) 0 i in
    omega (arith, c.loop-i.words.ok.0, ap length c.loop-i.invariant.0, count, c.loop-i.invariant.1, c.loop-i-test.true, c.len-i-end.ensures.value)

pub returns-clause-words : goal.returns-clause-words
returns-clause-words c =
    let es = c.args.deps.now.exchanges in
    let all : c.loop-i.i ≡ length es = omega (arith, c.loop-i-test.false, c.loop-i.auto.i-end, c.len-i-end.ensures.value) in
    c.loop-i.invariant.0 ∙ ap (λ (n : ℕ). 0 ∷ map (pending_of es) (range_with_len 0 n)) all

pub returns-clause-kept : goal.returns-clause-kept
returns-clause-kept c = c.len.ensures.kept
