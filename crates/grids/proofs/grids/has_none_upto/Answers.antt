use Rattle.grids.proofs.Common.{◌≡◌, ◌+◌, ◌*◌, ◌&&◌, false, nat_le, nat_lt, refl, sym, ◌∙◌, arith, map, below_more, cell, number-at, plane-within}
use Rattle.grids.proofs.grids.has_none_upto.Goals as goal

pub loop-key-preserved : goal.loop-key-preserved
loop-key-preserved g c =
    let number = g.N.Number.number in let nodes = c.args.size.nodes in let key = c.loop-key.key in let mark = number c.args.mark in
    let within = plane-within _ _ _ key c.requires.grid c.loop-key-test.true in
    let at = number-at number c.args.cells.now (key * nodes + c.args.owner) c.index-cells-key.result (omega arith) c.index-cells-key.is in
    let cells = cell (map number c.args.cells.now) nodes c.args.owner in
    below_more (λ k. (nat_lt 0 (cells k) && nat_le (cells k) mark) ≡ false) key c.loop-key.invariant
    (sym (c.is_between.ensures ∙ (λ i. nat_lt (c.zero.ensures i) (at i) && nat_le (at i) mark)) ∙ c.if-is_between.false)

pub returns : goal.returns
returns g c = (λ yes key lt. c.loop-key.invariant key (omega (arith, lt, c.loop-key-test.false)), λ none. refl)

pub returns-then-is_between : goal.returns-then-is_between
returns-then-is_between g c =
    let within = plane-within _ _ _ c.loop-key.key c.requires.grid c.loop-key-test.true in
    let at = number-at g.N.Number.number c.args.cells.now _ c.index-cells-key.result (omega arith) c.index-cells-key.is in
    let is = c.is_between.ensures ∙ (λ i. nat_lt (c.zero.ensures i) (at i) && nat_le (at i) (g.N.Number.number c.args.mark)) in
    (λ yes key lt. cc, λ none. sym (none c.loop-key.key c.loop-key-test.true) ∙ sym is ∙ c.if-is_between.true)
