use Rattle.grids.proofs.Common.{number_taken, ◌≡◌, ℕ, ◌+◌, ◌*◌, ◌&&◌, nat_lt, nat_le, slice_index, max, cond, sym, ap, ◌∙◌, arith, map, length-map, get_or-map, cell, number-at, plane-within, planes-all, raised-next}
use Rattle.grids.proofs.ByOwner.{place-fits, owner-next, owner-stays}
use Rattle.grids.proofs.owners.take_owner.Goals as goal
use Rattle.grids.proofs.owners.take_owner.Goals.{then-is_between, else-is_between}

pub offset_bounds-cells-key : goal.offset_bounds-cells-key
offset_bounds-cells-key g c = search place-fits

pub loop-key-preserved : goal.loop-key-preserved
loop-key-preserved g c =
    let number = g.N.Number.number in let key = c.loop-key.key in let low = slice_index (map number c.args.sent.low.now) c.args.owner in
    let high = slice_index (map number c.args.sent.high.now) c.args.owner in
    let at_low = sym (get_or-map number c.args.sent.low.now c.args.owner c.index-sent-owner.result 0 (omega arith)) in
    let at_high = sym (get_or-map number c.args.sent.high.now c.args.owner c.index-sent-owner-2.result 0 (omega arith)) in
    let was = cell (map number c.args.cells.now) c.args.sent.grid.size.nodes c.args.owner key in
    let sent = cell (map number c.args.sent.grid.cells.now) c.args.sent.grid.size.nodes c.args.owner key in
    let place : ℕ = key * c.args.sent.grid.size.nodes + c.args.owner in let held = c.loop-key.invariant in
    let within = plane-within _ _ _ key c.requires.beside.shape c.loop-key-test.true in
    let at_sent = number-at number c.args.sent.grid.cells.now place c.index-numbers-key.result (omega arith) c.index-numbers-key.is in
    let between = sym (c.is_between.ensures ∙ (λ i. nat_lt (at_low i) (at_sent i) && nat_le (at_sent i) (at_high i))) in
    elim c.if-is_between.branch [
      | then-is_between w ↦
          let at_cell = sym (get_or-map number c.loop-key.cells place w.index-cells-key.result 0 (omega arith)) ∙ held.cells.from place (omega arith) in
          let taken = ap (λ b. max was (cond b sent 0)) (between ∙ w.if-is_between.true) in
          let raised = w.max_with-raised.ensures ∙ (λ i. max (at_cell i) (at_sent i)) ∙ sym taken in
          rw (w.cells-is, w.greatest-is) (record {
            cells = owner-next _ _ _ _ c.requires.within number _ key _ held.cells (omega (arith, length-map c.args.cells.now number)) raised;
            greatest = raised-next _ key _ _ _ _ held.greatest (w.max_with-greatest.ensures ∙ ap (max (number c.loop-key.greatest)) raised);
          })
      | else-is_between w ↦
          let none : number_taken was sent low high ≡ was = ap (λ b. max was (cond b sent 0)) (between ∙ w.if-is_between.false) ∙ omega arith in
          rw (w.cells-is, w.greatest-is) (record {
            cells = owner-stays _ _ _ _ c.requires.within _ key held.cells none;
            greatest = raised-next _ key _ _ _ _ held.greatest (omega (arith, c.requires.covered key c.loop-key-test.true));
          })
    ]

pub returns : goal.returns
returns g c =
    let all : c.loop-key.key ≡ c.args.sent.grid.size.keys = omega arith in
    record {
      cells = planes-all _ _ _ _ c.args.sent.grid.size.keys c.loop-key.key c.loop-key.invariant.cells c.loop-key-test.false;
      greatest = rw (← all) c.loop-key.invariant.greatest;
    }

pub bounds-cells-key : goal.bounds-cells-key
bounds-cells-key g c = omega (arith, plane-within _ _ _ c.loop-key.key c.requires.beside.shape c.loop-key-test.true)

pub bounds-numbers-key : goal.bounds-numbers-key
bounds-numbers-key g c = omega (arith, plane-within _ _ _ c.loop-key.key c.requires.beside.shape c.loop-key-test.true)

pub offset_bounds-numbers-key : goal.offset_bounds-numbers-key
offset_bounds-numbers-key g c = omega (arith, plane-within _ _ _ c.loop-key.key c.requires.beside.shape c.loop-key-test.true)
