use Rattle.grids.proofs.Common.{◌+◌, ◌*◌, arith, sym, ◌∙◌, ap, length-map, get_or-map, plane-within, number_kept}
use Rattle.grids.proofs.ByOwner.{place-fits, owner-next}
use Rattle.grids.proofs.grids.drop_owner.Goals as goal

pub offset_bounds-cells-key : goal.offset_bounds-cells-key
offset_bounds-cells-key g c = search place-fits

pub loop-key-preserved : goal.loop-key-preserved
loop-key-preserved g c =
    let number = g.N.Number.number in let place = c.loop-key.key * c.args.size.nodes + c.args.owner in
    let within = plane-within _ _ _ c.loop-key.key c.requires.grid c.loop-key-test.true in
    let was = sym (get_or-map number c.loop-key.cells place c.index-cells-key.result 0 (omega arith)) ∙ c.loop-key.invariant.from place (omega arith) in
    owner-next _ _ _ _ c.requires.among number _ c.loop-key.key c.pick.result c.loop-key.invariant (omega (arith, length-map c.args.cells.now number))
    (rw (c.pick.ensures, c.widen.ensures, c.zero.ensures) (ap (number_kept c.args.mark) was))
