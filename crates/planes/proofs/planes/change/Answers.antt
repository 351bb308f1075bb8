use borrow.Author.Rules.{scaled_fits≤}
use Rattle.planes.proofs.Common.{refl, arith, length-map, ◌≤◌, length}
use Rattle.planes.proofs.Elementwise.{number-waits, changed_all, written_next}
use Rattle.planes.proofs.planes.change.Goals as goal

pub loop-r-preserved : goal.loop-r-preserved
loop-r-preserved g c =
    let number = g.N.Number.number in
    let was = number-waits _ _ number c.loop-r.numbers c.loop-r.r c.index-numbers-r.result c.loop-r.invariant (omega arith) c.index-numbers-r.is in
    written_next _ _ number _ _ c.to.result c.loop-r.invariant (omega (arith, length-map c.args.numbers.now number))
    (record { from = c.index-numbers-r.result; to = c.to.result; was = was; is = refl; made = c.to.ensures })

pub returns : goal.returns
returns g c = changed_all _ _ _ _ c.loop-r.invariant (omega (arith, c.loop-r-test.false, length-map c.args.numbers.now g.N.Number.number))

pub offset_bounds-numbers-r-in-loop-r : goal.offset_bounds-numbers-r-in-loop-r
offset_bounds-numbers-r-in-loop-r g c = let at : c.loop-r.r ≤ length c.args.numbers.now = omega arith in search scaled_fits≤
