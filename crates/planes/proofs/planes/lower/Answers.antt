use Rattle.planes.proofs.Common.{◌<◌, min, arith, rules, length, length-map, slice_index, map}
use Rattle.planes.proofs.Elementwise.{number-at, made-as}
use Rattle.planes.proofs.planes.lower.Goals as goal

pub returns : goal.returns
returns g c =
    let low = slice_index (map g.N.Number.number c.args.plane.now) in
    record {
      least = record {
        size = c.change.ensures.size;
        each = λ r lt.
            let below : r < length c.args.plane.now = omega (arith, lt, c.requires.plane, length-map c.args.least.now g.N.Number.number) in
            made-as g.N.Number.number _ r _ _ (λ x. min x (low r)) (c.change.ensures.each r lt)
            (λ n m made. search (rules, number-at g.N.Number.number c.args.plane.now r));
      };
    }
