use Rattle.planes.proofs.Common.{◌≡◌, ◌-◌, ◌∙◌, ap, arith, replicate, get_or-map, get_or-replicate, length-map, length-replicate, take-nil}
use Rattle.planes.proofs.grids.all_of.Goals as goal

pub returns : goal.returns
returns g c =
    let number = g.N.Number.number in let count = c.args.count in let x = c.args.number in let whole : count - 0 ≡ count = omega arith in
    rw (c.in_ok-resize.ensures.items, c.in_ok-numbers.ensures.items, c.in_ok-numbers.ensures.len, take-nil, whole) (record {
      size = omega (arith, length-map (replicate count x) number, length-replicate count x);
      each = λ r lt. get_or-map number (replicate count x) r x 0 (omega (arith, lt, length-replicate count x)) ∙ ap number (get_or-replicate count r x x lt);
    })
