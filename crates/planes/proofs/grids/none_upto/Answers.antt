use Rattle.planes.proofs.Common.{ℕ, ◌&&◌, nat_le, nat_lt, length-map, map, rules, slice_index}
use Rattle.planes.proofs.Counts.{none-passes}
use Rattle.planes.proofs.Elementwise.{number-at}
use Rattle.planes.proofs.grids.none_upto.Goals as goal

pub returns : goal.returns
returns g c =
    let number = g.N.Number.number in let is_upto = λ (r n : ℕ). nat_lt 0 n && nat_le n (slice_index (map number c.args.high.now) r) in
    none-passes (λ r. is_upto r (slice_index (map number c.args.plane.now) r)) _ _ _
    (c.how_many.ensures.count is_upto (λ r n passes lt answer. search (rules, number-at number c.args.high.now r))) (length-map c.args.plane.now number)
