use Rattle.planes.proofs.Common.{rules, nat_lt, slice_index, map, if◌then◌else◌, cell, IfOk-weaker}
use Rattle.planes.proofs.Elementwise.{number-at}
use Rattle.planes.proofs.Behind.{each-turned, least_is-above}
use Rattle.planes.proofs.grids.least_above.Goals as goal

pub returns : goal.returns
returns g c =
    let number = g.N.Number.number in let most = g.N.Number.most in let cells = map number c.args.grid.cells.now in
    let low = slice_index (map number c.args.low.now) in
    IfOk-weaker c.least_of.result _ _
    (λ v is. each-turned _ _ _ _ is (λ r n. least_is-above most (cell cells c.args.grid.size.nodes) c.args.grid.size.keys r (low r) n))
    (c.least_of.ensures (λ at r. if nat_lt (low r) (slice_index cells at) then slice_index cells at else most)
    (λ at r n in_cells lt given. search (rules, number-at number c.args.grid.cells.now at, number-at number c.args.low.now r)))
