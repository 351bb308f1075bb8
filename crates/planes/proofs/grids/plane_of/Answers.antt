use Rattle.planes.proofs.Common.{◌+◌, ◌*◌, ◌-◌, arith}
use Rattle.planes.proofs.Places.{plane-cells}
use Rattle.planes.proofs.grids.plane_of.Goals as goal

pub returns : goal.returns
returns g c =
    plane-cells g.N.Number.number c.args.nodes c.args.key (c.args.key * c.args.nodes + c.args.nodes - c.args.key * c.args.nodes) c.args.cells.now (omega arith) c.requires.within
