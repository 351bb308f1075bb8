use Rattle.runs.proofs.Numbers.{may_write_all}
use Rattle.runs.proofs.sizes.write_in.Goals as goal

pub write_over-requires-clause-may_write : goal.write_over-requires-clause-may_write
write_over-requires-clause-may_write g c κs within =
    may_write_all c.args.scenario g.N.Number.most g.L.Written.lists c.requires.are c.requires.enough

pub returns : goal.returns
returns g c = c.write_over.ensures
