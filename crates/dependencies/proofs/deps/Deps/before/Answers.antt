use Rattle.dependencies.proofs.Common.{ap, arith, RoundListView}
use Rattle.dependencies.specs.Neighbours.{predecessors_of}
use Rattle.dependencies.proofs.Passes.{indexed}
use Rattle.dependencies.proofs.deps.Deps.before.Goals as goal

pub index-requires : goal.index-requires
index-requires c = omega (arith, (indexed predecessors_of c.self.inside.list.exchanges _ c.self.inside.before.items c.args.i (ap (λ (p : RoundListView). p.exchanges) c.self.view_is) c.self.invariant.1.before c.requires.within).0, c.self.inside.before.ok.0)

pub returns : goal.returns
returns c = (indexed predecessors_of c.self.inside.list.exchanges _ c.self.inside.before.items c.args.i (ap (λ (p : RoundListView). p.exchanges) c.self.view_is) c.self.invariant.1.before c.requires.within).1 c.index.result.now c.index.ensures
