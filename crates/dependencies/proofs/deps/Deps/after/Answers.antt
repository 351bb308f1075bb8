use Rattle.dependencies.proofs.Common.{ap, arith, RoundListView}
use Rattle.dependencies.specs.Neighbours.{successors}
use Rattle.dependencies.proofs.Passes.{indexed}
use Rattle.dependencies.proofs.deps.Deps.after.Goals as goal

pub index-requires : goal.index-requires
index-requires c = omega (arith, (indexed successors c.self.inside.list.exchanges _ c.self.inside.after.items c.args.i (ap (λ (p : RoundListView). p.exchanges) c.self.view_is) c.self.invariant.1.after c.requires.within).0, c.self.inside.after.ok.0)

pub returns : goal.returns
returns c = (indexed successors c.self.inside.list.exchanges _ c.self.inside.after.items c.args.i (ap (λ (p : RoundListView). p.exchanges) c.self.view_is) c.self.invariant.1.after c.requires.within).1 c.index.result.now c.index.ensures
