use Rattle.cluster.proofs.Common.{◌-◌, map}
use Rattle.cluster.specs.calls.Clusters.{HaveEnded}
use Rattle.cluster.proofs.Begins.{HaveBegun}
use Rattle.cluster.proofs.starts.begin_nodes.Given as goal

abbrev pub invariant-loop-node : goal.invariant-loop-node
invariant-loop-node g l =
    HaveBegun l.start.scenario.now l.start.round (map g.T.MemoryTable.table l.initial.tables) (map g.T.MemoryTable.table l.tables)
    (g.K.RoundHistories.kept l.histories).lists l.node
    × HaveEnded l.start.scenario.now (l.start.round - 1) (g.K.RoundHistories.kept l.histories)
