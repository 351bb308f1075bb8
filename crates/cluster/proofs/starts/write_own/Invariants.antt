use Rattle.cluster.proofs.Common.{◌+◌, map, take, born_in}
use Rattle.cluster.proofs.Writing.{IsWritingIn}
use Rattle.cluster.proofs.starts.write_own.Given as goal

abbrev pub invariant-loop-write : goal.invariant-loop-write
invariant-loop-write g l =
    let t0 = g.T.MemoryTable.table l.initial.table in
    let h0 = g.K.RoundHistories.kept l.initial.histories in
    IsWritingIn t0 (g.T.MemoryTable.table l.table) h0 (g.K.RoundHistories.kept l.histories)
    (map (born_in (h0.rounds + 1) t0.generation) (take l.write-index l.writes))
