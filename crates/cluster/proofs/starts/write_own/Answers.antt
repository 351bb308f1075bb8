use Rattle.std.proofs.lemmas.List.{take_all}
use Rattle.cluster.proofs.Writing.{may_write_at, writing_at}
use Rattle.cluster.proofs.starts.write_own.Goals as goal

pub write-requires : goal.write-requires
write-requires g c = record {
  may =
      may_write_at (g.T.MemoryTable.table c.args.table.now) (g.T.MemoryTable.table c.loop-write.table)
      (g.K.RoundHistories.kept c.args.histories.now) (g.K.RoundHistories.kept c.loop-write.histories) c.args.writes.now c.loop-write.write-index
      c.loop-write-test.true c.loop-write.invariant c.requires.may;
}

pub loop-write-preserved : goal.loop-write-preserved
loop-write-preserved g c =
    writing_at (g.T.MemoryTable.table c.args.table.now) (g.T.MemoryTable.table c.loop-write.table)
    (g.K.RoundHistories.kept c.args.histories.now) (g.K.RoundHistories.kept c.loop-write.histories) c.args.writes.now c.loop-write.write-index
    c.loop-write-test.true c.loop-write.invariant c.requires.may
    (g.T.MemoryTable.table c.write.new.table) (g.K.RoundHistories.kept c.write.new.self) c.in_ok-write.ensures.table c.in_ok-write.ensures.kept

pub returns-clause-written : goal.returns-clause-written
returns-clause-written g c =
    let is = rw (take_all c.loop-write.write-index c.args.writes.now c.loop-write-test.false) at c.loop-write.invariant.own in
    record { table = is.table; list = is.list; proper = is.proper; greatest = is.greatest; own_part = is.own_part; born = is.born }
