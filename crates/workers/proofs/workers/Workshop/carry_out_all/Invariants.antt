use Rattle.workers.specs.inner.AtWork.{HasWorked, StaysAtWork}
use Rattle.workers.proofs.workers.Workshop.carry_out_all.Given as goal

abbrev pub invariant-loop : goal.invariant-loop
invariant-loop g l = record {
  more : (goal.iterator-loop g).can_next l.iterator';
  finite : (goal.iterator-loop g).is_finite l.iterator';
  stays : StaysAtWork g.T.MemoryTable.table l.self.board l.fn.worker l.worker;
  worked : HasWorked g.T.MemoryTable.table l.self.board l.fn.worker l.worker;
}
