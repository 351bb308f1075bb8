use Rattle.workers.specs.inner.Joined.{HasTakenIn}
use Rattle.workers.proofs.shifts.take_all.Given as goal

abbrev pub invariant-loop-i : goal.invariant-loop-i
invariant-loop-i g l = HasTakenIn g.T.MemoryTable.table l.shift.shop.board l.i l.fn.gathered l.gathered
