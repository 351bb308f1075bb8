use Rattle.workers.proofs.Joining.{taken_more, taken_none}
use Rattle.workers.proofs.shifts.take_all.Goals as goal

pub loop-i-init : goal.loop-i-init
loop-i-init g c = taken_none g.T.MemoryTable.table c.args.shift.now.shop.board c.args.gathered.now c.requires.gathered

pub loop-i-preserved : goal.loop-i-preserved
loop-i-preserved g c =
    taken_more g.T.MemoryTable.table c.args.shift.now.shop.board c.loop-i.i c.args.gathered.now c.loop-i.gathered c.take_one.new.gathered
    c.loop-i.invariant c.in_ok-take_one.ensures
