use Rattle.workers.proofs.Common.{plan_of, seat_view}
use Rattle.workers.proofs.Ordered.{all_ended}
use Rattle.workers.proofs.shifts.end.Goals as goal

pub returns : goal.returns
returns g c =
    let seen = c.requires.seen in
    all_ended (plan_of g.T.MemoryTable.table c.args.board) (seat_view c.args.gathered.seat) c.args.gathered.records.items seen.has.records (c.in-Ok.ensures.whole seen.whole) g.T.MemoryTable.table c.in-Ok.tables.items c.in-Ok.ensures.tables
