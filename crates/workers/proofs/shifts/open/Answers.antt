use Rattle.workers.proofs.Common.{arith, map, sym, ap, subst, BoardPlan, IsCluster}
use Rattle.work.specs.Carrying.{MayCarryOut}
use Rattle.workers.specs.inner.Starts.{HasFirstSeat, IsSeated}
use Rattle.board.specs.Boards.{IsMadeOf}
use Rattle.workers.specs.inner.Works.{AreSeveral}
use Rattle.workers.specs.inner.Handed.{HasHandedOut}
use Rattle.workers.proofs.shifts.open.Goals as goal

pub seated-requires : goal.seated-requires
seated-requires g c = record {
  cluster = subst (λ l. IsCluster l.nodes (map g.T.MemoryTable.table c.args.tables.items)) (sym c.in_ok-deps.ensures.same) c.requires.batch.cluster;
}

pub share-requires-clause-rules : goal.share-requires-clause-rules
share-requires-clause-rules g c _ _ = ap (λ (p : BoardPlan). p.rules) c.in_ok-board.ensures.made

pub share-requires-clause-tables : goal.share-requires-clause-tables
share-requires-clause-tables g c _ _ =
    let made = subst (λ l. IsSeated g.T.MemoryTable.table c.args.batch.rules.now l c.args.tables.items c.in_ok-board.board c.in_ok-board.gathered)
    c.in_ok-deps.ensures.same c.in_ok-board.ensures in
    subst (λ (p : BoardPlan). MayCarryOut (g.X.Exchanging.fits c.args.batch.shared) c.args.batch.rules.now p.list.nodes p.tables)
    (sym made.made) c.requires.batch

pub hand_out-requires-after_bounds : goal.hand_out-requires-after_bounds
hand_out-requires-after_bounds g c _ _ =
    let shared = c.in_ok-shift.ensures in
    let dealt = c.in_ok-deps.ensures.dealt in
    record {
      of_shift = shared.of_shift;
      seat = subst (λ board. HasFirstSeat g.T.MemoryTable.table board c.in_ok-board.gathered) (sym shared.board) c.in_ok-board.ensures.seat;
      several = subst AreSeveral (sym dealt.one_each) c.requires.several;
      trays = omega (arith, shared.trays, dealt.one_each);
    }

pub returns-clause-opened : goal.returns-clause-opened
returns-clause-opened g c =
    let table = g.T.MemoryTable.table in
    let shared = c.in_ok-shift.ensures in
    let dealt = c.in_ok-deps.ensures in
    let of_list = subst (λ list. IsMadeOf table c.args.batch.rules.now list c.args.tables.items c.in_ok-board.board)
    dealt.same c.in_ok-board.ensures.made in
    record {
      handed = subst (λ n. HasHandedOut table g.X.Exchanging.fits c.in_ok-shift.shift.value n c.hand_out.new.gathered)
          dealt.dealt.one_each c.in_ok-tasks.ensures.handed;
      shared = shared.shared;
      made = subst (IsMadeOf table c.args.batch.rules.now c.args.batch.list.now c.args.tables.items) (sym shared.board) of_list;
    }
