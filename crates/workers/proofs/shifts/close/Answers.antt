use Rattle.workers.proofs.Common.{◌≤◌, refl, sym, ap, subst, ◌∙◌, plan_of, IsSeatOf}
use Rattle.crew.specs.Named.{tray_count}
use Rattle.workers.specs.inner.Gathering.{HasGathered}
use Rattle.workers.specs.inner.Joined.{IsEndOf}
use Rattle.workers.specs.inner.Shifts.{IsShift}
use Rattle.workers.proofs.shifts.close.Goals as goal

pub look-requires : goal.look-requires
look-requires g c = record {
  seat = subst (λ s. IsSeatOf g.T.MemoryTable.table c.take_all.new.gathered.seat s.shop.board) (c.deref.ensures ∙ sym c.deref-2.ensures)
      c.in_ok-take_all.ensures.gathered.of_board;
}

pub take_all-requires-clause-shift : goal.take_all-requires-clause-shift
take_all-requires-clause-shift g c _ _ = subst (IsShift g.T.MemoryTable.table g.X.Exchanging.fits) (sym c.deref.ensures) c.requires.of_shift

pub take_all-requires-clause-gathered : goal.take_all-requires-clause-gathered
take_all-requires-clause-gathered g c _ _ =
    subst (λ s. HasGathered g.T.MemoryTable.table s.shop.board c.args.gathered) (sym c.deref.ensures) c.requires.has

pub take_all-requires-clause-within : goal.take_all-requires-clause-within
take_all-requires-clause-within g c _ _ = subst (λ s. c.args.workers ≤ tray_count s.trays) (sym c.deref.ensures) c.requires.trays

pub returns : goal.returns
returns g c = record {
  ended = subst (λ s. IsEndOf g.T.MemoryTable.table (plan_of g.T.MemoryTable.table s.shop.board) c.end-tables.result.0.items c.end-tables.result.1.items)
      c.alone-shop.ensures c.end-tables.ensures;
  shared = ap (λ s. s.shop.shared) c.alone-shop.ensures;
  made = refl;
}
