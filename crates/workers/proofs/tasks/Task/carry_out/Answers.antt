use Rattle.workers.proofs.Common.{◌<◌, sym, ap, subst, ◌∙◌}
use Rattle.crew.specs.Named.{label_of, tray_count}
use Rattle.workers.specs.declared.tasks.Shift.{Shift}
use Rattle.workers.specs.inner.Returns.{IsFreshSeat, IsReturned}
use Rattle.workers.specs.inner.Workshops.{IsWorkshop}
use Rattle.workers.proofs.tasks.Task.carry_out.Goals as goal

pub work-returned-requires-clause-shop : goal.work-returned-requires-clause-shop
work-returned-requires-clause-shop g c _ _ =
    subst (λ s. IsWorkshop g.T.MemoryTable.table g.X.Exchanging.fits s.shop) (sym c.deref.ensures) c.self.invariant.of_shift.shop

pub work-returned-requires-clause-seat : goal.work-returned-requires-clause-seat
work-returned-requires-clause-seat g c _ _ =
    subst (λ s. IsFreshSeat g.T.MemoryTable.table s.shop.board c.self.inside.seat) (sym c.deref.ensures) c.self.invariant.fresh

pub leave-requires-clause-kept : goal.leave-requires-clause-kept
leave-requires-clause-kept g c =
    let table = g.T.MemoryTable.table in
    let returned = c.work-returned.result in
    let labelled =
    ap (λ (s : Shift g.row.T.Denot g.row.X.Denot g.row.G.Denot). (label_of s.trays).0.value) c.deref-2.ensures
    ∙ c.self.invariant.of_shift.labelled ∙ sym (ap (λ s. s.shop.board) c.deref.ensures) in
    subst (λ board. IsReturned table board 1 returned) (sym labelled)
    (subst (λ n. IsReturned table c.deref.result.now.shop.board n returned) c.self.invariant.one c.work-returned.ensures)

pub leave-requires-clause-within : goal.leave-requires-clause-within
leave-requires-clause-within g c = subst (λ s. c.self.inside.place < tray_count s.trays) (sym c.deref-2.ensures) c.self.invariant.within
