use Rattle.workers.proofs.Common.{ℕ, List, arith, refl, sym, ap, subst, ◌∙◌, SeatView, IsSeatOf, plan_of, seat_view}
use Rattle.workers.specs.inner.Gathering.{HoldsRecords}
use Rattle.workers.specs.inner.Shifts.{IsTask}
use Rattle.workers.proofs.shifts.hand_out.Goals as goal

pub split-part-requires-clause-seat : goal.split-part-requires-clause-seat
split-part-requires-clause-seat g c =
    subst (λ s. IsSeatOf g.T.MemoryTable.table c.loop-own.gathered.seat s.shop.board) (sym c.deref.ensures) c.loop-own.invariant.seat.of_board

pub split-part-requires-clause-parts : goal.split-part-requires-clause-parts
split-part-requires-clause-parts g c =
    omega (arith, c.loop-own.invariant.parts, c.loop-own.invariant.count, c.into_iter-own-iterator.ensures.into_iter_gives.1, c.requires.several.1)

pub new-requires-after_bounds : goal.new-requires-after_bounds
new-requires-after_bounds g c _ _ =
    let start = c.requires in
    let kept = c.loop-own.invariant in
    let all = c.into_iter-own-iterator.ensures.into_iter_gives.1 in
    let part = c.split-part.result in
    let is = c.split-part.ensures.right in
    let of_board = subst (λ s. IsSeatOf g.T.MemoryTable.table part s.shop.board) c.deref.ensures c.split-part.ensures.seats.1 in
    subst (λ s. IsTask g.T.MemoryTable.table g.X.Exchanging.fits s part c.len-place.result) (sym c.in_ok-share.ensures) (record {
      of_shift = start.of_shift;
      fresh = record { of_board = of_board; made = ap (λ (v : SeatView). v.made) is; unhalted = ap (λ (v : SeatView). v.is_halted) is };
      one = ap (λ (v : SeatView). v.parts) is;
      within = omega (arith, kept.count, all, start.trays, c.in-Some.ensures.steps.1, c.len-place.ensures);
    })

pub loop-own-preserved : goal.loop-own-preserved
loop-own-preserved g c =
    let kept = c.loop-own.invariant in
    let pushed = c.push_reserved.ensures in
    let split = c.split-part.ensures in
    record {
      seat = record {
        of_board = subst (λ s. IsSeatOf g.T.MemoryTable.table c.split-part.new.seat s.shop.board) c.deref.ensures split.seats.0;
        made = ap (λ (v : SeatView). v.made) split.left ∙ kept.seat.made;
        unhalted = ap (λ (v : SeatView). v.is_halted) split.left ∙ kept.seat.unhalted;
      };
      records = kept.records;
      parts = omega (
        arith,
        ap (λ (v : SeatView). v.parts) split.left,
        kept.parts,
        kept.count,
        c.requires.several.1,
        c.into_iter-own-iterator.ensures.into_iter_gives.1,
        pushed.len,
      );
      count = omega (arith, c.in-Some.ensures.steps.1, kept.count, pushed.len);
      room = omega (arith, kept.room, pushed.capacity);
    }

pub returns-clause-handed : goal.returns-clause-handed
returns-clause-handed g c =
    let start = c.requires in
    let kept = c.loop-own.invariant in
    let plan = plan_of g.T.MemoryTable.table c.args.shift.now.value.shop.board in
    let none = ap (λ (v : SeatView). v.made) start.seat.first ∙ sym kept.seat.made in
    let records = subst (λ (made : List ℕ). HoldsRecords plan made c.args.gathered.now.records.items) none start.seat.has.records in
    let made = (seat_view c.loop-own.gathered.seat).made in
    record {
      of_shift = start.of_shift;
      has = record {
        of_board = kept.seat.of_board;
        records = subst (λ records. HoldsRecords plan made records.items) (sym kept.records) records;
      };
      parts = omega (arith, kept.parts, kept.count, c.in-None.ensures.steps.0, c.into_iter-own-iterator.ensures.into_iter_gives.1);
      unhalted = kept.seat.unhalted;
      some = omega (arith, start.several.0);
      trays = start.trays;
    }

pub loop-own-init : goal.loop-own-init
loop-own-init g c =
    let seat = c.requires.seat in
    let handed = c.in_ok-handed.ensures in
    let all = c.into_iter-own-iterator.ensures.into_iter_gives.1 in
    record {
      seat = record { of_board = seat.has.of_board; made = ap (λ (v : SeatView). v.made) seat.first; unhalted = ap (λ (v : SeatView). v.is_halted) seat.first };
      records = refl;
      parts = omega (arith, ap (λ (v : SeatView). v.parts) seat.first, handed.len);
      count = omega (arith, handed.len);
      room = omega (arith, handed.capacity, c.len.ensures, all);
    }
