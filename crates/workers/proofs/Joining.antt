-- Seats and records of workers, taken in one after another.
-- Serves `take_all` and `take_one`.
use Rattle.workers.proofs.Common.{◌≡◌, ℕ, ◌+◌, ◌≤◌, ◌⊎◌, Bool, true, false, ◌||◌, if◌then◌else◌, List, ◌++◌, length, inl, inr, refl, sym, ap, ◌∙◌, subst, arith, Ok, IfOk, Vec, nat_le, Global, nat_tests, cases_lt, or_right, Table, SeatView, joined, BoardPlan, plan_of, seat_view, IsSeatOf, Board, Record, Has, times, only, total-append}
use Rattle.workers.specs.declared.gathering.Stamped.{Stamped}
use Rattle.workers.specs.inner.Stamps.{with_records}
use Rattle.workers.specs.inner.Gathering.{HoldsRecords, HasGathered}
use Rattle.workers.specs.inner.Returns.{AreRecordsOf, HasNoMoreToDo, IsReturned}
use Rattle.workers.specs.inner.Joined.{HasTakenIn}
use Rattle.workers.specs.declared.gathering.Gathered.{Gathered}
use Rattle.workers.specs.declared.workers.Returned.{Returned}
use Rattle.workers.proofs.Gathered.{stands_written, length-with_records}

greater_right : (a b : ℕ) → b ≤ (if nat_le a b then b else a)
greater_right a b = grind (arith, nat_tests)

or_false : (b : Bool) → (b || false) ≡ b
or_false true = refl
or_false false = refl

module _ (plan : BoardPlan) (old part : SeatView) where
  ends_joined : HasNoMoreToDo plan part → (length plan.list.exchanges ≤ (joined old part).seen) ⊎ ((joined old part).is_stopped ≡ true)
  ends_joined no_more = elim no_more.ends [
    | inl seen ↦ inl (omega (arith, greater_right old.seen part.seen, seen))
    | inr stopped ↦ inr (or_right old.is_stopped part.is_stopped stopped)
  ]

  -- the records of both
  holds_joined : (records : List Record) (stamps : List Stamped) → HoldsRecords plan old.made records → AreRecordsOf plan part stamps
      → HoldsRecords plan (old.made ++ part.made) (with_records records stamps)
  holds_joined records stamps holds more = record {
    size = length-with_records records stamps ∙ holds.size;
    each = λ i has. stands_written plan records stamps i holds.size more.each (elim (cases_lt 0 (times i old.made)) [
      | inl before ↦ inl (holds.each i before)
      | inr none ↦ inr (subst (λ made. Has made i) (sym more.made) (omega (arith, has, none, total-append (only i) old.made part.made)))
    ]);
  }

module _ {T : Type 0} (table : T → Table) (board : Board T) where
  pub returned_records : (returned : Returned T) (stamps : Vec Stamped Global) → IsReturned table board 1 returned → returned.outcome ≡ Ok stamps
      → AreRecordsOf (plan_of table board) (seat_view returned.seat) stamps.items
  returned_records returned stamps back was =
      (subst (λ r. IfOk r
      (λ (v : Vec Stamped Global). AreRecordsOf (plan_of table board) (seat_view returned.seat) v.items × HasNoMoreToDo (plan_of table board)
      (seat_view returned.seat))) was back.records).0

  pub taken_none : (g : Gathered T) → HasGathered table board g → HasTakenIn table board 0 g g
  taken_none g is = record { gathered = is; parts = omega arith; halted = refl; ends = λ some. absurd (omega (arith, some)) }

  pub taken_more : (k : ℕ) (start old new : Gathered T)
      → HasTakenIn table board k start old → HasTakenIn table board 1 old new → HasTakenIn table board (k + 1) start new
  taken_more k start old new so_far one = record {
    gathered = one.gathered;
    parts = omega (arith, one.parts, so_far.parts);
    halted = one.halted ∙ so_far.halted;
    ends = λ some. one.ends (omega arith);
  }

  pub taken_one : (old new : Gathered T) (returned : Returned T) (stamps : Vec Stamped Global) → HasGathered table board old
      → IsReturned table board 1 returned → returned.outcome ≡ Ok stamps
      → IsSeatOf table new.seat board → seat_view new.seat ≡ joined (seat_view old.seat) (seat_view returned.seat)
      → new.records.items ≡ with_records old.records.items stamps.items → HasTakenIn table board 1 old new
  taken_one old new returned stamps is back was of_board same written =
      let plan = plan_of table board in
      let part = seat_view returned.seat in
      let came = subst (λ r. IfOk r (λ stamps. AreRecordsOf plan part stamps.items × HasNoMoreToDo plan part)) was back.records in
      record {
        gathered = record {
          of_board = of_board;
          records = subst (λ (v : SeatView). HoldsRecords plan v.made new.records.items) (sym same)
              (subst (HoldsRecords plan (joined (seat_view old.seat) part).made) (sym written)
              (holds_joined plan (seat_view old.seat) part old.records.items stamps.items is.records came.0));
        };
        parts = ap (λ (v : SeatView). v.parts) same ∙ ap (λ n. (seat_view old.seat).parts + n) back.same_parts;
        halted = ap (λ (v : SeatView). v.is_halted) same ∙ ap (λ b. (seat_view old.seat).is_halted || b) came.1.unhalted
            ∙ or_false (seat_view old.seat).is_halted;
        ends = λ some. subst (λ (v : SeatView). (length plan.list.exchanges ≤ v.seen) ⊎ (v.is_stopped ≡ true)) (sym same)
            (ends_joined plan (seat_view old.seat) part came.1);
      }
