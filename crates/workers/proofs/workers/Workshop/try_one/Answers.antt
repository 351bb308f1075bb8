use Rattle.workers.proofs.Common.{◌≡◌, ℕ, List, [], ◌∷◌, ◌++◌, map, All, refl, sym, ap, ◌∙◌, subst, append_assoc, append-nil, map-append, All-push, SeatView, BoardPlan, Freed, Hold, as_list, plan_of, seat_view, Table, Board, IsHoldOf, IsSeatOf, now_held}
use Rattle.board.specs.declared.boards.Claim.{Claim}
use Rattle.board.specs.declared.boards.Claim.TheVariants.{Held, NotReady, Taken}
use Rattle.board.specs.declared.boards.Seat.{Seat}
use Rattle.board.specs.Boards.{Claims, IsPutBack}
use Rattle.board.specs.SeatView.{with_held}
use Rattle.workers.specs.declared.gathering.Stamped.{Stamped}
use Rattle.work.specs.Pushes.{pushed}
use Rattle.workers.specs.declared.workers.Worker.{Worker}
use Rattle.workers.specs.inner.AtWork.{HasWorked, StaysAtWork}
use Rattle.workers.specs.inner.Returns.{HasDone, HasRecords, IsRecordOf, AreRecordsOf}
use Rattle.workers.proofs.workers.Workshop.try_one.Goals as goal

-- what was put behind twice was put behind together
both_behind : (l m n first second : List ℕ) → m ≡ l ++ first → n ≡ m ++ second → n ≡ l ++ (first ++ second)
both_behind l m n first second once twice = twice ∙ ap (λ k. k ++ second) once ∙ append_assoc l first second

-- what a claim and then the release of what waited for it have freed
freed_more : (plan : BoardPlan) (old claimed new : SeatView) (i j : ℕ) (freed : Freed) → claimed ≡ with_held old j
    → IsPutBack plan claimed i freed new → new.freed ≡ old.freed ++ (as_list freed.first ++ as_list freed.second)
freed_more plan old claimed new i j freed held put_back =
    both_behind old.freed (claimed.freed ++ as_list freed.first) new.freed (as_list freed.first) (as_list freed.second)
    (ap (λ (v : SeatView). v.freed ++ as_list freed.first) held) (ap (λ (v : SeatView). v.freed) put_back.seat)

-- the records that a worker keeps, with one more
one_more_record : (plan : BoardPlan) (old claimed new : SeatView) (stamps more : List Stamped) (i j : ℕ) (stamped : Stamped) (freed : Freed)
    → claimed ≡ with_held old j → more ≡ stamps ++ stamped ∷ []
    → AreRecordsOf plan old stamps → HasDone plan claimed i stamped freed new → AreRecordsOf plan new more
one_more_record plan old claimed new stamps more i j stamped freed held pushed so_far done = record {
  made =
      ap (map (λ (s : Stamped). s.index)) pushed
      ∙ map-append (λ (s : Stamped). s.index) stamps (stamped ∷ [])
      ∙ ap (λ l. l ++ stamped.index ∷ []) (so_far.made ∙ sym (ap (λ (v : SeatView). v.made) held))
      ∙ ap (λ j. claimed.made ++ j ∷ []) done.index
      ∙ sym (ap (λ (v : SeatView). v.made) done.put_back.seat);
  each = subst (All (IsRecordOf plan)) (sym pushed) (All-push (IsRecordOf plan) stamps stamped so_far.each done.stamp);
}

-- a seat that puts back what it has claimed stays at work
stays_done : {T : Type 0} {table : T → Table} {board : Board T} {old new : Worker T} {claimed : SeatView} {i : ℕ} {freed : Freed} (j : ℕ)
    → IsSeatOf table new.seat board → claimed ≡ with_held (seat_view old.seat) j
    → IsPutBack (plan_of table board) claimed i freed (seat_view new.seat) → StaysAtWork table board old new
stays_done j of_board held put_back = record {
  of_board = of_board;
  parts = ap (λ (v : SeatView). v.parts) put_back.seat ∙ ap (λ (v : SeatView). v.parts) held;
  is_halted = ap (λ (v : SeatView). v.is_halted) put_back.seat ∙ ap (λ (v : SeatView). v.is_halted) held;
}

-- a claim that is refused leaves a worker as it was, but for what its seat was told
module _ {T : Type 0} (table : T → Table) (board : Board T) (old : Worker T) (seat : Seat T) where
  abbrev new : Worker T
  new = record old { seat = seat }

  abbrev Idles : Type 0
  Idles = record { stays : StaysAtWork table board old new; worked : HasWorked table board old new }

  idle : IsSeatOf table seat board → (told : List ℕ) → seat_view seat ≡ record (seat_view old.seat) { told = told }
      → HasRecords table board old.seat old.stamps.items → Idles
  idle of_board told same records = record {
    stays = record { of_board = of_board; parts = ap (λ (v : SeatView). v.parts) same; is_halted = ap (λ (v : SeatView). v.is_halted) same };
    worked = record {
      records = record { made = records.made ∙ sym (ap (λ (v : SeatView). v.made) same); each = records.each };
      pushes = record { ready = []; freed = ap (λ (v : SeatView). v.freed) same ∙ sym (append-nil _); pushed = sym (append-nil _) };
    };
  }

  not_held : (i : ℕ) (claim : Claim T) → ((hold : Hold T) → claim ≡ Held hold → ⊥) → IsSeatOf table seat board
      → Claims table (plan_of table board) (seat_view old.seat) i claim (seat_view seat) → HasRecords table board old.seat old.stamps.items → Idles
  not_held i (Held hold) not_so of_board came records = absurd (not_so hold refl)
  not_held i Taken not_so of_board came records = idle of_board _ came.0 records
  not_held i NotReady not_so of_board came records = idle of_board _ came.0 records

pub carry_out-requires-clause-hold : goal.carry_out-requires-clause-hold
carry_out-requires-clause-hold g c =
    let plan = plan_of g.T.MemoryTable.table c.args.self.now.board in
    let claim = c.in-Held.ensures.claim in
    λ _ _. record {
      of_board = c.claim.ensures.seat;
      held = now_held g.T.MemoryTable.table plan (seat_view c.args.worker.now.seat) c.args.i c.in-Held.hold (seat_view c.claim.new.seat) claim;
      is_hold = subst (λ k. IsHoldOf g.T.MemoryTable.table plan k c.in-Held.hold) (sym claim.0.index) claim.0;
    }

pub returns-clause-worked : goal.returns-clause-worked
returns-clause-worked g c =
    let plan = plan_of g.T.MemoryTable.table c.args.self.now.board in
    let old = seat_view c.args.worker.now.seat in
    let claimed = seat_view c.claim.new.seat in
    let new = seat_view c.carry_out.new.seat in
    let i = c.in-Held.hold.index in
    let freed = c.in_ok-stamped.freed in
    let held = c.in-Held.ensures.claim.1 in
    let done = c.in_ok-stamped.ensures.done in
    record {
      records =
          one_more_record plan old claimed new c.args.worker.now.stamps.items c.push.new.self.items i c.args.i c.in_ok-stamped.stamped freed
          held c.in_ok-push.ensures.items c.requires.worker.records done;
      pushes = record {
        ready = as_list freed.first ++ as_list freed.second;
        freed = freed_more plan old claimed new i c.args.i freed held done.put_back;
        pushed = both_behind (pushed c.args.worker.now.tasks) (pushed c.push_freed.new.self) (pushed c.push_freed-2.new.self)
            (as_list freed.first) (as_list freed.second) c.in_ok-push_freed.ensures.pushed c.in_ok-push_freed-2.ensures.pushed;
      };
    }

pub returns-in_err-push_freed-2-clause-stays : goal.returns-in_err-push_freed-2-clause-stays
returns-in_err-push_freed-2-clause-stays g c =
    stays_done c.args.i c.carry_out.ensures.seat c.in-Held.ensures.claim.1 c.in_ok-stamped.ensures.done.put_back

pub returns-in_err-push_freed-clause-stays : goal.returns-in_err-push_freed-clause-stays
returns-in_err-push_freed-clause-stays g c =
    stays_done c.args.i c.carry_out.ensures.seat c.in-Held.ensures.claim.1 c.in_ok-stamped.ensures.done.put_back

pub returns-clause-stays : goal.returns-clause-stays
returns-clause-stays g c =
    stays_done c.args.i c.carry_out.ensures.seat c.in-Held.ensures.claim.1 c.in_ok-stamped.ensures.done.put_back

pub returns-in_default : goal.returns-in_default
returns-in_default g c = not_held g.T.MemoryTable.table c.args.self.now.board c.args.worker.now c.claim.new.seat c.args.i c.claim.result c.in_default.not-Held
    c.claim.ensures.seat c.claim.ensures.claim c.requires.worker.records

pub returns-in_err-push-clause-stays : goal.returns-in_err-push-clause-stays
returns-in_err-push-clause-stays g c =
    stays_done c.args.i c.carry_out.ensures.seat c.in-Held.ensures.claim.1 c.in_ok-stamped.ensures.done.put_back
