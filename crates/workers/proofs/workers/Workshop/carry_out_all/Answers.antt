use Rattle.workers.proofs.Common.{◌≡◌, ℕ, ◌⊎◌, Bool, true, false, arith, [], length, ◌++◌, append_assoc, append-nil, inl, inr, refl, rules, sym, ap, subst, ◌∙◌, Table, SeatView, BoardPlan, plan_of, seat_view, Board, IsSeatOf}
use Rattle.board.specs.SeatView.{having_seen}
use Rattle.board.specs.declared.boards.Seat.{Seat}
use Rattle.work.specs.Pushes.{pushed}
use Rattle.work.specs.declared.tasks.Tasks.{Tasks}
use Rattle.workers.specs.declared.workers.Worker.{Worker}
use Rattle.workers.specs.inner.AtWork.{HasWorked, StaysAtWork}
use Rattle.workers.specs.inner.Returns.{SeesTheEnd}
use Rattle.workers.proofs.workers.Workshop.carry_out_all.Goals as goal
use Rattle.workers.proofs.workers.Workshop.carry_out_all.Goals.{in-None, in-Some+then-progress}

-- a look, and what is taken then, leave what the seat has put back, freed and pushed
module _ {T : Type 0} (table : T → Table) (board : Board T) (old worker : Worker T) (seat : Seat T) (tasks : Tasks) (finished : ℕ) (is_stopped : Bool) where
  still_stays : IsSeatOf table seat board → seat_view seat ≡ having_seen (seat_view worker.seat) finished is_stopped
      → StaysAtWork table board old worker → StaysAtWork table board old (record worker { seat = seat; tasks = tasks })
  still_stays of_board looked stays = record {
    of_board = of_board;
    parts = ap (λ (v : SeatView). v.parts) looked ∙ stays.parts;
    is_halted = ap (λ (v : SeatView). v.is_halted) looked ∙ stays.is_halted;
  }

  still_worked : seat_view seat ≡ having_seen (seat_view worker.seat) finished is_stopped → pushed tasks ≡ pushed worker.tasks
      → HasWorked table board old worker → HasWorked table board old (record worker { seat = seat; tasks = tasks })
  still_worked looked kept worked = record {
    records = record { made = worked.records.made ∙ sym (ap (λ (v : SeatView). v.made) looked); each = worked.records.each };
    pushes = record {
      ready = worked.pushes.ready;
      freed = ap (λ (v : SeatView). v.freed) looked ∙ worked.pushes.freed;
      pushed = kept ∙ worked.pushes.pushed;
    };
  }

-- one more exchange was tried
stays_on : {T : Type 0} (table : T → Table) (board : Board T) (old mid new : Worker T)
    → StaysAtWork table board old mid → StaysAtWork table board mid new → StaysAtWork table board old new
stays_on table board old mid new first later = record {
  of_board = later.of_board;
  parts = later.parts ∙ first.parts;
  is_halted = later.is_halted ∙ first.is_halted;
}

worked_on : {T : Type 0} (table : T → Table) (board : Board T) (old mid new : Worker T)
    → HasWorked table board old mid → HasWorked table board mid new → HasWorked table board old new
worked_on table board old mid new first later = record {
  records = later.records;
  pushes = record {
    ready = first.pushes.ready ++ later.pushes.ready;
    freed = later.pushes.freed ∙ ap (λ l. l ++ later.pushes.ready) first.pushes.freed
        ∙ append_assoc (seat_view old.seat).freed first.pushes.ready later.pushes.ready;
    pushed = later.pushes.pushed ∙ ap (λ l. l ++ later.pushes.ready) first.pushes.pushed
        ∙ append_assoc (pushed old.tasks) first.pushes.ready later.pushes.ready;
  };
}

-- a look at which all are finished, or a stop was called, sees the end
looked_at_end : (plan : BoardPlan) (old new : SeatView) (finished : ℕ) (is_stopped : Bool) (count : ℕ) → new ≡ having_seen old finished is_stopped
    → count ≡ length plan.list.exchanges → (is_stopped ≡ true) ⊎ ((is_stopped ≡ false) × (finished ≡ count)) → SeesTheEnd plan new
looked_at_end plan old new finished is_stopped count looked all (inl stop) = inr (ap (λ (v : SeatView). v.is_stopped) looked ∙ stop)
looked_at_end plan old new finished is_stopped count looked all (inr more) = inl (ap (λ (v : SeatView). v.seen) looked ∙ more.1 ∙ all)

pub returns-clause-worked : goal.returns-clause-worked
returns-clause-worked g c =
    let table = g.T.MemoryTable.table in
    let board = c.args.self.now.board in
    let worked = c.loop.invariant.worked in
    record {
      worked = elim c.match-next.branch [
        | in-None w ↦ subst (HasWorked table board c.args.worker.now) (sym w.worker-is) worked
        | in-Some+then-progress w ↦
            let looked = w.look-progress.ensures.progress.0 in
            subst (HasWorked table board c.args.worker.now) (sym w.worker-is)
            (still_worked table board c.args.worker.now c.loop.worker w.look-progress.new.seat c.loop.worker.tasks _ _ looked refl worked)
      ];
      ends = elim c.match-next.branch [
        | in-None w ↦ search rules
        | in-Some+then-progress w ↦
            let look = w.look-progress in
            subst (λ (x : Worker g.row.T.Denot). SeesTheEnd (plan_of table board) (seat_view x.seat)) (sym w.worker-is)
            (looked_at_end (plan_of table board) (seat_view c.loop.worker.seat) (seat_view look.new.seat) look.result.finished look.result.stopped
            c.len-count.result look.ensures.progress.0 c.len-count.ensures w.then-progress.either)
      ];
    }

pub loop-preserved : goal.loop-preserved
loop-preserved g c =
    let looked = c.look-progress.ensures in
    let table = g.T.MemoryTable.table in
    let board = c.args.self.now.board in
    let seat = c.look-progress.new.seat in
    let tasks = c.next-in-loop.new.self in
    record {
      more = tt;
      finite = tt;
      stays = still_stays table board c.args.worker.now c.loop.worker seat tasks _ _ looked.seat looked.progress.0 c.loop.invariant.stays;
      worked = still_worked table board c.args.worker.now c.loop.worker seat tasks _ _ looked.progress.0 c.next-in-loop.ensures.kept
          c.loop.invariant.worked;
    }

pub loop-preserved-in-Some-next : goal.loop-preserved-in-Some-next
loop-preserved-in-Some-next g c =
    let looked = c.look-progress.ensures in
    let table = g.T.MemoryTable.table in
    let board = c.args.self.now.board in
    let seat = c.look-progress.new.seat in
    let tasks = c.next-in-loop.new.self in
    let tried = c.in_ok-try_one.ensures in
    record {
      more = tt;
      finite = tt;
      stays = stays_on table board c.args.worker.now _ c.try_one.new.worker
          (still_stays table board c.args.worker.now c.loop.worker seat tasks _ _ looked.seat looked.progress.0 c.loop.invariant.stays) tried.stays;
      worked = worked_on table board c.args.worker.now _ c.try_one.new.worker
          (still_worked table board c.args.worker.now c.loop.worker seat tasks _ _ looked.progress.0 c.next-in-loop.ensures.kept
          c.loop.invariant.worked) tried.worked;
    }

pub loop-init : goal.loop-init
loop-init g c =
    let at_work = c.requires.worker in
    record {
      more = tt;
      finite = tt;
      stays = record { of_board = at_work.of_board; parts = refl; is_halted = refl };
      worked = record { records = at_work.records; pushes = record { ready = []; freed = sym (append-nil _); pushed = sym (append-nil _) } };
    }

pub try_one-requires-clause-worker : goal.try_one-requires-clause-worker
try_one-requires-clause-worker g c _ _ =
    let looked = c.look-progress.ensures in
    let records = c.loop.invariant.worked.records in
    let made = records.made ∙ sym (ap (λ (v : SeatView). v.made) looked.progress.0) in
    record { of_board = looked.seat; records = record { made = made; each = records.each } }

pub returns-clause-stays : goal.returns-clause-stays
returns-clause-stays g c =
    let table = g.T.MemoryTable.table in
    let board = c.args.self.now.board in
    let old = c.args.worker.now in
    let stays = c.loop.invariant.stays in
    elim c.match-next.branch [
      | in-None w ↦ subst (StaysAtWork table board old) (sym w.worker-is) stays
      | in-Some+then-progress w ↦
          let look = w.look-progress in
          subst (StaysAtWork table board old) (sym w.worker-is)
          (still_stays table board old c.loop.worker look.new.seat c.loop.worker.tasks _ _ look.ensures.seat look.ensures.progress.0 stays)
    ]

pub try_one-requires-clause-within : goal.try_one-requires-clause-within
try_one-requires-clause-within g c _ _ = omega (arith, c.in-Some-next.ensures.within, c.len-count.ensures)

pub try_one-requires-clause-shop : goal.try_one-requires-clause-shop
try_one-requires-clause-shop g c _ _ = c.requires.shop

pub returns-in_err-try_one-clause-stays : goal.returns-in_err-try_one-clause-stays
returns-in_err-try_one-clause-stays g c =
    let looked = c.look-progress.ensures in
    let table = g.T.MemoryTable.table in
    let board = c.args.self.now.board in
    let old = c.args.worker.now in
    stays_on table board old _ c.try_one.new.worker
    (still_stays table board old c.loop.worker c.look-progress.new.seat c.next-in-loop.new.self _ _ looked.seat looked.progress.0 c.loop.invariant.stays)
    c.try_one.ensures.stays
