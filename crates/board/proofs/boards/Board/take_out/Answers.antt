use Rattle.board.proofs.Common.{List, ℕ, Option, get_or, same_Some, sym, ap, ◌∙◌, refl, ◌∷◌, [], None, Some, none, step, exchange_at}
use Rattle.board.specs.Boards.{plan_of}
use Rattle.board.specs.Plan.{initiator_of, responder_of}
use Rattle.board.specs.Seats.{view}
use Rattle.board.proofs.Steps.{empty_allowed}
use Rattle.board.proofs.Calls.{with_rows, with_step, word_zero, first_out, second_in, second_out, both_out, emptied_of}
use Rattle.board.proofs.boards.Board.take_out.Goals as goal

pub exchange-responder-requires-whole : goal.exchange-responder-requires-whole
exchange-responder-requires-whole g c κs w =
    let plan = plan_of g.T.MemoryTable.table c.args.self.now in
    let out = c.requires.out in
    let found = c.exchange-exchange.ensures.value ∙ ap (λ l. exchange_at l.exchanges c.args.i) c.args.self.now.planned.1 in with_rows w (
      c.requires.id,
      first_out (view plan c.args.raw.now.me.0.seat (c.args.i ∷ []) []) (initiator_of plan c.args.i) (responder_of plan c.args.i) (initiator_of plan c.args.i)
          c.exchange-exchange.result.responder (Some out.initiator) (Some out.responder) None c.args.raw.now.me c.args.raw.now.me c.args.raw.now.me
          out.seat refl (ap (λ e. e.responder) found),
    )

pub exchange-initiator-requires-whole : goal.exchange-initiator-requires-whole
exchange-initiator-requires-whole g c κs w =
    let plan = plan_of g.T.MemoryTable.table c.args.self.now in
    let out = c.requires.out in
    let found = c.exchange-exchange.ensures.value ∙ ap (λ l. exchange_at l.exchanges c.args.i) c.args.self.now.planned.1 in with_rows w (
      c.turn.ensures.0 ∙ c.exchange-responder.ensures.0 ∙ c.requires.id,
      second_out (view plan c.args.raw.now.me.0.seat (c.args.i ∷ []) []) (initiator_of plan c.args.i) (responder_of plan c.args.i)
          c.exchange-exchange.result.initiator c.exchange-exchange.result.responder (Some out.initiator) (Some out.responder) None c.args.raw.now.me
          c.exchange-responder.new.seat.me c.turn.new.self.me
          out.seat (ap (λ e. e.initiator) found) (ap (λ e. e.responder) found) c.exchange-responder.ensures.3 c.turn.ensures.2,
    )

pub load-requires-whole : goal.load-requires-whole
load-requires-whole g c κs w =
    let plan = plan_of g.T.MemoryTable.table c.args.self.now in
    let out = c.requires.out in
    let found = c.exchange-exchange.ensures.value ∙ ap (λ l. exchange_at l.exchanges c.args.i) c.args.self.now.planned.1 in with_step w (
      c.exchange-initiator.ensures.0 ∙ c.turn.ensures.0 ∙ c.exchange-responder.ensures.0 ∙ c.requires.id,
      word_zero c.args.self.now,
      empty_allowed g.T.MemoryTable.table plan _ _ c.exchange-initiator.new.seat.me c.args.raw.now.me.0.seat out.parts c.args.i
          (both_out (view plan c.args.raw.now.me.0.seat (c.args.i ∷ []) []) (initiator_of plan c.args.i) (responder_of plan c.args.i)
          c.exchange-exchange.result.initiator c.exchange-exchange.result.responder (Some out.initiator) (Some out.responder) None c.args.raw.now.me
          c.exchange-responder.new.seat.me c.turn.new.self.me
          out.seat (ap (λ e. e.initiator) found) (ap (λ e. e.responder) found) c.exchange-responder.ensures.3 c.turn.ensures.2 None
          c.exchange-initiator.new.seat.me c.exchange-initiator.ensures.3),
    )

pub returns : goal.returns
returns g c =
    let plan = plan_of g.T.MemoryTable.table c.args.self.now in
    let out = c.requires.out in
    let found = c.exchange-exchange.ensures.value ∙ ap (λ l. exchange_at l.exchanges c.args.i) c.args.self.now.planned.1 in
    let table = g.T.MemoryTable.table in
    let found_in : List (ℕ × Option g.row.T.Denot) → Option g.row.T.Denot = λ l. (get_or l 0 (0, None)).1 in
    let second =
    second_in (view plan c.args.raw.now.me.0.seat (c.args.i ∷ []) []) (initiator_of plan c.args.i) (responder_of plan c.args.i)
    c.exchange-exchange.result.initiator c.exchange-exchange.result.responder (Some out.initiator) (Some out.responder) None c.args.raw.now.me
    c.exchange-responder.new.seat.me c.turn.new.self.me
    out.seat (ap (λ e. e.initiator) found) (ap (λ e. e.responder) found) c.exchange-responder.ensures.3 c.turn.ensures.2 in record {
      id = c.load.ensures.0 ∙ c.exchange-initiator.ensures.0 ∙ c.turn.ensures.0 ∙ c.exchange-responder.ensures.0;
      seat =
          emptied_of g.T.MemoryTable.table plan c.args.raw.now.me.0.seat c.args.i c.load.result c.exchange-initiator.new.seat.me c.load.new.seat.me
          (step c.args.self.now.table.shared.table_id.slots 0 0 0 none) _
          (both_out (view plan c.args.raw.now.me.0.seat (c.args.i ∷ []) []) (initiator_of plan c.args.i) (responder_of plan c.args.i)
          c.exchange-exchange.result.initiator c.exchange-exchange.result.responder (Some out.initiator) (Some out.responder) None c.args.raw.now.me
          c.exchange-responder.new.seat.me c.turn.new.self.me
          out.seat (ap (λ e. e.initiator) found) (ap (λ e. e.responder) found) c.exchange-responder.ensures.3 c.turn.ensures.2 None
          c.exchange-initiator.new.seat.me c.exchange-initiator.ensures.3)
          c.load.ensures.2;
      is_hold = record {
        index = refl;
        initiator =
            ap table (same_Some c.in-Some-Some.initiator out.initiator (sym c.in-Some-Some.is-0 ∙ ap found_in (sym c.exchange-initiator.ensures.2
            ∙ (λ k. (second k).1))))
            ∙ out.first;
        responder =
            ap table (same_Some c.in-Some-Some.responder out.responder (sym c.in-Some-Some.is-1 ∙ ap found_in (sym c.exchange-responder.ensures.2
            ∙ (λ k. (out.seat k).1))))
            ∙ out.second;
      };
    }
