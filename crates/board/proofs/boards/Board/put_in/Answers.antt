use Rattle.board.proofs.Common.{ℕ, Option, ap, ◌∙◌, refl, ◌∷◌, [], None, Some, ◌≡◌, ◌+◌, none, Me, step, exchange_at}
use Rattle.board.specs.Boards.{plan_of}
use Rattle.board.specs.Plan.{BoardPlan, initiator_of, responder_of}
use Rattle.board.specs.SeatView.{SeatView, without_held}
use Rattle.board.specs.declared.views.View.{View}
use Rattle.board.specs.Seats.{view}
use Rattle.board.proofs.Steps.{retake_allowed, finish_allowed}
use Rattle.board.proofs.Calls.{with_rows, with_step, word_zero, word_within, first_out, second_out, both_out, retaken_of, finished_of}
use Rattle.board.proofs.boards.Board.put_in.Given as given
use Rattle.board.proofs.boards.Board.put_in.Goals as goal
use Rattle.board.proofs.boards.Board.put_in.Goals.{After-load, After-exchange-2}

pub load-requires-whole : goal.load-requires-whole
load-requires-whole g c κs w = with_step w (
  c.requires.id,
  word_within c.args.self.now c.args.hold.index c.requires.within,
  retake_allowed g.T.MemoryTable.table
      (plan_of g.T.MemoryTable.table c.args.self.now) _ _ c.args.raw.now.me c.args.raw.now.me.0.seat c.requires.parts c.requires.rests c.args.hold.index
      c.requires.may.held,
)

-- a seat on its way to put both tables of an exchange back
abbrev on_its_way : {T : Type 0} (plan : BoardPlan) (v : SeatView) (i : ℕ) → Me (Option T) View
on_its_way plan v i = (view plan (without_held v i) (i ∷ []) [], (responder_of plan i, None) ∷ (initiator_of plan i, None) ∷ [])

goes : (g : given.Over) (c : After-load g) → c.load.new.seat.me ≡ on_its_way (plan_of g.T.MemoryTable.table c.args.self.now) c.args.raw.now.me.0.seat
    c.args.hold.index
goes g c =
    let i = c.args.hold.index in
    retaken_of g.T.MemoryTable.table (plan_of g.T.MemoryTable.table c.args.self.now) c.args.raw.now.me.0.seat i c.load.result c.args.raw.now.me
    c.load.new.seat.me (step c.args.self.now.table.shared.table_id.slots (i + 1) 0 0 none) c.requires.rests refl c.load.ensures.2

pub exchange-requires-whole : goal.exchange-requires-whole
exchange-requires-whole g c κs w =
    let plan = plan_of g.T.MemoryTable.table c.args.self.now in
    let i = c.args.hold.index in
    let found = c.exchange-exchange.ensures.value ∙ ap (λ l. exchange_at l.exchanges i) c.args.self.now.planned.1 in with_rows w (
      c.load.ensures.0 ∙ c.requires.id,
      first_out (view plan (without_held c.args.raw.now.me.0.seat i) (i ∷ []) []) (initiator_of plan i) (responder_of plan i) (initiator_of plan i)
          c.exchange-exchange.result.responder None None None c.load.new.seat.me c.load.new.seat.me c.load.new.seat.me
          (goes g (goal.at.exchange-requires g c).After-load) refl (ap (λ e. e.responder) found),
    )

-- the initiator's slot is the next to be filled
pub exchange-requires-2-whole : goal.exchange-requires-2-whole
exchange-requires-2-whole g c κs w =
    let plan = plan_of g.T.MemoryTable.table c.args.self.now in
    let i = c.args.hold.index in
    let found = c.exchange-exchange.ensures.value ∙ ap (λ l. exchange_at l.exchanges i) c.args.self.now.planned.1 in with_rows w (
      c.turn.ensures.0 ∙ c.exchange.ensures.0 ∙ c.load.ensures.0 ∙ c.requires.id,
      second_out (view plan (without_held c.args.raw.now.me.0.seat i) (i ∷ []) []) (initiator_of plan i) (responder_of plan i)
          c.exchange-exchange.result.initiator c.exchange-exchange.result.responder None None (Some c.args.hold.responder) c.load.new.seat.me
          c.exchange.new.seat.me c.turn.new.self.me
          (goes g (goal.at.exchange-requires-2 g c).After-load) (ap (λ e. e.initiator) found) (ap (λ e. e.responder) found) c.exchange.ensures.3
          c.turn.ensures.2,
    )

-- and once both slots are filled
filled : (g : given.Over) (c : After-exchange-2 g) → c.load.new.seat.me ≡ on_its_way (plan_of g.T.MemoryTable.table c.args.self.now) c.args.raw.now.me.0.seat
    c.args.hold.index
    → c.exchange-2.new.seat.me ≡ (
      view (plan_of g.T.MemoryTable.table c.args.self.now) (without_held c.args.raw.now.me.0.seat c.args.hold.index)
          (c.args.hold.index ∷ []) [],
      (
        initiator_of (plan_of g.T.MemoryTable.table c.args.self.now) c.args.hold.index,
        Some
            c.args.hold.initiator,
      ) ∷ (responder_of (plan_of g.T.MemoryTable.table c.args.self.now) c.args.hold.index, Some c.args.hold.responder) ∷ [],
    )
filled g c out =
    let plan = plan_of g.T.MemoryTable.table c.args.self.now in
    let i = c.args.hold.index in
    let found = c.exchange-exchange.ensures.value ∙ ap (λ l. exchange_at l.exchanges i) c.args.self.now.planned.1 in
    both_out (view plan (without_held c.args.raw.now.me.0.seat i) (i ∷ []) []) (initiator_of plan i) (responder_of plan i) c.exchange-exchange.result.initiator
    c.exchange-exchange.result.responder None None (Some c.args.hold.responder) c.load.new.seat.me c.exchange.new.seat.me c.turn.new.self.me
    out (ap (λ e. e.initiator) found) (ap (λ e. e.responder) found) c.exchange.ensures.3 c.turn.ensures.2 (Some c.args.hold.initiator) c.exchange-2.new.seat.me
    c.exchange-2.ensures.3

pub fetch_add-requires-whole : goal.fetch_add-requires-whole
fetch_add-requires-whole g c κs w = with_step w (
  c.exchange-2.ensures.0 ∙ c.turn.ensures.0 ∙ c.exchange.ensures.0 ∙ c.load.ensures.0 ∙ c.requires.id,
  word_zero c.args.self.now,
  finish_allowed g.T.MemoryTable.table (plan_of g.T.MemoryTable.table c.args.self.now) _ _ c.exchange-2.new.seat.me
      (without_held c.args.raw.now.me.0.seat c.args.hold.index) c.requires.parts c.args.hold.index c.args.hold.initiator c.args.hold.responder
      c.requires.may.initiator c.requires.may.responder
      (filled g (goal.at.fetch_add-requires g c).After-exchange-2 (goes g (goal.at.fetch_add-requires g c).After-load)),
)

pub returns : goal.returns
returns g c = record {
  id = c.fetch_add.ensures.0 ∙ c.exchange-2.ensures.0 ∙ c.turn.ensures.0 ∙ c.exchange.ensures.0 ∙ c.load.ensures.0;
  seat =
      finished_of g.T.MemoryTable.table (plan_of g.T.MemoryTable.table c.args.self.now) c.args.raw.now.me.0.seat c.args.hold.index c.fetch_add.result
      c.exchange-2.new.seat.me c.fetch_add.new.seat.me (step c.args.self.now.table.shared.table_id.slots 0 2 0 none) _
      (filled g (goal.at.returns g c).After-exchange-2 (goes g (goal.at.returns g c).After-load)) c.fetch_add.ensures.2;
}
