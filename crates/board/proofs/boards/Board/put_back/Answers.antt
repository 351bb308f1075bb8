use Rattle.board.proofs.Common.{arith, RoundListView, ◌≡◌, refl, ap, sym, ◌∙◌, ◌<◌, subst, length, IfSome, successors}
use Rattle.board.specs.Boards.{plan_of, seat_view, exchanges_of, IsSeatOf, IsPutBack}
use Rattle.board.specs.declared.boards.Seat.{Seat}
use Rattle.board.specs.inner.Plays.{OwesTo, IsReleased}
use Rattle.board.proofs.Calls.{at_rest, seat_of_me, owes_first, owes_second, after_second, put_back_seat}
use Rattle.board.proofs.boards.Board.put_back.Given as given
use Rattle.board.proofs.boards.Board.put_back.Goals as goal

pub put_in-requires : goal.put_in-requires
put_in-requires g c = record {
  within = c.requires.seat.within c.args.hold.index c.requires.hold.held;
  id = c.requires.seat.id;
  rests = at_rest (plan_of g.T.MemoryTable.table c.args.self.now) c.args.seat.now.raw.me c.requires.seat.plan c.requires.seat.rests;
  parts = c.requires.seat.rests.parts;
  may = c.requires.hold;
}

pub release-first-requires : goal.release-first-requires
release-first-requires g c =
    let plan = plan_of g.T.MemoryTable.table c.args.self.now in
    let i = c.args.hold.index in
    let after = c.after-after.ensures ∙ ap (λ l. successors l.exchanges i) c.args.self.now.planned.1 in record {
      id = c.put_in.ensures.id ∙ c.requires.seat.id;
      owes =
          subst (λ x. IfSome x (λ j. (j < length (exchanges_of c.args.self.now)) × OwesTo plan c.put_in.new.raw.me j)) (sym (ap (λ a. a.first) after))
          (owes_first plan (seat_view c.args.seat.now) i c.put_in.new.raw.me c.put_in.ensures.seat c.requires.seat.rests.parts
          (c.requires.seat.within i c.requires.hold.held));
    }

pub release-second-requires : goal.release-second-requires
release-second-requires g c =
    let plan = plan_of g.T.MemoryTable.table c.args.self.now in
    let i = c.args.hold.index in
    let after = c.after-after.ensures ∙ ap (λ l. successors l.exchanges i) c.args.self.now.planned.1 in record {
      id = c.release-first.ensures.id ∙ c.put_in.ensures.id ∙ c.requires.seat.id;
      owes =
          subst (λ x. IfSome x (λ j. (j < length (exchanges_of c.args.self.now)) × OwesTo plan c.release-first.new.raw.me j)) (sym (ap (λ a. a.second) after))
          (owes_second plan (seat_view c.args.seat.now) i c.put_in.new.raw.me c.put_in.ensures.seat c.requires.seat.rests.parts
          (c.requires.seat.within i c.requires.hold.held) c.release-first.new.raw.me c.release-first.result
          (λ none. c.release-first.ensures.none (ap (λ a. a.first) after ∙ none))
          (subst (λ x. IfSome x (λ j. IsReleased plan c.put_in.new.raw.me j c.release-first.result c.release-first.new.raw.me)) (ap (λ a. a.first) after)
          c.release-first.ensures.released));
    }

-- what the two releases leave
put_back : (g : given.Over) (c : goal.After-release-second g) (new : Seat g.row.T.Denot) → new.raw ≡ c.release-second.new.raw
    → IsSeatOf g.T.MemoryTable.table new c.args.self.now
    × IsPutBack (plan_of g.T.MemoryTable.table c.args.self.now) (seat_view c.args.seat.now) c.args.hold.index
    (record { first = c.release-first.result; second = c.release-second.result }) (seat_view new)
put_back g c new is =
    let plan = plan_of g.T.MemoryTable.table c.args.self.now in
    let i = c.args.hold.index in
    let after = c.after-after.ensures ∙ ap (λ l. successors l.exchanges i) c.args.self.now.planned.1 in
    let both = after_second plan (seat_view c.args.seat.now) i c.put_in.new.raw.me c.put_in.ensures.seat c.requires.seat.rests.parts
    (c.requires.seat.within i c.requires.hold.held) c.release-first.new.raw.me c.release-first.result
    (λ none. c.release-first.ensures.none (ap (λ a. a.first) after ∙ none))
    (subst (λ x. IfSome x (λ j. IsReleased plan c.put_in.new.raw.me j c.release-first.result c.release-first.new.raw.me)) (ap (λ a. a.first) after)
    c.release-first.ensures.released)
    c.release-second.new.raw.me c.release-second.result (λ none. c.release-second.ensures.none (ap (λ a. a.second) after ∙ none))
    (subst (λ x. IfSome x (λ j. IsReleased plan c.release-first.new.raw.me j c.release-second.result c.release-second.new.raw.me))
    (ap (λ a. a.second) after) c.release-second.ensures.released) in
    let same : c.release-second.new.raw.table_id ≡ c.args.seat.now.raw.table_id = c.release-second.ensures.id ∙ c.release-first.ensures.id
    ∙ c.put_in.ensures.id in (
      put_back_seat g.T.MemoryTable.table c.args.self.now c.args.seat.now new i _ _ c.release-first.result c.release-second.result c.requires.seat
          c.requires.hold.held (ap (λ r. r.table_id) is ∙ same) (ap (λ r. r.me) is ∙ both.0),
      subst (IsPutBack plan (seat_view c.args.seat.now) i (record { first = c.release-first.result; second = c.release-second.result }))
          (sym (seat_of_me new.raw.me plan _ (ap (λ r. r.me) is ∙ both.0))) both.1,
    )

pub returns-clause-seat : goal.returns-clause-seat
returns-clause-seat g c = (put_back g c _ refl).0

pub returns-clause-put_back : goal.returns-clause-put_back
returns-clause-put_back g c = (put_back g c (record c.args.seat.now { raw = c.release-second.new.raw }) refl).1

pub after-after-requires : goal.after-after-requires
after-after-requires g c =
    let within = c.requires.seat.within c.args.hold.index c.requires.hold.held in
    record { within = omega (arith, within, ap (λ (l : RoundListView). length l.exchanges) c.args.self.now.planned.1) }
