use Rattle.board.proofs.Common.{rules, ◌∙◌, refl}
use Rattle.board.specs.Boards.{plan_of}
use Rattle.board.proofs.Steps.{claim_allowed}
use Rattle.board.proofs.Calls.{with_step, at_rest, word_within, claim_won, claim_held, claim_taken, claim_refused}
use Rattle.board.proofs.boards.Board.claim.Goals as goal

pub compare_exchange-found-requires-whole : goal.compare_exchange-found-requires-whole
compare_exchange-found-requires-whole g c κs w =
    let table = g.T.MemoryTable.table in
    let plan = plan_of table c.args.self.now in
    let me = c.args.seat.now.raw.me in
    let is = c.requires.seat in
    with_step w (
      is.id,
      word_within c.args.self.now c.args.i c.requires.within,
      claim_allowed table plan _ _ me me.0.seat is.rests.parts
          (at_rest plan me is.plan is.rests) c.args.i c.requires.within,
    )

pub take_out-requires : goal.take_out-requires
take_out-requires g c = record {
  within = c.requires.within;
  id = c.compare_exchange-found.ensures.0 ∙ c.requires.seat.id;
  out = claim_won g.T.MemoryTable.table c.args.self.now c.args.seat.now c.args.i c.compare_exchange-found.result c.compare_exchange-found.new.seat.me
      c.requires.seat c.compare_exchange-found.ensures.2 (search rules);
}

pub returns-then-found-eq-READY-clause-seat : goal.returns-then-found-eq-READY-clause-seat
returns-then-found-eq-READY-clause-seat g c =
    (claim_held g.T.MemoryTable.table c.args.self.now c.args.seat.now c.args.i c.compare_exchange-found.result c.compare_exchange-found.new.seat.me
    c.requires.seat c.compare_exchange-found.ensures.2 (search rules) c.take_out.result (record c.args.seat.now { raw = c.take_out.new.raw })
    c.requires.within c.take_out.ensures.is_hold
    (c.take_out.ensures.id ∙ c.compare_exchange-found.ensures.0) c.take_out.ensures.seat).0

pub returns-then-found-eq-READY-clause-claim : goal.returns-then-found-eq-READY-clause-claim
returns-then-found-eq-READY-clause-claim g c =
    (claim_held g.T.MemoryTable.table c.args.self.now c.args.seat.now c.args.i c.compare_exchange-found.result c.compare_exchange-found.new.seat.me
    c.requires.seat c.compare_exchange-found.ensures.2 (search rules) c.take_out.result (record c.args.seat.now { raw = c.take_out.new.raw })
    c.requires.within c.take_out.ensures.is_hold
    (c.take_out.ensures.id ∙ c.compare_exchange-found.ensures.0) c.take_out.ensures.seat).1

pub returns-then-found-eq-TAKEN-clause-seat : goal.returns-then-found-eq-TAKEN-clause-seat
returns-then-found-eq-TAKEN-clause-seat g c =
    (claim_taken g.T.MemoryTable.table c.args.self.now c.args.seat.now c.args.i c.compare_exchange-found.result c.compare_exchange-found.new.seat.me
    c.requires.seat c.compare_exchange-found.ensures.2 (search rules) (record c.args.seat.now { raw = c.compare_exchange-found.new.seat })
    c.compare_exchange-found.ensures.0 refl).0

pub returns-then-found-eq-TAKEN-clause-claim : goal.returns-then-found-eq-TAKEN-clause-claim
returns-then-found-eq-TAKEN-clause-claim g c =
    (claim_taken g.T.MemoryTable.table c.args.self.now c.args.seat.now c.args.i c.compare_exchange-found.result c.compare_exchange-found.new.seat.me
    c.requires.seat c.compare_exchange-found.ensures.2 (search rules) (record c.args.seat.now { raw = c.compare_exchange-found.new.seat })
    c.compare_exchange-found.ensures.0 refl).1

pub returns-else-found-eq-TAKEN-clause-seat : goal.returns-else-found-eq-TAKEN-clause-seat
returns-else-found-eq-TAKEN-clause-seat g c =
    (claim_refused g.T.MemoryTable.table c.args.self.now c.args.seat.now c.args.i c.compare_exchange-found.result c.compare_exchange-found.new.seat.me
    c.requires.seat c.compare_exchange-found.ensures.2 (search rules) (search rules) (record c.args.seat.now { raw = c.compare_exchange-found.new.seat })
    c.compare_exchange-found.ensures.0 refl).0

pub returns-else-found-eq-TAKEN-clause-claim : goal.returns-else-found-eq-TAKEN-clause-claim
returns-else-found-eq-TAKEN-clause-claim g c =
    (claim_refused g.T.MemoryTable.table c.args.self.now c.args.seat.now c.args.i c.compare_exchange-found.result c.compare_exchange-found.new.seat.me
    c.requires.seat c.compare_exchange-found.ensures.2 (search rules) (search rules) (record c.args.seat.now { raw = c.compare_exchange-found.new.seat })
    c.compare_exchange-found.ensures.0 refl).1
