use Rattle.workers.proofs.Common.{refl, seat_view}
use Rattle.workers.proofs.Holds.{hold_meets, hold_fits, hold_returns, sent_in_order}
use Rattle.workers.proofs.workers.Workshop.carry_out.Goals as goal

pub exchange-requires-clause-tables : goal.exchange-requires-clause-tables
exchange-requires-clause-tables g c =
    hold_meets g.T.MemoryTable.table g.X.Exchanging.fits c.args.self.now c.requires.shop c.args.hold c.requires.hold.is_hold c.exchange-plan.result c.exchange-plan.ensures.value c.exchange-plan.ensures.kept (c.requires.hold.of_board.within c.args.hold.index c.requires.hold.held)

pub exchange-requires-clause-fits : goal.exchange-requires-clause-fits
exchange-requires-clause-fits g c =
    let laws = g.met.X.Exchanging g.world.𝓛 g.world.𝓜 g.world.𝓡 ((λ s x. x), (λ x. x), (λ x. x), λ x. x) in
    hold_fits g.T.MemoryTable.table g.X.Exchanging.fits c.args.self.now c.requires.shop c.args.hold c.requires.hold.is_hold c.exchange-plan.result c.exchange-plan.ensures.value c.exchange-plan.ensures.kept (c.requires.hold.of_board.within c.args.hold.index c.requires.hold.held) (laws.stays_fit c.args.self.now.shared)

pub put_back-freed-requires-clause-hold : goal.put_back-freed-requires-clause-hold
put_back-freed-requires-clause-hold g c =
    hold_returns g.T.MemoryTable.table g.X.Exchanging.fits c.args.self.now c.requires.shop c.args.hold c.requires.hold.is_hold c.exchange-plan.result c.exchange-plan.ensures.value c.exchange.new.initiator c.exchange.new.responder c.in_ok-outcome.outcome c.in_ok-outcome.ensures.ok (seat_view c.args.seat.now) c.requires.hold.held

pub returns-clause-done : goal.returns-clause-done
returns-clause-done g c =
    record {
      index = refl;
      stamp = record {
        within = c.requires.hold.of_board.within c.args.hold.index c.requires.hold.held;
        sent = sent_in_order g.T.MemoryTable.table g.X.Exchanging.fits c.args.self.now c.requires.shop c.args.hold c.requires.hold.is_hold c.exchange-plan.result c.exchange-plan.ensures.value c.exchange.new.initiator c.exchange.new.responder c.in_ok-outcome.outcome c.in_ok-outcome.ensures.ok;
      };
      put_back = c.put_back-freed.ensures.put_back;
    }
