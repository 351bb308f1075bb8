use Rattle.planner.proofs.Common.{set, subst, sym, arith, IsPlanned, exchange_at, no_exchange}
use Rattle.planner.proofs.Places.{taken_out, read_through}
use Rattle.planner.proofs.plays.take_out.Goals as goal

pub returns-clause-state : goal.returns-clause-state
returns-clause-state c = λ rules.
    let es = c.args.list.now.exchanges in
    let read = c.exchanges.result.now in
    let same = c.exchanges.ensures.value in
    let planned : IsPlanned c.args.list.now.nodes (exchange_at read c.args.i) = subst (λ l. IsPlanned c.args.list.now.nodes (exchange_at l c.args.i)) (sym same) (c.exchanges.ensures.kept.planned c.args.i no_exchange c.requires.within) in
    taken_out rules es read same c.args.i c.args.places.now.homes.items c.args.places.now.out.items c.args.places.now.records.items
    (omega (arith, planned.initiator, c.requires.places.homes)) (omega (arith, planned.responder, c.requires.places.homes)) planned.apart (omega (arith, c.requires.within, c.requires.places.out))
    c.take-initiator.result c.take-responder.result c.take-initiator.new.self c.take-responder.new.self c.both.result
    (read_through c.args.places.now.homes.items (exchange_at read c.args.i).initiator c.take-initiator.result c.index_mut.result.now c.take-initiator.ensures.value c.index_mut.ensures.value) c.take-initiator.ensures.after (read_through (set c.args.places.now.homes.items (exchange_at read c.args.i).initiator c.take-initiator.new.self) (exchange_at read c.args.i).responder c.take-responder.result c.index_mut-2.result.now c.take-responder.ensures.value c.index_mut-2.ensures.value) c.take-responder.ensures.after c.both.ensures
