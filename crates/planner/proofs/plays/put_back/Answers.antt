use Rattle.planner.proofs.Common.{◌<◌, ◌∙◌, subst, sym, arith, IsPlanned, exchange_at, no_exchange}
use Rattle.planner.proofs.Places.{come_back, taken_there, met}
use Rattle.planner.proofs.plays.put_back.Goals as goal

pub exchange-requires-clause-initiator : goal.exchange-requires-clause-initiator
exchange-requires-clause-initiator c =
    (met c.args.list.now.nodes c.requires.tables.0 c.args.list.now.exchanges c.exchanges.result.now c.args.i c.args.places.now.homes.items c.args.places.now.out.items c.args.places.now.records.items c.take.result c.index_mut.result.now c.in-Some.pair c.exchanges.ensures.value c.requires.tables.1 (omega (arith, c.requires.within, c.requires.places.out)) c.take.ensures.value c.index_mut.ensures.value c.in-Some.is).initiator.node

pub exchange-requires-clause-responder : goal.exchange-requires-clause-responder
exchange-requires-clause-responder c =
    (met c.args.list.now.nodes c.requires.tables.0 c.args.list.now.exchanges c.exchanges.result.now c.args.i c.args.places.now.homes.items c.args.places.now.out.items c.args.places.now.records.items c.take.result c.index_mut.result.now c.in-Some.pair c.exchanges.ensures.value c.requires.tables.1 (omega (arith, c.requires.within, c.requires.places.out)) c.take.ensures.value c.index_mut.ensures.value c.in-Some.is).responder.node

pub exchange-requires-clause-nodes : goal.exchange-requires-clause-nodes
exchange-requires-clause-nodes c =
    let both = met c.args.list.now.nodes c.requires.tables.0 c.args.list.now.exchanges c.exchanges.result.now c.args.i c.args.places.now.homes.items c.args.places.now.out.items c.args.places.now.records.items c.take.result c.index_mut.result.now c.in-Some.pair c.exchanges.ensures.value c.requires.tables.1 (omega (arith, c.requires.within, c.requires.places.out)) c.take.ensures.value c.index_mut.ensures.value c.in-Some.is in
    both.initiator.nodes ∙ sym both.responder.nodes

pub exchange-requires-clause-keys : goal.exchange-requires-clause-keys
exchange-requires-clause-keys c =
    let both = met c.args.list.now.nodes c.requires.tables.0 c.args.list.now.exchanges c.exchanges.result.now c.args.i c.args.places.now.homes.items c.args.places.now.out.items c.args.places.now.records.items c.take.result c.index_mut.result.now c.in-Some.pair c.exchanges.ensures.value c.requires.tables.1 (omega (arith, c.requires.within, c.requires.places.out)) c.take.ensures.value c.index_mut.ensures.value c.in-Some.is in
    both.initiator.keys ∙ sym both.responder.keys

pub exchange-requires-clause-rotation : goal.exchange-requires-clause-rotation
exchange-requires-clause-rotation c =
    let read = c.exchanges.result.now in
    let both = met c.args.list.now.nodes c.requires.tables.0 c.args.list.now.exchanges c.exchanges.result.now c.args.i c.args.places.now.homes.items c.args.places.now.out.items c.args.places.now.records.items c.take.result c.index_mut.result.now c.in-Some.pair c.exchanges.ensures.value c.requires.tables.1 (omega (arith, c.requires.within, c.requires.places.out)) c.take.ensures.value c.index_mut.ensures.value c.in-Some.is in
    let planned : IsPlanned c.args.list.now.nodes (exchange_at read c.args.i) = subst (λ l. IsPlanned c.args.list.now.nodes (exchange_at l c.args.i)) (sym c.exchanges.ensures.value) (c.exchanges.ensures.kept.planned c.args.i no_exchange c.requires.within) in
    subst (λ n. (exchange_at read c.args.i).rotation < n) (sym both.initiator.nodes) planned.rotation

pub returns-in_ok-record-clause-state : goal.returns-in_ok-record-clause-state
returns-in_ok-record-clause-state c =
    let read = c.exchanges.result.now in
    let places = c.args.places.now in
    let there = taken_there places.out.items c.args.i c.take.result c.index_mut.result.now c.in-Some.pair (omega (arith, c.requires.within, c.requires.places.out)) c.take.ensures.value c.index_mut.ensures.value c.in-Some.is in
    let planned : IsPlanned c.args.list.now.nodes (exchange_at read c.args.i) = subst (λ l. IsPlanned c.args.list.now.nodes (exchange_at l c.args.i)) (sym c.exchanges.ensures.value) (c.exchanges.ensures.kept.planned c.args.i no_exchange c.requires.within) in
    come_back c.args.rules.now c.args.list.now.exchanges read c.exchanges.ensures.value c.args.i places.homes.items places.out.items places.records.items
    (omega (arith, planned.initiator, c.requires.places.homes)) (omega (arith, planned.responder, c.requires.places.homes)) planned.apart (omega (arith, c.requires.within, c.requires.places.out))
    (omega (arith, c.requires.within, c.requires.places.records)) c.in-Some.pair c.exchange.new.initiator c.exchange.new.responder c.in_ok-record.record c.take.new.self there c.in_ok-record.ensures.ok c.take.ensures.after
