use Rattle.work.proofs.Common.{length, map, arith, IfOk-weaker, table_of_node}
use Rattle.work.proofs.Pairs.{front_table, back_table, front_fits, back_fits, may_be_exchanged, exchanged_low, exchanged_high}
use Rattle.work.proofs.in_order.exchange_pair.Goals as goal

pub returns-then-initiator-responder-clause-exchanged : goal.returns-then-initiator-responder-clause-exchanged
returns-then-initiator-responder-clause-exchanged g c =
    let split = c.split_at_mut-below in
    IfOk-weaker c.exchange.result _ _
    (λ r done records. exchanged_low g.T.MemoryTable.table c.args.work.now.rules.now c.args.plan.now c.args.tables.now split.result.0.now split.result.1.now
    split.ensures.value (omega (arith, split.ensures.back_len, c.requires.planned.responder)) _ _ c.exchange.new.initiator c.exchange.new.responder r
    split.ensures.front_len c.if-initiator-responder.true done records)
    c.exchange.ensures.ok

pub returns-else-initiator-responder-clause-exchanged : goal.returns-else-initiator-responder-clause-exchanged
returns-else-initiator-responder-clause-exchanged g c =
    let split = c.split_at_mut-below-else-initiator-responder in
    let after = c.exchange-else-initiator-responder in
    IfOk-weaker after.result _ _
    (λ r done records. exchanged_high g.T.MemoryTable.table c.args.work.now.rules.now c.args.plan.now c.args.tables.now split.result.0.now split.result.1.now
    split.ensures.value (omega (arith, split.ensures.back_len, c.requires.planned.initiator)) _ _ after.new.responder after.new.initiator r
    split.ensures.front_len (omega (arith, c.if-initiator-responder.false, c.requires.planned.apart)) done records)
    after.ensures.ok

pub exchange-requires-clause-tables : goal.exchange-requires-clause-tables
exchange-requires-clause-tables g c =
    let xs = c.args.tables.now in
    let split = c.split_at_mut-below in
    let nodes = length xs in
    let keys = (table_of_node (map g.T.MemoryTable.table xs) 0).keys in
    let first = front_table g.T.MemoryTable.table xs split.result.0.now split.result.1.now split.ensures.value nodes keys c.requires.tables.cluster
    c.index-below-initiator.result c.args.plan.now.initiator (omega (arith, split.ensures.front_len, c.if-initiator-responder.true))
    c.requires.planned.initiator in
    let second = back_table g.T.MemoryTable.table xs split.result.0.now split.result.1.now split.ensures.value nodes keys c.requires.tables.cluster
    c.index-from-0.result c.args.plan.now.responder split.ensures.front_len (omega (arith, split.ensures.back_len, c.requires.planned.responder))
    c.requires.planned.responder in
    may_be_exchanged nodes keys c.args.plan.now _ _ first second c.requires.planned.rotation

pub exchange-requires-clause-fits : goal.exchange-requires-clause-fits
exchange-requires-clause-fits g c =
    let xs = c.args.tables.now in
    let split = c.split_at_mut-below in
    let fits = g.X.Exchanging.fits c.args.work.now.shared.now in (
      front_fits g.T.MemoryTable.table xs split.result.0.now split.result.1.now split.ensures.value fits c.requires.tables.each_fits
          c.index-below-initiator.result c.args.plan.now.initiator (omega (arith, split.ensures.front_len, c.if-initiator-responder.true))
          c.requires.planned.initiator,
      back_fits g.T.MemoryTable.table xs split.result.0.now split.result.1.now split.ensures.value fits c.requires.tables.each_fits c.index-from-0.result
          c.args.plan.now.responder split.ensures.front_len (omega (arith, split.ensures.back_len, c.requires.planned.responder)) c.requires.planned.responder,
    )

pub exchange-requires-else-initiator-responder-clause-tables : goal.exchange-requires-else-initiator-responder-clause-tables
exchange-requires-else-initiator-responder-clause-tables g c =
    let xs = c.args.tables.now in
    let split = c.split_at_mut-below-else-initiator-responder in
    let nodes = length xs in
    let keys = (table_of_node (map g.T.MemoryTable.table xs) 0).keys in
    let first = back_table g.T.MemoryTable.table xs split.result.0.now split.result.1.now split.ensures.value nodes keys c.requires.tables.cluster
    c.index-from-0-else-initiator-responder.result c.args.plan.now.initiator split.ensures.front_len
    (omega (arith, split.ensures.back_len, c.requires.planned.initiator)) c.requires.planned.initiator in
    let second = front_table g.T.MemoryTable.table xs split.result.0.now split.result.1.now split.ensures.value nodes keys c.requires.tables.cluster
    c.index-below-responder.result c.args.plan.now.responder
    (omega (arith, split.ensures.front_len, c.if-initiator-responder.false, c.requires.planned.apart)) c.requires.planned.responder in
    may_be_exchanged nodes keys c.args.plan.now _ _ first second c.requires.planned.rotation

pub exchange-requires-else-initiator-responder-clause-fits : goal.exchange-requires-else-initiator-responder-clause-fits
exchange-requires-else-initiator-responder-clause-fits g c =
    let xs = c.args.tables.now in
    let split = c.split_at_mut-below-else-initiator-responder in
    let fits = g.X.Exchanging.fits c.args.work.now.shared.now in (
      back_fits g.T.MemoryTable.table xs split.result.0.now split.result.1.now split.ensures.value fits c.requires.tables.each_fits
          c.index-from-0-else-initiator-responder.result c.args.plan.now.initiator split.ensures.front_len
          (omega (arith, split.ensures.back_len, c.requires.planned.initiator)) c.requires.planned.initiator,
      front_fits g.T.MemoryTable.table xs split.result.0.now split.result.1.now split.ensures.value fits c.requires.tables.each_fits
          c.index-below-responder.result c.args.plan.now.responder
          (omega (arith, split.ensures.front_len, c.if-initiator-responder.false, c.requires.planned.apart)) c.requires.planned.responder,
    )
