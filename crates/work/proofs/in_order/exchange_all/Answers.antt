use Rattle.work.proofs.Common.{◌≡◌, ◌<◌, List, get_or, IsPlanned, length, map, take, false, sym, ap, subst, ◌∙◌, arith, take_all, length-map, Exchange, Folded, fold_of, table_of_node, HoldsOfEach, IsCluster, cluster_of, before_keeps_each}
use Rattle.work.proofs.Turns.{IsTurned, turned_none, turned_more, still_tables}
use Rattle.work.proofs.in_order.exchange_all.Goals as goal

-- what a walk finds behind the list
abbrev behind : Exchange
behind = record { initiator = 0; responder = 0; lost1 = false; lost2 = false; lost3 = false; rotation = 0 }

pub loop-i-preserved : goal.loop-i-preserved
loop-i-preserved g c = record {
  turned = turned_more c.args.work.rules.now c.args.work.list.now.exchanges _ (map g.T.MemoryTable.table c.args.tables.now)
      (map g.T.MemoryTable.table c.loop-i.tables) (map g.T.MemoryTable.table c.exchange_pair.new.tables) c.loop-i.records.items _ c.loop-i.i behind
      c.in_ok-sent.sent
      c.exchanges-plan-items.ensures.value c.push_reserved.ensures.items c.loop-i.invariant.turned c.loop-i-test.true c.in_ok-sent.ensures.exchanged;
  count = omega (arith, c.loop-i.invariant.count, c.push_reserved.ensures.len);
  room = omega (arith, c.loop-i.invariant.room, c.push_reserved.ensures.capacity);
}

pub push_reserved-requires : goal.push_reserved-requires
push_reserved-requires g c =
    omega (arith, c.loop-i.invariant.count, c.loop-i.invariant.room, c.loop-i-test.true, ap length c.exchanges-plan-items.ensures.value)

pub exchange_pair-requires-clause-tables : goal.exchange_pair-requires-clause-tables
exchange_pair-requires-clause-tables g c =
    let nodes = c.args.work.list.now.nodes in
    let old = map g.T.MemoryTable.table c.args.tables.now in
    let keys = (table_of_node old 0).keys in
    let new = c.loop-i.tables in
    let fits = g.X.Exchanging.fits c.args.work.shared.now in
    let laws = g.met.X.Exchanging g.world.𝓛 g.world.𝓜 g.world.𝓡 ((λ s x. x), (λ x. x), (λ x. x), λ x. x) in
    let may = c.requires.tables in
    let planned = c.exchanges-plan-items.ensures.kept.planned in
    let still =
    still_tables c.args.work.rules.now nodes keys c.args.work.list.now.exchanges old (map g.T.MemoryTable.table new) c.loop-i.records.items planned
    may.cluster c.loop-i.i c.loop-i.invariant.turned in
    λ _ _. record {
      cluster = subst (λ n. IsCluster n (map g.T.MemoryTable.table new)) (sym still.size ∙ length-map new g.T.MemoryTable.table)
          (cluster_of nodes keys (map g.T.MemoryTable.table new) still);
      each_fits = subst (λ (s : Folded). HoldsOfEach fits s.tables) c.loop-i.invariant.turned.folded
          (before_keeps_each c.args.work.rules.now nodes keys c.args.work.list.now.exchanges old planned may.cluster fits
          (laws.stays_fit c.args.work.shared.now) may.each_fits c.loop-i.i);
      budget = may.budget;
    }

pub loop-i-init : goal.loop-i-init
loop-i-init g c =
    let rules = c.args.work.rules.now in
    let es = c.args.work.list.now.exchanges in
    let old = map g.T.MemoryTable.table c.args.tables.now in
    record {
      turned = subst (λ records. IsTurned rules es old old records 0) (sym c.in_ok-records.ensures.items) (turned_none rules es old);
      count = c.in_ok-records.ensures.len;
      room = omega (arith, c.in_ok-records.ensures.capacity, c.len.ensures);
    }

pub returns-clause-exchanged : goal.returns-clause-exchanged
returns-clause-exchanged g c =
    let es = c.args.work.list.now.exchanges in
    let i = c.loop-i.i in
    let all : take i es ≡ es = take_all i es (omega (arith, c.loop-i-test.false, ap length c.exchanges-plan-items.ensures.value)) in
    sym (ap (fold_of c.args.work.rules.now (map g.T.MemoryTable.table c.args.tables.now)) all) ∙ c.loop-i.invariant.turned.folded

pub exchange_pair-requires-clause-planned : goal.exchange_pair-requires-clause-planned
exchange_pair-requires-clause-planned g c =
    let es = c.exchanges-plan-items.ensures in
    let i = c.loop-i.i in
    let size : c.args.work.list.now.nodes ≡ length c.loop-i.tables =
    omega (arith, c.requires.tables.cluster.size, length-map c.args.tables.now g.T.MemoryTable.table, c.loop-i.auto.tables) in
    λ _ _.
    subst (λ (l : List Exchange). IsPlanned (length c.loop-i.tables) (get_or l i behind)) (sym es.value)
    (subst (λ n. IsPlanned n (get_or c.args.work.list.now.exchanges i behind)) size
    (es.kept.planned i behind (subst (λ (l : List Exchange). i < length l) es.value c.loop-i-test.true)))
