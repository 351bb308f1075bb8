use Rattle.dependencies.proofs.Common.{None, length, map, get_or, range_with_len, ap, ◌∙◌, arith, rules, get_or_read, get_or-replicate}
use Rattle.dependencies.specs.Sharing.{exchange_at, no_exchange}
use Rattle.dependencies.specs.Neighbours.{predecessors_of, unless_same}
use Rattle.dependencies.proofs.Passes.{forward_more}
use Rattle.dependencies.proofs.deps.all_before.Goals as goal

pub loop-i-preserved : goal.loop-i-preserved
loop-i-preserved c =
    let i = c.loop-i.i in
    let es = c.args.exchanges.now in
    let last = c.loop-i.last.items in
    let planned = c.requires.planned i no_exchange c.loop-i-test.true in
    let one = get_or_read last (exchange_at es i).initiator c.index-first.result.now (omega (arith, c.loop-i.invariant.so_far.size, planned.initiator))
    c.index-first.ensures None in
    let two = get_or_read last (exchange_at es i).responder c.index.result.now (omega (arith, c.loop-i.invariant.so_far.size, planned.responder))
    c.index.ensures None in
    record {
      so_far = rw c.push_reserved.ensures.items
          (forward_more es c.args.nodes i last c.loop-i.before.items c.index-first.result.now c.unless_same-second.result c.loop-i.invariant.so_far planned one
          (c.unless_same-second.ensures ∙ ap (unless_same c.index-first.result.now) two));
      count = omega (arith, c.loop-i.invariant.count, c.push_reserved.ensures.len);
      room = omega (arith, c.loop-i.invariant.room, c.push_reserved.ensures.capacity);
    }

pub loop-i-init : goal.loop-i-init
loop-i-init c =
    let start = c.in_ok-last.ensures.items_if_clones_equal (λ y clone. search rules) in
    record {
      so_far = record {
        size = omega (arith, c.in_ok-last.last.ok.0, c.in_ok-last.ensures.len);
        known = λ node within. ap (λ xs. get_or xs node None) start ∙ get_or-replicate c.args.nodes node None None within;
        done = c.in_ok-before.ensures.items;
      };
      count = omega (arith, c.in_ok-before.ensures.len);
      room = omega (arith, c.in_ok-before.ensures.capacity);
    }

pub push_reserved-requires : goal.push_reserved-requires
push_reserved-requires c = omega (arith, c.loop-i.invariant.count, c.loop-i.invariant.room, c.loop-i-test.true)

pub returns-clause-value : goal.returns-clause-value
returns-clause-value c =
    let es = c.args.exchanges.now in
    c.loop-i.invariant.so_far.done ∙ ap (λ n. map (predecessors_of es) (range_with_len 0 n)) {y = length es} (omega arith)

pub index_mut-requires-in-loop-i : goal.index_mut-requires-in-loop-i
index_mut-requires-in-loop-i c = grind arith

pub index_mut-requires : goal.index_mut-requires
index_mut-requires c = omega (arith, c.loop-i.invariant.so_far.size, (c.requires.planned c.loop-i.i no_exchange c.loop-i-test.true).initiator)

pub index-requires : goal.index-requires
index-requires c = omega (arith, c.loop-i.invariant.so_far.size, (c.requires.planned c.loop-i.i no_exchange c.loop-i-test.true).responder)

pub index-first-requires : goal.index-first-requires
index-first-requires c = omega (arith, c.loop-i.invariant.so_far.size, (c.requires.planned c.loop-i.i no_exchange c.loop-i-test.true).initiator)
