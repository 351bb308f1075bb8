use Rattle.dependencies.proofs.Common.{◌≡◌, ◌+◌, ◌-◌, ◌<◌, None, length, find, get_or, range_with_len, rules, get_or-replicate, subst, ap, ◌∙◌, arith, get_or_read}
use Rattle.dependencies.specs.Sharing.{exchange_at, no_exchange, takes_part}
use Rattle.dependencies.specs.Neighbours.{unless_same}
use Rattle.dependencies.proofs.Passes.{IsBackward, backward_more, backward_all}
use Rattle.dependencies.proofs.deps.all_after.Goals as goal

pub loop-i-preserved : goal.loop-i-preserved
loop-i-preserved c =
    let i = c.loop-i.i - 1 in
    let es = c.args.exchanges.now in
    let next = c.loop-i.next.items in
    let within : i < length es = omega arith in
    let one_less : c.loop-i.i ≡ i + 1 = omega arith in
    let planned = c.requires.planned i no_exchange within in
    let one = get_or_read next (exchange_at es i).initiator c.index-first.result.now (omega (arith, c.loop-i.invariant.size, planned.initiator))
    c.index-first.ensures None in
    let two = get_or_read next (exchange_at es i).responder c.index.result.now (omega (arith, c.loop-i.invariant.size, planned.responder)) c.index.ensures
    None in
    backward_more es c.args.nodes i next c.loop-i.after.items c.index-first.result.now c.unless_same-second.result within
    (subst (λ n. IsBackward es c.args.nodes n next c.loop-i.after.items) one_less c.loop-i.invariant) planned one
    (c.unless_same-second.ensures ∙ ap (unless_same c.index-first.result.now) two)

pub returns-clause-value : goal.returns-clause-value
returns-clause-value c =
    let start : c.loop-i.i ≡ 0 = omega arith in
    let es = c.args.exchanges.now in
    backward_all es c.args.nodes c.loop-i.next.items c.loop-i.after.items
    (subst (λ n. IsBackward es c.args.nodes n c.loop-i.next.items c.loop-i.after.items) start c.loop-i.invariant)

pub loop-i-init : goal.loop-i-init
loop-i-init c =
    let es = c.args.exchanges.now in
    let start = c.in_ok-next.ensures.items_if_clones_equal (λ y clone. search rules) in
    record {
      size = omega (arith, c.in_ok-next.next.ok.0, c.in_ok-next.ensures.len);
      room = omega (arith, c.in_ok-after.after.ok.0, c.in_ok-after.ensures.len);
      known = λ node within.
          ap (λ xs. get_or xs node None) start ∙ get_or-replicate c.args.nodes node None None within
          ∙ ap (λ n. find (takes_part es node) (range_with_len (length es) n)) {x = 0} {y = length es - length es} (omega arith);
      done = λ k d from within. absurd (omega (arith, from, within));
    }

pub index_mut-requires-in-loop-i-2 : goal.index_mut-requires-in-loop-i-2
index_mut-requires-in-loop-i-2 c = grind arith

pub index_mut-requires-in-loop-i : goal.index_mut-requires-in-loop-i
index_mut-requires-in-loop-i c = grind arith

pub index-requires : goal.index-requires
index-requires c = grind arith

pub index-first-requires : goal.index-first-requires
index-first-requires c = grind arith
