use Rattle.delta_plans.proofs.Common.{arith}
use Rattle.delta_plans.proofs.LevelSteps.{layers-more, layers-next, layers-none, left-told, level-ends, level-few, level-of_layers}
use Rattle.delta_plans.proofs.breadths.breadth.Goals as goal

pub loop-near-init : goal.loop-near-init
loop-near-init g c = record { has = rw c.amount-left.ensures (layers-none c.requires.offer.is_offer c.in_ok-near.ensures.items) }

pub returns-in_default : goal.returns-in_default
returns-in_default g c =
    let is = c.requires.offer.is_offer in let has = c.loop-near.invariant.has in let layer = rw c.deref.ensures.value at c.in_ok-next.ensures.0 in
    let told = left-told is _ c.deref-in-loop-near.ensures.value c.deref-in-loop-near-2.ensures.value c.in_default.is c.left_of.ensures in
    (record { is_level = level-ends is has.so_far layer told; shape = level-of_layers is has layer }, tt)

pub overflow_add-whole : goal.overflow_add-whole
overflow_add-whole g c =
    omega (arith, level-few c.requires.offer.is_offer c.loop-near.invariant.has.so_far (rw c.deref.ensures.value at c.in_ok-next.ensures.0))

pub loop-near-smaller : goal.loop-near-smaller
loop-near-smaller g c =
    let is = c.requires.offer.is_offer in let has = c.loop-near.invariant.has in let layer = rw c.deref.ensures.value at c.in_ok-next.ensures.0 in
    let fits = left-told is _ c.deref-in-loop-near.ensures.value c.deref-in-loop-near-2.ensures.value c.in-Some.is c.left_of.ensures in
    omega (arith, layers-more is has layer fits c.requires.offer.beyond, level-few is has.so_far layer)

pub loop-near-preserved : goal.loop-near-preserved
loop-near-preserved g c =
    let is = c.requires.offer.is_offer in
    let fits = left-told is _ c.deref-in-loop-near.ensures.value c.deref-in-loop-near-2.ensures.value c.in-Some.is c.left_of.ensures in
    record { has = layers-next is c.loop-near.invariant.has (rw c.deref.ensures.value at c.in_ok-next.ensures.0) fits }

pub left_of-requires : goal.left_of-requires
left_of-requires g c =
    let layer = rw c.deref.ensures.value at c.in_ok-next.ensures.0 in
    rw (c.deref-in-loop-near.ensures.value, c.deref-in-loop-near-2.ensures.value) (record {
      marks = record { is_offer = c.requires.offer.is_offer; each_low = c.loop-near.invariant.has.so_far.size; each_high = layer.count };
      count = layer.more;
    })

pub one_more-requires : goal.one_more-requires
one_more-requires g c =
    let is = c.requires.offer.is_offer in
    rw c.deref.ensures.value (record { is_offer = is; each_low = c.loop-near.invariant.has.so_far.size; each_high = is.high })
