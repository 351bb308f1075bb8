use Rattle.delta_plans.proofs.Common.{arith}
use Rattle.delta_plans.proofs.LevelSteps.{left-told, level-ends, level-few, level-of_runs, runs-from, runs-next, runs-none}
use Rattle.delta_plans.proofs.depths.depth.Goals as goal

pub loop-near-init : goal.loop-near-init
loop-near-init g c = record { has = rw c.amount-left.ensures (runs-none c.requires.offer.is_offer c.in_ok-near.ensures.items) }

pub next_runs-requires : goal.next_runs-requires
next_runs-requires g c =
    let none = rw c.deref.ensures.value at c.next_size_below-size.ensures in
    rw (c.deref-in-loop-near.ensures.value, c.deref-in-loop-near-2.ensures.value)
    (runs-from c.requires.offer.is_offer c.requires.offer.beyond c.loop-near.invariant.has c.in_ok-counts.ensures none)

pub returns-in_default : goal.returns-in_default
returns-in_default g c =
    let is = c.requires.offer.is_offer in let has = c.loop-near.invariant.has in
    let from = runs-from is c.requires.offer.beyond has c.in_ok-counts.ensures (rw c.deref.ensures.value at c.next_size_below-size.ensures) in
    let runs = rw c.deref-in-loop-near-2.ensures.value at c.in_ok-next.ensures.0 in
    let told = left-told is _ c.deref-in-loop-near-3.ensures.value c.deref-in-loop-near-4.ensures.value c.in_default.is c.left_of.ensures in
    (record { is_level = level-ends is has.so_far runs told; shape = level-of_runs is from runs }, tt)

pub overflow_add-whole : goal.overflow_add-whole
overflow_add-whole g c =
    omega (arith, level-few c.requires.offer.is_offer c.loop-near.invariant.has.so_far (rw c.deref-in-loop-near-2.ensures.value at c.in_ok-next.ensures.0))

pub loop-near-preserved : goal.loop-near-preserved
loop-near-preserved g c =
    let is = c.requires.offer.is_offer in let has = c.loop-near.invariant.has in
    let from = runs-from is c.requires.offer.beyond has c.in_ok-counts.ensures (rw c.deref.ensures.value at c.next_size_below-size.ensures) in
    let fits = left-told is _ c.deref-in-loop-near-3.ensures.value c.deref-in-loop-near-4.ensures.value c.in-Some.is c.left_of.ensures in
    record { has = runs-next is from (rw c.deref-in-loop-near-2.ensures.value at c.in_ok-next.ensures.0) has.so_far fits }

pub left_of-requires : goal.left_of-requires
left_of-requires g c =
    let runs = rw c.deref-in-loop-near-2.ensures.value at c.in_ok-next.ensures.0 in
    rw (c.deref-in-loop-near-3.ensures.value, c.deref-in-loop-near-4.ensures.value) (record {
      marks = record { is_offer = c.requires.offer.is_offer; each_low = c.loop-near.invariant.has.so_far.size; each_high = runs.count };
      count = runs.more;
    })
