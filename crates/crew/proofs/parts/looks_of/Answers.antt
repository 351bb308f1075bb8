use Rattle.std.proofs.Common.{arith}
use Rattle.crew.proofs.parts.looks_of.Goals as goal

pub invariant_of-push_reserved : goal.invariant_of-push_reserved
invariant_of-push_reserved g c = rw c.in_ok-shared.ensures (record {
  of_shared = c.requires.shared;
  within = omega (arith, c.requires.shared.one_each, c.requires.within, c.loop-place-test.true);
})

pub loop-place-init : goal.loop-place-init
loop-place-init g c = record { count = c.in_ok-jobs.ensures.len; room = c.in_ok-jobs.ensures.capacity }

pub loop-place-preserved : goal.loop-place-preserved
loop-place-preserved g c = record {
  count = omega (arith, c.loop-place.invariant.count, c.push_reserved.ensures.len);
  room = omega (arith, c.loop-place.invariant.room, c.push_reserved.ensures.capacity);
}
