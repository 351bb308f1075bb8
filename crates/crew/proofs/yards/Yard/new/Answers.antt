use Rattle.std.proofs.Common.{arith}
use Rattle.crew.proofs.yards.Yard.new.Goals as goal

pub returns : goal.returns
returns g c = omega (arith, c.loop.invariant.count, c.loop-test.false, c.loop.auto.counter-end)

pub loop-init : goal.loop-init
loop-init g c = record { count = c.in_ok-posts.ensures.len; room = c.in_ok-posts.ensures.capacity }

pub loop-preserved : goal.loop-preserved
loop-preserved g c = record {
  count = omega (arith, c.loop.invariant.count, c.push_reserved.ensures.len);
  room = omega (arith, c.loop.invariant.room, c.push_reserved.ensures.capacity);
}
