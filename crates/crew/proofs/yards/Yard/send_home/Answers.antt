use Rattle.std.proofs.Common.{arith, length-take-le, sym}
use Rattle.crew.proofs.yards.Yard.send_home.Goals as goal

pub slice_bounds-post-items-end : goal.slice_bounds-post-items-end
slice_bounds-post-items-end g c = sym (length-take-le c.args.threads c.deref.result.now (omega (arith, c.requires, c.deref.ensures.len)))
