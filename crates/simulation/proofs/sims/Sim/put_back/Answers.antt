use Rattle.simulation.proofs.Common.{arith, IfOk-at_ok}
use Rattle.simulation.proofs.sims.Sim.put_back.Goals as goal

pub invariant_of-self : goal.invariant_of-self
invariant_of-self g c =
    let left = rw (← c.self.view_is) at c.requires.left in
    let after = rw (← c.self.view_is) at c.requires.after in
    let is = IfOk-at_ok _ c.in-Ok.is after in
    record {
      simulation = record { within = omega (arith, left); standing = λ _. is.standing; tables = λ _. is.tables };
      ended = is.ended;
      drawn = is.drawn;
      may_write = c.self.invariant.may_write;
    }
