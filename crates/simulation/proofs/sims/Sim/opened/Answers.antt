use Rattle.simulation.proofs.Common.{arith, IfOk-at_ok}
use Rattle.simulation.proofs.sims.Sim.opened.Goals as goal

pub invariant_of-result : goal.invariant_of-result
invariant_of-result g c =
    let opened = IfOk-at_ok _ c.in-Ok.is c.requires.opens in
    record {
      simulation = record { within = omega arith; standing = λ _. opened.standing; tables = λ _. opened.tables };
      ended = opened.ended;
      drawn = opened.drawn;
      may_write = c.requires.may_write;
    }

pub returns-in-Ok-clause-empty : goal.returns-in-Ok-clause-empty
unfolding Rattle.cluster.specs.Rounds.tables_after
returns-in-Ok-clause-empty g c = (IfOk-at_ok _ c.in-Ok.is c.requires.opens).tables
