use Rattle.scenario.proofs.Common.{refl}
use Rattle.scenario.proofs.scenarios.Scenario.partitions.Goals as goal

pub returns : goal.returns
returns c = rw (← c.self.view_is, c.deref.ensures.value) (record { value = refl; limits = c.self.invariant.partitions })
