use Rattle.run_laws.proofs.Rings.{rings_heal}
use Rattle.run_laws.proofs.laws.quiet_rings_heal.Goals as goal

pub returns : goal.returns
returns c s lawful = rings_heal s lawful
