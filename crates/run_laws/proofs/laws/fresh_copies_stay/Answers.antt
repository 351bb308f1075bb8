use Rattle.run_laws.proofs.Healing.{copies_stay}
use Rattle.run_laws.proofs.laws.fresh_copies_stay.Goals as goal

pub returns : goal.returns
returns c s lawful = copies_stay s lawful
