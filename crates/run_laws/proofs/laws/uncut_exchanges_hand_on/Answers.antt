use Rattle.run_laws.proofs.Paths.{exchanges_hand_on}
use Rattle.run_laws.proofs.laws.uncut_exchanges_hand_on.Goals as goal

pub returns : goal.returns
returns c s lawful = exchanges_hand_on s lawful
