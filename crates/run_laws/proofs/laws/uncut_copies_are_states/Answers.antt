use Rattle.run_laws.proofs.Floors.{copies_are_states}
use Rattle.run_laws.proofs.laws.uncut_copies_are_states.Goals as goal

pub returns : goal.returns
returns c s lawful = copies_are_states s lawful.nodes.0 lawful.nodes.1 lawful.keys.0 lawful.keys.1
