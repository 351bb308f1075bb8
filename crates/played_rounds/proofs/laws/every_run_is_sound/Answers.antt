use Rattle.played_rounds.proofs.Soundness.{sound_run}
use Rattle.played_rounds.proofs.laws.every_run_is_sound.Goals as goal

pub returns : goal.returns
returns c s lawful = sound_run s lawful.nodes.0 lawful.nodes.1 lawful.keys.0 lawful.keys.1
