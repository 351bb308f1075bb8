use Rattle.run_laws.proofs.Formats.{has_no_part}
use Rattle.run_laws.proofs.laws.the_format_has_no_part.Goals as goal

pub returns : goal.returns
returns c s = has_no_part s
