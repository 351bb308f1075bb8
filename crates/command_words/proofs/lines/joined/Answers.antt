use Rattle.std.proofs.Common.{arith}
use Rattle.std.proofs.lemmas.Grind.{common_steps}
use Rattle.command_words.proofs.lines.joined.Goals as goal

pub returns-clause-line : goal.returns-clause-line
returns-clause-line c = grind (arith, common_steps)
