use Rattle.command_words.proofs.Common.{Ok, refl}
use Rattle.command_words.specs.Program.{check_command, compare_command, program, run_command}
use Rattle.command_words.proofs.Additions.{subcommand_added}
use Rattle.command_words.proofs.commands.commands.Goals as goal

pub returns : goal.returns
unfolding program
returns c =
    let one = subcommand_added c.program.result (Ok c.check.result) c.with.result _ check_command c.with.ensures c.program.ensures c.check.ensures refl in
    let two = subcommand_added c.with.result c.run.result c.with-2.result _ run_command c.with-2.ensures one c.run.ensures refl in
    subcommand_added c.with-2.result c.compare.result c.with-3.result _ compare_command c.with-3.ensures two c.compare.ensures refl
