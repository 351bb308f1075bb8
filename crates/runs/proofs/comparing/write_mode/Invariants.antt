use Rattle.runs.proofs.Common.{written_upto}
use Rattle.runs.proofs.comparing.write_mode.Given as goal

abbrev pub ghosts-write_rounds : goal.ghosts-write_rounds
ghosts-write_rounds g a = record { lists = λ owner. written_upto a.scenario owner a.scenario.rounds }
