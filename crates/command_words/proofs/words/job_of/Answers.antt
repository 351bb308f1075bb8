use Rattle.command_words.proofs.Common.{kind_of}
use Rattle.command_words.proofs.Faults.{no_job}
use Rattle.command_words.proofs.words.job_of.Goals as goal

pub returns-in-Err-clause-answer : goal.returns-in-Err-clause-answer
returns-in-Err-clause-answer g c =
    no_job _ (kind_of c.in-Err.error) c.reason_of.result c.in-Err.ensures c.reason_of.ensures
