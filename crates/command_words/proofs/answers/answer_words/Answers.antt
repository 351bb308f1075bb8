use Rattle.std.proofs.Common.{refl, arith}
use Rattle.std.proofs.lemmas.Grind.{common_steps}
use Rattle.bench_types.specs.declared.faults.Fault.TheVariants as faults
use Rattle.command_words.proofs.answers.answer_words.Goals as goal

pub returns-in-OutOfMemory-clause-fault : goal.returns-in-OutOfMemory-clause-fault
returns-in-OutOfMemory-clause-fault g c is =
    (faults.OutOfMemory, rw c.in-OutOfMemory.is (refl, refl), c.status_of-in-OutOfMemory.ensures.told)

pub returns-in-Help-clause-fault : goal.returns-in-Help-clause-fault
returns-in-Help-clause-fault c = grind (arith, common_steps)

pub returns-in-Help-clause-done : goal.returns-in-Help-clause-done
returns-in-Help-clause-done c = grind (arith, common_steps)

pub returns-in-Help-clause-refused : goal.returns-in-Help-clause-refused
returns-in-Help-clause-refused c = grind (arith, common_steps)

pub returns-in-Help-clause-status : goal.returns-in-Help-clause-status
returns-in-Help-clause-status c = grind (arith, common_steps)

pub returns-in-OutOfMemory-clause-done : goal.returns-in-OutOfMemory-clause-done
returns-in-OutOfMemory-clause-done c = grind (arith, common_steps)

pub returns-in-OutOfMemory-clause-refused : goal.returns-in-OutOfMemory-clause-refused
returns-in-OutOfMemory-clause-refused c = grind (arith, common_steps)

pub returns-in-Refused-clause-fault : goal.returns-in-Refused-clause-fault
returns-in-Refused-clause-fault c = grind (arith, common_steps)

pub returns-in-Refused-clause-done : goal.returns-in-Refused-clause-done
returns-in-Refused-clause-done c = grind (arith, common_steps)

pub returns-in-Refused-clause-refused : goal.returns-in-Refused-clause-refused
returns-in-Refused-clause-refused c = grind (arith, common_steps)
