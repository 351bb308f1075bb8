use Rattle.std.proofs.Common.{◌∙◌, sym, inl, arith}
use Rattle.command_line.proofs.Statuses.{was_told}
use Rattle.command_line.proofs.programs.main_with.Goals as goal

pub returns-in-Ok-clause-fault : goal.returns-in-Ok-clause-fault
returns-in-Ok-clause-fault g c is =
    let found =
    was_told g.E.Sink _ _ c.perform-done.result c.perform-done.ensures.fault c.status_of.ensures.told
    (sym c.status_of.ensures.status ∙ is) in
    record {
      fault = found.0;
      stopped = inl (record { job = c.in-Ok.job; asked = c.in-Ok.ensures.answer; stopped = found.1 });
      told = found.2;
    }

pub returns-in-Ok-clause-refused : goal.returns-in-Ok-clause-refused
returns-in-Ok-clause-refused g c = grind arith

pub returns-in-Ok-clause-done : goal.returns-in-Ok-clause-done
returns-in-Ok-clause-done g c = grind arith

pub returns-in-Err-clause-fault : goal.returns-in-Err-clause-fault
returns-in-Err-clause-fault g c = grind arith

pub returns-in-Err-clause-done : goal.returns-in-Err-clause-done
returns-in-Err-clause-done g c = grind arith

pub returns-in-Err-clause-refused : goal.returns-in-Err-clause-refused
returns-in-Err-clause-refused g c = grind arith
