use Rattle.std.proofs.Common.{inr, arith}
use Rattle.std.proofs.lemmas.Grind.{common_steps}
use Rattle.std.proofs.lemmas.Result.{on_ok_weaker, IfErr-weaker}
use Rattle.command_line.proofs.jobs.perform.Goals as goal

pub returns-in-Check-clause-performed : goal.returns-in-Check-clause-performed
returns-in-Check-clause-performed g c = grind (arith, common_steps)

pub returns-in-Check-clause-fault : goal.returns-in-Check-clause-fault
returns-in-Check-clause-fault g c = grind (arith, common_steps)

pub returns-in-Compare-clause-performed : goal.returns-in-Compare-clause-performed
returns-in-Compare-clause-performed g c = grind (arith, common_steps)

pub returns-in-Compare-clause-fault : goal.returns-in-Compare-clause-fault
returns-in-Compare-clause-fault g c = grind (arith, common_steps)

pub returns-in-None-trace_file-clause-fault : goal.returns-in-None-trace_file-clause-fault
returns-in-None-trace_file-clause-fault g c = grind (arith, common_steps)

pub run-requires-in-Some-trace_file-clause-workers : goal.run-requires-in-Some-trace_file-clause-workers
run-requires-in-Some-trace_file-clause-workers g c κs within = grind (arith, common_steps)

pub returns-in-None-clause-fault : goal.returns-in-None-clause-fault
returns-in-None-clause-fault g c =
    rw (c.in-Run.is, c.in-None.is)
    (IfErr-weaker c.run.result _ _ (λ fault stopped. (_, c.run.new.trace, stopped)) c.run.ensures.fault)

pub returns-in-Some-trace_file-clause-performed : goal.returns-in-Some-trace_file-clause-performed
returns-in-Some-trace_file-clause-performed g c =
    rw (c.in-Run.is, c.in-Some.is)
    (on_ok_weaker c.run-in-Some-trace_file.result (λ reported. (c.new.result, c.run-in-Some-trace_file.new.trace, reported))
    c.run-in-Some-trace_file.ensures.reported)

pub returns-in-Some-trace_file-clause-fault : goal.returns-in-Some-trace_file-clause-fault
returns-in-Some-trace_file-clause-fault g c =
    rw (c.in-Run.is, c.in-Some.is)
    (IfErr-weaker c.run-in-Some-trace_file.result _ _ (λ fault stopped. inr (c.new.result, c.run-in-Some-trace_file.new.trace, stopped))
    c.run-in-Some-trace_file.ensures.fault)
