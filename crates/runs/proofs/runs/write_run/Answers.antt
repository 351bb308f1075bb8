use Rattle.runs.proofs.Common.{rules}
use Rattle.runs.proofs.InputFacts.{at_fault}
use Rattle.runs.proofs.Reporting.{stops_in_texts, texts_written}
use Rattle.runs.proofs.runs.write_run.Goals as goal

pub returns-clause-written : goal.returns-clause-written
returns-clause-written g c =
    texts_written g.W.Sink g.X.Sink c.args.scenario _ _ _ c.write_rounds.new.output _ _ c.in_ok-write_rounds.ensures.written
    c.format.ensures.value c.in_ok-write_headers.ensures.written
    (λ e. search rules) (λ e. search rules)

pub returns-in_err-write_rounds-clause-fault : goal.returns-in_err-write_rounds-clause-fault
returns-in_err-write_rounds-clause-fault g c =
    at_fault c.from_residual-in_err-write_rounds.result c.in_err-write_rounds.field-0.0 _ c.from_residual-in_err-write_rounds.ensures.1
    (stops_in_texts g.W.Sink g.X.Sink c.args.scenario _ _ _ c.write_rounds.new.output _ _ _ _ c.in_err-write_rounds.ensures.fault
    c.format.ensures.value c.in_ok-write_headers.ensures.written
    (λ e. search rules) (λ e. search rules))
