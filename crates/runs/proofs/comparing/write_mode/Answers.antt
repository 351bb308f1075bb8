use Rattle.runs.proofs.Common.{rules}
use Rattle.runs.proofs.Comparison.{lines_of_rounds}
use Rattle.runs.proofs.comparing.write_mode.Goals as goal

pub returns : goal.returns
returns g c =
    lines_of_rounds g.W.Sink c.args.scenario _ c.write_rounds.new.output _ _ c.write_rounds.result c.write_rounds.ensures c.format.ensures.value
    c.mode.ensures (λ e. search rules)
