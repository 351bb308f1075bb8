use Rattle.played_rounds.proofs.Common.{ap, subst, sym, ◌∙◌}
use Rattle.round_histories.specs.Histories.{AreFiguresCounted}
use Rattle.played_rounds.specs.calls.Outcomes.{played_with}
use Rattle.played_rounds.specs.calls.RoundView.{RoundView}
use Rattle.played_rounds.proofs.playing.end_round.Goals as goal

pub returns-clause-ended : goal.returns-clause-ended
returns-clause-ended g c =
    let told = c.of-played.ensures in
    let counted = c.in-Ok.counted in
    let figures = sym (ap (λ (r : RoundView). r.figures) told) in
    record {
      counted = subst (λ f. AreFiguresCounted g.T.MemoryTable.table g.K.RoundHistories.kept c.args.done.shared c.args.done.tables.items
          (record { figures = f; tables = counted.tables; histories = counted.histories })) figures c.in-Ok.ensures.counted;
      told = told ∙ ap (played_with c.args.round c.args.list c.args.done.records.items) figures;
      drawn = c.in_ok-drawn.was;
    }
