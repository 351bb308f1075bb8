use Rattle.played_rounds.proofs.Common.{map, subst, sym, ap, IfOk, IfOk-weaker, IsLawfulBudget, Rules, IsCluster, RoundListView, IsRoundPlan}
use Rattle.cluster.specs.calls.Plans.{IsDrawnAfter}
use Rattle.round_histories.specs.Histories.{AreFiguresCounted, StandAtRoundEnd}
use Rattle.played_rounds.proofs.Exchanged.{lawful_budget, each_begun, nodes_cluster, one_record_each, may_count, played, after}
use Rattle.played_rounds.proofs.playing.carry_out.Goals as goal

-- each table stands among the lists as the exchanges begin
pub carry_out-requires-clause-tables : goal.carry_out-requires-clause-tables
carry_out-requires-clause-tables g c _ _ =
    let s = c.args.under_way.scenario.now in
    let is = c.requires in
    record {
      cluster =
          subst (λ n. IsCluster n (map g.T.MemoryTable.table c.args.under_way.tables.items)) (sym (ap (λ (l : RoundListView). l.nodes) is.list))
          (nodes_cluster g.T.MemoryTable.table s c.args.under_way.round c.args.under_way.tables.items (g.K.RoundHistories.kept c.args.under_way.histories).lists is.standing);
      each_fits = λ n lt.
          is.fits _ (each_begun s c.args.under_way.round _ _ is.lawful is.may_draw.first is.tables is.ended.keys is.standing n lt);
      budget = subst (λ (r : Rules). IsLawfulBudget r.budget) (sym c.rules_of-rules.ensures) (lawful_budget s.format s.budget is.lawful.budget);
    }

pub end_round-requires-clause-standing : goal.end_round-requires-clause-standing
end_round-requires-clause-standing g c _ _ =
    subst (λ k. StandAtRoundEnd g.T.MemoryTable.table c.in_ok-done.done.tables.items (g.K.RoundHistories.kept k)) (sym c.in_ok-done.ensures.done.shared)
    (may_count g.T.MemoryTable.table g.K.RoundHistories.kept g.K.Exchanging.fits c.args.under_way.scenario.now c.args.under_way.round c.args.under_way c.requires
    (subst IsRoundPlan c.list.view_is c.list.invariant) _ c.rules_of-rules.ensures c.in_ok-done.done.tables.items c.in_ok-done.done.records.items
    c.in_ok-done.ensures.done.exchanged)

pub end_round-requires-clause-recorded : goal.end_round-requires-clause-recorded
end_round-requires-clause-recorded g c _ _ =
    one_record_each c.args.under_way.scenario.now c.args.under_way.round c.args.under_way.begun.list (subst IsRoundPlan c.list.view_is c.list.invariant)
    c.requires.list _ _ _ c.in_ok-done.done.records.items c.in_ok-done.ensures.done.exchanged

pub returns-clause-played : goal.returns-clause-played
returns-clause-played g c =
    let plan = subst IsRoundPlan c.list.view_is c.list.invariant in
    let done = c.in_ok-done.ensures.done in
    let ts = c.in_ok-done.done.tables.items in
    let records = c.in_ok-done.done.records.items in
    IfOk-weaker c.end_round.result _ _ (λ p is.
    let counted = subst (λ k. AreFiguresCounted g.T.MemoryTable.table g.K.RoundHistories.kept k ts
    (record { figures = p.1.figures; tables = p.0.tables; histories = p.0.histories })) done.shared is.counted in
    record {
      after =
          after g.T.MemoryTable.table g.K.RoundHistories.kept g.K.Exchanging.fits c.args.under_way.scenario.now c.args.under_way.round c.args.under_way c.requires plan _
          c.rules_of-rules.ensures ts records done.exchanged _ counted p.0.drawn
          (subst (λ r. IfOk r (IsDrawnAfter c.args.under_way.scenario.now c.args.under_way.round)) is.drawn done.made.0);
      played =
          played g.T.MemoryTable.table g.K.RoundHistories.kept g.K.Exchanging.fits c.args.under_way.scenario.now c.args.under_way.round c.args.under_way c.requires
          plan _ c.rules_of-rules.ensures ts records done.exchanged _ p.1 counted is.told;
    }) c.end_round.ensures.ended
