use Rattle.cluster.proofs.Common.{IfOk-weaker, ◌∙◌}
use Rattle.cluster.proofs.Opening.{opening_of}
use Rattle.cluster.proofs.clusters.Cluster.new_by.Goals as goal

pub opened-requires-clause-tables : goal.opened-requires-clause-tables
opened-requires-clause-tables g c _ _ =
    IfOk-weaker c.empty_tables_by-tables.result _ _ (λ v.
    opening_of _ c.args.scenario.now _ _ c.in_ok-histories.ensures.begun c.of-shares.ensures.first
    (c.of-shares.ensures.last ∙ c.nodes.ensures.value))
    c.empty_tables_by-tables.ensures.0
