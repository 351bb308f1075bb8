use Rattle.cluster.proofs.Common.{IfOk-weaker, refl}
use Rattle.cluster.proofs.Opening.{opening_of}
use Rattle.cluster.proofs.clusters.Cluster.new.Goals as goal

pub opened-requires-clause-tables : goal.opened-requires-clause-tables
opened-requires-clause-tables g c _ _ =
    IfOk-weaker c.empty_tables-tables.result _ _ (λ v.
    opening_of _ c.args.scenario.now 0 _ c.in_ok-histories.ensures.begun refl c.nodes.ensures.value)
    c.empty_tables-tables.ensures.0
