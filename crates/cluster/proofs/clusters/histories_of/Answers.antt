use Rattle.cluster.proofs.Common.{IfOk-weaker, ◌∙◌, arith}
use Rattle.cluster.proofs.Standing.{opening_proper}
use Rattle.cluster.proofs.clusters.histories_of.Goals as goal

pub returns-clause-begun : goal.returns-clause-begun
returns-clause-begun g c =
    IfOk-weaker c.new.result _ _ (λ h begun. record {
      count = begun.count ∙ c.nodes.ensures.value;
      empty = begun.empty;
      keys_are = begun.keys_are ∙ c.keys.ensures.value;
      none_ended = begun.none_ended;
    }) c.new.ensures.begun

pub returns-clause-proper : goal.returns-clause-proper
returns-clause-proper g c =
    let nodes = c.nodes.ensures in
    let keys = c.keys.ensures in
    opening_proper c.args.scenario.now (omega (arith, nodes.limits, nodes.value)) (omega (arith, keys.limits, keys.value))
    (omega (arith, keys.limits, keys.value))
