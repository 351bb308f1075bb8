-- What the list of a round keeps. Source: this project.
use Rattle.std.specs.Prelude.{◌≤◌, length, All}
use Rattle.bench_types.specs.calls.Exchange.{IsPlanned}
use Rattle.limits.specs.declared.TheConstants.{LEAST_NODES, MOST_NODES}
use Rattle.model.specs.declared.lists.TheConstants.{MOST_EXCHANGES}
use Rattle.model.specs.RoundLists.{RoundListView}

-- what each list of a round keeps
pub record IsRoundPlan (p : RoundListView) : Type 0 where
  pub least : LEAST_NODES ≤ p.nodes
  pub most : p.nodes ≤ MOST_NODES
  pub size : length p.exchanges ≤ MOST_EXCHANGES
  pub planned : All (IsPlanned p.nodes) p.exchanges
