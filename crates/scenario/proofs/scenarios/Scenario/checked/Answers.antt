use Rattle.scenario.proofs.scenarios.Scenario.checked.Goals as goal

pub conduct_at-requires : goal.conduct_at-requires
conduct_at-requires c = c.in_ok-basics.ensures.lawful.format

pub array_at-requires : goal.array_at-requires
array_at-requires c = c.in_ok-basics.ensures.lawful.nodes.0

pub array_at-requires-2 : goal.array_at-requires-2
array_at-requires-2 c = c.in_ok-basics.ensures.lawful.nodes.0

pub array_at-requires-3 : goal.array_at-requires-3
array_at-requires-3 c = c.in_ok-basics.ensures.lawful.nodes.0

pub invariant_of-result : goal.invariant_of-result
invariant_of-result c =
    let basics = c.in_ok-basics.ensures.lawful in
    let conduct = c.in_ok-conduct.ensures.lawful in
    record {
      format = basics.format;
      nodes = basics.nodes;
      keys = basics.keys;
      entries = basics.entries;
      rounds = basics.rounds;
      seed = basics.seed;
      budget = conduct.budget;
      loss_ppm = conduct.loss_ppm;
      writes = conduct.writes;
      partitions = c.in_ok-partitions.ensures.lawful;
      restarts = c.in_ok-restarts.ensures.lawful;
      loads = c.in_ok-loads.ensures.lawful;
    }
