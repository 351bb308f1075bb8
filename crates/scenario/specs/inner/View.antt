-- What contracts see of a scenario. Source: this project.
use Rattle.scenario.specs.Settings.{Settings}
use Rattle.scenario.specs.declared.scenarios.Scenario.TheInside.{Inside}

abbrev pub settings_of : Inside → Settings
settings_of s = record {
  format = s.basics.format;
  nodes = s.basics.nodes;
  keys = s.basics.keys;
  rounds = s.basics.rounds;
  seed = s.basics.seed;
  mode = s.conduct.mode;
  budget = s.conduct.budget;
  peers = s.conduct.peers;
  rotation = s.conduct.rotation;
  choice = s.conduct.choice;
  loss_ppm = s.conduct.loss_ppm;
  writes = s.conduct.writes;
  partitions = s.partitions.items;
  restarts = s.restarts.items;
  loads = s.loads.items;
}
