-- Two small rings in which what the laws ask for comes about. In round 1 each node writes, apart from all others; in
-- each later one all meet on the ring, and nothing is written, lost or cut. Node 0 restarts in rounds 1 and 4. Source:
-- this project.
use Rattle.std.specs.Prelude.{ℕ, Bool, false, [], ◌∷◌}
use Rattle.bench_types.specs.declared.exchanges.Budget.TheVariants.{Bytes}
use Rattle.bench_types.specs.declared.exchanges.Mode.TheVariants.{ScuttleBreadth}
use Rattle.scenario.specs.declared.choices.Choice.TheVariants.{Cycle}
use Rattle.scenario.specs.declared.choices.Peers.TheVariants.{Ring}
use Rattle.scenario.specs.declared.choices.Rotation.TheVariants.{Off}
use Rattle.scenario.specs.declared.elements.Partition.{Partition}
use Rattle.scenario.specs.declared.elements.Restart.{Restart}
use Rattle.scenario.specs.Settings.{Settings}
use Rattle.run_laws.specs.Healing.{Moment}

-- a node is apart in round 1
abbrev pub apart_at_first : ℕ → Partition
apart_at_first n = record { from = 1; to = 1; apart = n ∷ [] }

-- node 0 restarts in a round
abbrev pub restart_of_first : Bool → ℕ → Restart
restart_of_first forget round = record { node = 0; round = round; down = 0; forget = forget }

-- three nodes with a key each, where the restarts forget or don't
abbrev pub ring_of_three : Bool → Settings
ring_of_three forget = record {
  format = 2;
  nodes = 3;
  keys = 1;
  rounds = 4;
  seed = 0;
  mode = ScuttleBreadth;
  budget = Bytes 2046;
  peers = Ring;
  rotation = Off;
  choice = Cycle;
  loss_ppm = 0;
  writes = 0;
  partitions = apart_at_first 0 ∷ apart_at_first 1 ∷ [];
  restarts = restart_of_first forget 1 ∷ restart_of_first forget 4 ∷ [];
  loads = record { from = 1; to = 1; writes = 1 } ∷ [];
}

-- and one in which all is lost
abbrev pub ring_that_loses : Settings
ring_that_loses = record (ring_of_three false) { loss_ppm = 1000000 }

-- four moments: all have written; round 2 begins; then node 0 has met node 2, and after that node 1; node 0 has
-- restarted again
abbrev pub having_written : Moment
having_written = record { round = 1; exchanges = 0 }

abbrev pub meeting : Moment
meeting = record { round = 2; exchanges = 0 }

abbrev pub having_met : Moment
having_met = record { round = 2; exchanges = 2 }

abbrev pub having_restarted : Moment
having_restarted = record { round = 4; exchanges = 0 }
