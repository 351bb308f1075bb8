-- Records that are written to the places of their exchanges. Source: this project.
use Rattle.std.specs.Prelude.{List, [], ◌∷◌, slice_set}
use Rattle.bench_types.specs.declared.exchanges.Record.{Record}
use Rattle.workers.specs.declared.gathering.Stamped.{Stamped}

-- one after another
abbrev pub with_records : List Record → List Stamped → List Record
with_records records [] = records
with_records records (s ∷ stamps) = with_records (slice_set records s.index s.outcome) stamps
