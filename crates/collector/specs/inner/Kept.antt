-- How a collector is kept: beside the outcomes it has room for a record of each exchange, and that is empty. So the
-- records can be handed over without taking memory. Source: this project.
use Rattle.std.specs.Prelude.{◌≡◌, ◌^◌, ◌<◌, ◌≤◌, [], Option, Vec, vec_len, vec_capacity}
use Rattle.std.specs.declared.alloc.Global.{Global}
use Rattle.bench_types.specs.declared.exchanges.Record.{Record}

pub record IsCollector (outcomes : Vec (Option Record) Global) (room : Vec Record Global) : Type 0 where
  pub few : vec_len outcomes < 2 ^ 32
  pub empty : room.items ≡ []
  pub fits : vec_len outcomes ≤ vec_capacity room
