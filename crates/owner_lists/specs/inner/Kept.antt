-- What an owner's list keeps: all that it wrote, and the last write of each key of its generation. Source: this project.
use Rattle.std.specs.Prelude.{◌^◌, ◌<◌, List, length}
use Rattle.model.specs.declared.writes.Write.{Write}
use Rattle.model.specs.calls.OwnerListView.{OwnerListView, AreWrites, written}
use Rattle.owner_lists.specs.Latest.{IsLatest}

pub record IsKeptList (v : OwnerListView) (latest : List Write) : Type 0 where
  pub writes : AreWrites v
  pub few : length v.current < 2 ^ 32
  pub ends : IsLatest latest (written v)
