-- What holds of all nodes between two rounds, and what tables ask of the writes of a run. Source: this project.
use Rattle.std.specs.Prelude.{◌≡◌, ℕ, ◌*◌, ◌<◌, ◌≤◌, List, length, Some}
use Rattle.bench_types.specs.declared.entries.Entry.{Entry}
use Rattle.model.specs.Table.{Table, greatest_version, IsProper}
use Rattle.model.specs.Tables.{table_of_node, IsTableOf}
use Rattle.round_plan.specs.Generations.{generation_upto}
use Rattle.round_plan.specs.Writes.{writes_upto, written_upto}
use Rattle.limits.specs.declared.TheConstants.{MOST_WRITES}
use Rattle.scenario.specs.Settings.{Settings}
use Rattle.model.specs.calls.OwnerListView.{OwnerListView, entries_of, written, list_of_owner}
use Rattle.model.specs.calls.Numbers.{write_numbered}
use Rattle.model.specs.calls.OwnParts.{OwnPartIsLastWrites}
use Rattle.model.specs.calls.Writes.{AreBornBy}

-- a node's table of a generation beside its list, which has these writes of it, and these of all, up to a round
pub record IsOwnerOf (s : Settings) (n current : ℕ) (of_it of_all : List Entry) (round : ℕ) (t : Table)
    (v : OwnerListView) : Type 0 where
  pub table : IsTableOf s.nodes s.keys n t
  pub proper : IsProper t
  pub generation : t.generation ≡ current
  pub list_generation : v.generation ≡ current
  pub writes : v.current ≡ of_it
  pub all : entries_of v ≡ of_all
  pub few : length v.current ≤ MOST_WRITES * round
  pub greatest : greatest_version t t.node ≡ length v.current
  pub own_part : OwnPartIsLastWrites t (written v)
  pub born : AreBornBy round (written v)

-- after a round
abbrev pub IsOwner : Settings → ℕ → ℕ → Table → OwnerListView → Type 0
IsOwner s round n t v =
    IsOwnerOf s n (generation_upto s n round) (writes_upto s n round) (written_upto s n round) round t v

pub record StandAfterRound (s : Settings) (round : ℕ) (ts : List Table) (lists : List OwnerListView) : Type 0 where
  pub table_count : length ts ≡ s.nodes
  pub list_count : length lists ≡ s.nodes
  pub owners : (n : ℕ) → n < s.nodes → IsOwner s round n (table_of_node ts n) (list_of_owner lists n)

-- each write of the run meets what tables ask of what an owner writes under a number
abbrev pub MayWriteAll : (ℕ → ℕ → Entry → Type 0) → Settings → Type 0
MayWriteAll May s =
    (owner number : ℕ) (e : Entry) → owner < s.nodes → write_numbered (written_upto s owner s.rounds) number ≡ Some e
    → May owner number e
