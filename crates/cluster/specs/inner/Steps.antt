-- The parts of what a round begins with. Source: this project.
use Rattle.std.specs.Prelude.{◌≡◌, ◌≢◌, ℕ, List, ◌+◌, ◌-◌, ◌^◌, ◌<◌, map, ◌++◌, length, slice_index_or, All}
use Rattle.bench_types.specs.declared.entries.Entry.{Entry}
use Rattle.bench_types.specs.calls.Entry.{AreNextAfter}
use Rattle.scenario.specs.Settings.{Settings}
use Rattle.model.specs.calls.OwnerListView.{OwnerListView, written, list_of_owner, all_writes}
use Rattle.cluster.specs.Rounds.{after_restart}
use Rattle.model.specs.Table.{Table, with_own_writes, greatest_version, IsProper}
use Rattle.round_plan.specs.Writes.{count_before, own_writes, written_upto}
use Rattle.round_plan.specs.calls.Writes.{born_in, writes_before}
use Rattle.round_plan.specs.declared.owners.OwnWrite.{OwnWrite}
use Rattle.round_plan.specs.Generations.{generation_upto}
use Rattle.model.specs.calls.OwnParts.{OwnPartIsLastWrites}
use Rattle.model.specs.calls.Writes.{AreBornBy}
use Rattle.round_histories.specs.Histories.{HistoriesView, StaysBesideLists, own_list, StandsBeside}
use Rattle.cluster.specs.calls.Standing.{IsOwnerOf, IsOwner}

-- what a round begins with: for one node, and for all
abbrev pub begun_table : Settings → ℕ → ℕ → Table → Table
begun_table s round n t = with_own_writes (after_restart s round n t) (own_writes s n round (count_before s n round))

-- each of these writes, before the first of which the owner made so many, meets what tables ask
abbrev pub MayWriteEach : (ℕ → ℕ → Entry → Type 0) → ℕ → ℕ → List Entry → Type 0
MayWriteEach May owner before writes =
    (i : ℕ) (d : Entry) → i < length writes → May owner (before + i + 1) (slice_index_or writes i d)

-- a node's table, and all owners' lists, before a round
pub record IsNodeBefore (s : Settings) (round n : ℕ) (t : Table) (lists : List OwnerListView) : Type 0 where
  pub node : n < s.nodes
  pub one_each : length lists ≡ s.nodes
  pub owner : IsOwner s (round - 1) n t (list_of_owner lists n)

-- a node may make these writes in a round, one after another
pub record MayWriteOwn (May : ℕ → ℕ → Entry → Type 0) (round : ℕ) (writes : List OwnWrite) (t : Table)
    (h : HistoriesView) : Type 0 where
  pub owner : t.node < length h.lists
  pub as_many_keys : t.keys ≡ h.keys
  pub proper : IsProper t
  pub keys : All (λ w. w.key < t.keys) writes
  pub next : AreNextAfter t.generation (length (own_list t h.lists).current) (map (born_in round t.generation) writes)
  pub may : MayWriteEach May t.node (length (all_writes h.lists t.node)) (map (born_in round t.generation) writes)
  pub fits : length (own_list t h.lists).current + length writes + 1 < 2 ^ 32
  pub beside : StandsBeside t (own_list t h.lists)
  pub born : AreBornBy round (written (own_list t h.lists))

-- all lists but this owner's stay
pub record OthersStay (owner : ℕ) (old new : List OwnerListView) : Type 0 where
  pub count : length new ≡ length old
  pub others : (other : ℕ) → other ≢ owner → list_of_owner new other ≡ list_of_owner old other

-- and of the histories nothing else has changed
pub record LeavesOthers (owner : ℕ) (old new : HistoriesView) : Type 0 where
  pub others : OthersStay owner old.lists new.lists
  pub beside : StaysBesideLists old new

-- these writes of a round were made, and added to the list
pub record HasWritten (round : ℕ) (writes : List OwnWrite) (old new : Table) (v v' : OwnerListView) : Type 0 where
  pub table : new ≡ with_own_writes old (map (born_in round old.generation) writes)
  pub list : v' ≡ record v { current = v.current ++ map (born_in round old.generation) writes }
  pub proper : IsProper new
  pub greatest : greatest_version new new.node ≡ length v'.current
  pub own_part : OwnPartIsLastWrites new (written v')
  pub born : AreBornBy round (written v')

-- and after the restarts of one, before its writes
abbrev pub HasRestarted : Settings → ℕ → ℕ → Table → OwnerListView → Type 0
HasRestarted s round n t v = IsOwnerOf s n (generation_upto s n round) (writes_before s n round) (written_upto s n (round - 1)) (round - 1) t v

-- how many writes of its generation an owner's list has
abbrev pub counted_in : OwnerListView → ℕ
counted_in list = length list.current
