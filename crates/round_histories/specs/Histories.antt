-- What the owners have written, beside a node's table, and what a table may ask where it stands in a round.
-- Source: this project.
use Rattle.std.specs.Prelude.{◌≡◌, ℕ, ◌+◌, ◌^◌, ◌<◌, ◌≤◌, List, length, map, slice_index_or, All, refl}
use Rattle.std.specs.Coded.{Coded, code_by, coded×, coded_ℕ, coded_list}
use Rattle.bench_types.specs.declared.entries.Entry.{Entry}
use Rattle.limits.specs.declared.TheConstants.{LEAST_KEYS, MOST_NODES, MOST_KEYS, MOST_ROUNDS}
use Rattle.model.specs.Table.{Table, greatest_version, IsProper}
use Rattle.model.specs.Tables.{HoldsOfEach}
use Rattle.model.specs.calls.Tables.{IsCluster}
use Rattle.model.specs.calls.OwnerListView.{OwnerListView, all_writes, written, next_entry, with_write, begun_generation, no_writes, list_of_owner, lists_in, ListBecomes}
use Rattle.model.specs.Copies.{HoldsWrites}
use Rattle.model.specs.Figures.{figures_of}
use Rattle.model.specs.calls.OwnParts.{OwnPartIsLastWrites}
use Rattle.round_histories.specs.declared.round_histories.Counted.{Counted}

-- what contracts see of histories: what the owners wrote so far, how many keys each has, and how many rounds' writes
-- were ended
pub record HistoriesView : Type 0 where
  pub lists : List OwnerListView
  pub keys : ℕ
  pub rounds : ℕ

-- its code, by that of a list
abbrev pub histories_code : Coded OwnerListView → Coded HistoriesView
histories_code list_code =
    code_by (List OwnerListView × (ℕ × ℕ)) (coded× (coded_list list_code) (coded× coded_ℕ coded_ℕ))
    (λ h. (h.lists, (h.keys, h.rounds)))
    (λ p. record { lists = p.0; keys = p.1.0; rounds = p.1.1 }) (λ _. refl)

-- the limits of histories
pub record KeepLimits (h : HistoriesView) : Type 0 where
  pub few_nodes : length h.lists ≤ MOST_NODES
  pub some_key : LEAST_KEYS ≤ h.keys
  pub few_keys : h.keys ≤ MOST_KEYS
  pub few_rounds : h.rounds ≤ MOST_ROUNDS

-- those of so many owners with so many keys each, before the first round
pub record AreNewHistories (nodes keys : ℕ) (h : HistoriesView) : Type 0 where
  pub count : length h.lists ≡ nodes
  pub empty : (owner : ℕ) → list_of_owner h.lists owner ≡ no_writes
  pub keys_are : h.keys ≡ keys
  pub none_ended : h.rounds ≡ 0

-- one more round's writes are ended
abbrev pub round_ended : HistoriesView → HistoriesView
round_ended h = record h { rounds = h.rounds + 1 }

-- as many keys and rounds as before
pub record StaysBesideLists (old new : HistoriesView) : Type 0 where
  pub keys : new.keys ≡ old.keys
  pub rounds : new.rounds ≡ old.rounds

-- an owner's list becomes another one, and nothing else changes
pub record HistoryBecomes (owner : ℕ) (list : OwnerListView) (old new : HistoriesView) : Type 0 where
  pub lists : ListBecomes owner list old.lists new.lists
  pub beside : StaysBesideLists old new

-- the list of a node
abbrev pub own_list : Table → List OwnerListView → OwnerListView
own_list t lists = list_of_owner lists t.node

-- none was born in an earlier round than one before it
abbrev pub BirthsRise : List Entry → Type 0
BirthsRise entries =
    (i j : ℕ) (d : Entry) → i ≤ j → j < length entries
    → (slice_index_or entries i d).born ≤ (slice_index_or entries j d).born

-- what owners write up to a round
pub record AreWrittenBy (round : ℕ) (lists : List OwnerListView) : Type 0 where
  pub born : (owner : ℕ) → All (λ e. e.born ≤ round) (all_writes lists owner)
  pub in_order : (owner : ℕ) → BirthsRise (all_writes lists owner)

-- a node's table beside its list: both of one generation, with as many writes of it, and the last of each key is held
pub record StandsBeside (t : Table) (list : OwnerListView) : Type 0 where
  pub generation : t.generation ≡ list.generation
  pub greatest : greatest_version t t.node ≡ length list.current
  pub own_part : OwnPartIsLastWrites t (written list)

-- where a table stands in a round, once its writes are made: it has as many keys, and each entry that it holds is a
-- write of its owner
pub record StandsAmong (h : HistoriesView) (t : Table) : Type 0 where
  pub nodes : t.nodes ≡ length h.lists
  pub keys : t.keys ≡ h.keys
  pub proper : IsProper t
  pub own : StandsBeside t (own_list t h.lists)
  pub holds : HoldsWrites (all_writes h.lists) t

-- all nodes' tables and the histories at the end of a round
pub record StandAtRoundEnd {T : Type 0} (table : T → Table) (tables : List T) (h : HistoriesView) : Type 0 where
  pub cluster : IsCluster (length tables) (map table tables)
  pub one_list_each : length h.lists ≡ length tables
  pub written_by : AreWrittenBy h.rounds h.lists
  pub standing : HoldsOfEach (StandsAmong h) (map table tables)

-- the figures of that were counted, and the tables and the histories are as they were
pub record AreFiguresCounted {T K : Type 0} (table : T → Table) (kept : K → HistoriesView) (histories : K) (tables : List T)
    (counted : Counted T K) : Type 0 where
  pub figures_are : counted.figures ≡ figures_of (kept histories).rounds (map table tables) (lists_in (kept histories).lists)
  pub same_tables : counted.tables.items ≡ tables
  pub same_histories : counted.histories ≡ histories

-- a node may forget
pub record MayForget (t : Table) (h : HistoriesView) : Type 0 where
  pub owner : t.node < length h.lists
  pub generation : t.generation ≡ (own_list t h.lists).generation
  pub few : t.generation + 1 < 2 ^ 32

-- a node may write this next, where `May` is what its table asks of what an owner writes under a number
pub record MayWrite (May : ℕ → ℕ → Entry → Type 0) (t : Table) (h : HistoriesView) (key value : ℕ) : Type 0 where
  pub owner : t.node < length h.lists
  pub keys : t.keys ≡ h.keys
  pub key_below : key < t.keys
  pub few : length (own_list t h.lists).current + 1 < 2 ^ 32
  pub beside : StandsBeside t (own_list t h.lists)
  pub may : May t.node (length (all_writes h.lists t.node) + 1)
      (next_entry (own_list t h.lists) key value (h.rounds + 1))

abbrev pub AddsWrite : Table → ℕ → ℕ → HistoriesView → HistoriesView → Type 0
AddsWrite t key value old new =
    HistoryBecomes t.node (with_write (own_list t old.lists) key value (old.rounds + 1)) old new

abbrev pub BeginsGeneration : Table → HistoriesView → HistoriesView → Type 0
BeginsGeneration t old new = HistoryBecomes t.node (begun_generation (own_list t old.lists)) old new
