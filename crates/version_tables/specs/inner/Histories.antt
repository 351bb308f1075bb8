-- What the owners wrote so far, beside all that they write in the run. Source: this project.
use Rattle.std.specs.Prelude.{◌≡◌, ◌+◌, ◌*◌, ◌^◌, ◌<◌, ◌≤◌}
use Rattle.version_tables.specs.inner.Common.{ℕ, List, length, map, Contains, Some, Entry, mark_of, Table, entry_at, IsProper, OwnerListView, all_writes, AreWrites, list_of_owner, next_entry, no_writes, write_numbered, HasEach, HasEachPlace, cell, Ends, HistoriesView, KeepLimits, Owners, IsLastNumber, IsHistory, IsNumberedHistory, AreEnds, AreMadeBy}

-- some writes are the first of all
abbrev pub IsBeginning : List Entry → List Entry → Type 0
IsBeginning some all = (number : ℕ) → number ≤ length some → write_numbered some number ≡ write_numbered all number

-- how many writes each owner made before its generation
abbrev pub bases_in : List OwnerListView → ℕ → ℕ
bases_in lists owner = length (list_of_owner lists owner).earlier

-- what an owner wrote so far, of all that it writes, whose numbers are below a bound
pub record IsWrittenSoFar (all : List Entry) (most : ℕ) (so_far : List Entry) : Type 0 where
  pub begins : IsBeginning so_far all
  pub few : length so_far < most
  pub history : IsHistory so_far
  pub numbered : IsNumberedHistory so_far

-- what is known of all owners' writes, where this is what they write in the run
pub record AreKnown (written : ℕ → List Entry) (most : ℕ) (h : HistoriesView) : Type 0 where
  pub so_far : (owner : ℕ) → IsWrittenSoFar (written owner) most (all_writes h.lists owner)
  pub made : (owner : ℕ) → AreMadeBy (h.rounds + 1) (all_writes h.lists owner)
  pub writes : (owner : ℕ) → AreWrites (list_of_owner h.lists owner)

-- so many owners that have written nothing
pub record AreNoWrites (nodes : ℕ) (lists : List OwnerListView) : Type 0 where
  pub count : length lists ≡ nodes
  pub empty : (owner : ℕ) → list_of_owner lists owner ≡ no_writes

-- what is kept of the writes of so many owners: counts of all and of those of earlier generations, the last number of
-- each key, and where the rounds end
pub record AreHistories (written : ℕ → List Entry) (most : ℕ) (h : HistoriesView) (nodes : ℕ)
    (counts bases lasts ends : List ℕ) : Type 0 where
  pub count : length h.lists ≡ nodes
  pub limits : KeepLimits h
  pub known : AreKnown written most h
  pub counted : HasEach nodes (λ r n. n ≡ length (all_writes h.lists r)) counts
  pub based : HasEach nodes (λ r n. n ≡ bases_in h.lists r) bases
  pub last : HasEachPlace nodes h.keys (λ r k n. IsLastNumber (list_of_owner h.lists r) k n) lasts
  pub ends_size : length ends ≡ (h.rounds + 1) * nodes
  pub ended : AreEnds (all_writes h.lists) nodes h.rounds (cell ends nodes)
  pub reached : (owner round : ℕ) → owner < nodes → round ≤ h.rounds
      → cell ends nodes owner round ≤ length (all_writes h.lists owner)

-- how many writes each owner had made up to the end of each round, in memory
pub record AreEndsOf {N : Type 0} (number : N → ℕ) (h : HistoriesView) (ends : Ends N) : Type 0 where
  pub rounds : ends.rounds ≡ h.rounds
  pub size : length ends.numbers.now ≡ (h.rounds + 1) * length h.lists
  pub parts : AreEnds (all_writes h.lists) (length h.lists) h.rounds
      (cell (map number ends.numbers.now) (length h.lists))

-- as many owners as nodes, whose writes are numbered, and of each how many it made before its generation
pub record AreOwners {N : Type 0} (number : N → ℕ) (nodes : ℕ) (owners : Owners N) : Type 0 where
  pub count : length owners.lists.now ≡ nodes
  pub base_count : length owners.bases.now ≡ nodes
  pub bases : HasEach nodes (λ r n. n ≡ bases_in owners.lists.now r) (map number owners.bases.now)
  pub numbered : (owner : ℕ) → IsNumberedHistory (all_writes owners.lists.now owner)

-- what a table owes to the histories: its entries were written, and no later than in the last round
pub record FitsHistories (h : HistoriesView) (t : Table) : Type 0 where
  pub proper : IsProper t
  pub nodes : t.nodes ≡ length h.lists
  pub holds : (owner key : ℕ) (e : Entry) → entry_at t owner key ≡ Some e → Contains (all_writes h.lists owner) e
  pub made : (owner : ℕ) → AreMadeBy h.rounds (all_writes h.lists owner)

-- and the histories to the run
pub record FitsRun (written : ℕ → List Entry) (most : ℕ) (h : HistoriesView) (t : Table) : Type 0 where
  pub known : AreKnown written most h
  pub among : FitsHistories h t

-- an entry is what an owner writes under a number, which is below a bound, and no two of its writes have one mark
pub record IsWriteUnder (written : ℕ → List Entry) (most owner number : ℕ) (e : Entry) : Type 0 where
  pub is : write_numbered (written owner) number ≡ Some e
  pub below : number < most
  pub apart : (m n : ℕ) (d c : Entry) → write_numbered (written owner) m ≡ Some d
      → write_numbered (written owner) n ≡ Some c → mark_of d ≡ mark_of c → d ≡ c

-- an owner may write this next
pub record MayAddWrite (written : ℕ → List Entry) (most : ℕ) (h : HistoriesView) (owner key value : ℕ) : Type 0 where
  pub owner_below : owner < length h.lists
  pub key_below : key < h.keys
  pub few : length (list_of_owner h.lists owner).current + 1 < 2 ^ 32
  pub under : IsWriteUnder written most owner (length (all_writes h.lists owner) + 1)
      (next_entry (list_of_owner h.lists owner) key value (h.rounds + 1))
