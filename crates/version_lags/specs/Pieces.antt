-- What is counted of some of the tables at the end of a round. Source: this project.
use Rattle.std.specs.Prelude.{◌≡◌, ℕ, zero, suc, ◌+◌, ◌*◌, ◌<◌, ◌≤◌, ◌&&◌, min, max, All, Bool, List, [], length, map, slice_get, slice_index, slice_index_or, nat_lt, nat_le, IfOk, IsOkUnless, Result, Some}
use Rattle.version_lags.specs.Common.{Bor, Entry, Fault, OutOfMemory, Figures, MOST_NODES, MOST_KEYS, MOST_ROUNDS, Table, table_of_node, HoldsOfEach, IsCluster, OwnerListView, all_writes, entries_of, list_of_owner, lists_in, AreWrites, write_numbered, sum_below, most_below, Grid, cells_in, IsOwnerOf, cell, total_of, HasEach, HasEachPlace, IsGrid, HistoriesView, BirthsRise, AreWrittenBy, KeepLimits, StandsAmong, figures_of, rounds_behind, AreBounds, IsStretchOf, Piece, RoundNumbers, AreEnds}
use Rattle.version_lags.specs.Missed.{base_of, number_staleness, IsLastNumber, IsNumberAt, NonePassUpto}

-- the tables of all nodes beside the histories
pub record StandTogether (tables : List Table) (h : HistoriesView) : Type 0 where
  pub cluster : IsCluster (length tables) tables
  pub one_list_each : length h.lists ≡ length tables
  pub limits : KeepLimits h
  pub writes : (owner : ℕ) → AreWrites (list_of_owner h.lists owner)
  pub standing : HoldsOfEach (StandsAmong h) tables

-- what the figures of a round are counted from
pub record MayBeCounted (tables : List Table) (h : HistoriesView) : Type 0 where
  pub together : StandTogether tables h
  pub written : AreWrittenBy h.rounds h.lists

-- the numbers of tables, as code has them
abbrev pub numbers_in : {N : Type 0} → (N → ℕ) → List (Bor (List N)) → List (List ℕ)
numbers_in number cells = map (λ x. map number x.now) cells

abbrev pub numbers_at : List (List ℕ) → ℕ → List ℕ
numbers_at cells p = slice_index_or cells p []

-- the histories beside which code has these numbers
abbrev pub histories_of : {N : Type 0} → RoundNumbers N → HistoriesView
histories_of numbers = record { lists = numbers.lists.now; keys = numbers.keys; rounds = numbers.ends.rounds }

-- the numbers of what a node's table holds
abbrev pub AreNumbersAt : List Table → HistoriesView → ℕ → List ℕ → Type 0
AreNumbersAt tables h node cells =
    HasEachPlace (length h.lists) h.keys (IsNumberAt h.lists (table_of_node tables node)) cells

-- the numbers of all tables, and beside them the last numbers, and how many writes are of earlier generations
pub record AreNumbersOf (tables : List Table) (h : HistoriesView) (cells : List (List ℕ))
    (bases last : List ℕ) : Type 0 where
  pub count : length cells ≡ length h.lists
  pub cells_are : (p : ℕ) → p < length h.lists → AreNumbersAt tables h p (numbers_at cells p)
  pub based : HasEach (length h.lists) (λ r n. n ≡ base_of (list_of_owner h.lists r)) bases
  pub lasts : HasEachPlace (length h.lists) h.keys
      (λ owner key number. IsLastNumber (list_of_owner h.lists owner) key number) last

-- the numbers alone, by which pieces are counted
pub record NumbersView : Type 0 where
  pub nodes : ℕ
  pub keys : ℕ
  pub tables : List (List ℕ)
  pub bases : List ℕ
  pub last : List ℕ

abbrev pub numbers_seen : {N : Type 0} → (N → ℕ) → RoundNumbers N → NumbersView
numbers_seen number numbers = record {
  nodes = length numbers.lists.now;
  keys = numbers.keys;
  tables = numbers_in number numbers.cells.now;
  bases = map number numbers.bases.now;
  last = map number numbers.last.now;
}

-- a number of a table is below the last one, or of an earlier generation
abbrev pub is_stale : NumbersView → List ℕ → ℕ → ℕ → Bool
is_stale v table r k = nat_lt (cell table v.nodes r k) (cell v.last v.nodes r k)

abbrev pub is_left : NumbersView → List ℕ → ℕ → ℕ → Bool
is_left v table r k = nat_lt 0 (cell table v.nodes r k) && nat_le (cell table v.nodes r k) (slice_index v.bases r)

-- how many places of the tables below one pass a test
abbrev pub total_below : NumbersView → (List ℕ → ℕ → ℕ → Bool) → ℕ → ℕ
total_below v test to = sum_below to (λ p. total_of v.nodes v.keys (test (numbers_at v.tables p)))

-- the numbers of all tables make grids
pub record AreGrids (v : NumbersView) : Type 0 where
  pub grid : IsGrid v.nodes v.keys (length v.last)
  pub count : length v.tables ≡ v.nodes
  pub based : length v.bases ≡ v.nodes
  pub alike : (p : ℕ) → p < v.nodes → length (numbers_at v.tables p) ≡ length v.last

-- the least of a most number and of what f gives below a bound
abbrev pub least_below : ℕ → (ℕ → ℕ) → ℕ → ℕ
least_below zero f most = most
least_below (suc n) f most = min (least_below n f most) (f n)

-- a total, and a least number, from one table on up to another: with what is before, that up to there
pub record IsTotal (v : NumbersView) (test : List ℕ → ℕ → ℕ → Bool) (from to total : ℕ) : Type 0 where
  pub few : total ≤ to * (MOST_NODES * MOST_KEYS)
  pub is : total_below v test from + total ≡ total_below v test to

pub record IsLeastFrom (f : ℕ → ℕ) (most from to least : ℕ) : Type 0 where
  pub upto : least ≤ most
  pub is : min (least_below from f most) least ≡ least_below to f most

-- what is counted of the tables from one on up to another
pub record CountsPiece (v : NumbersView) (from to stale leftover : ℕ) (least : List ℕ) : Type 0 where
  pub stale_is : IsTotal v (is_stale v) from to stale
  pub leftover_is : IsTotal v (is_left v) from to leftover
  pub least_is : HasEachPlace v.nodes v.keys
      (λ r k. IsLeastFrom (λ p. cell (numbers_at v.tables p) v.nodes r k) (cell v.last v.nodes r k) from to) least

abbrev pub IsPieceOf : {N : Type 0} → (N → ℕ) → NumbersView → ℕ → ℕ → Piece N → Type 0
IsPieceOf number v from to piece = CountsPiece v from to piece.stale piece.leftover (map number piece.least.items)

abbrev pub HasCounted : {N : Type 0} → (N → ℕ) → RoundNumbers N → ℕ → ℕ → Piece N → Type 0
HasCounted number numbers from to piece = IsPieceOf number (numbers_seen number numbers) from to piece

-- it is counted, unless memory is refused
abbrev pub Counts : {N : Type 0} → (N → ℕ) → RoundNumbers N → ℕ → ℕ → Result (Piece N) Fault → Type 0
Counts number numbers from to result = IfOk result (HasCounted number numbers from to) × IsOkUnless result OutOfMemory

-- one is of the tables behind those of another
pub record AreBehindEachOther {N : Type 0} (number : N → ℕ) (piece others : Piece N) : Type 0 where
  pub v : NumbersView
  pub grids : AreGrids v
  pub from : ℕ
  pub mid : ℕ
  pub to : ℕ
  pub part : IsStretchOf v.nodes mid to
  pub first : IsPieceOf number v from mid piece
  pub second : IsPieceOf number v mid to others

-- all tables are counted, in parts
pub record ArePieces {N : Type 0} (number : N → ℕ) (numbers : RoundNumbers N)
    (pieces : List (Result (Piece N) Fault)) : Type 0 where
  pub bounds : List ℕ
  pub are : AreBounds (length numbers.lists.now) bounds
  pub one_each : length pieces + 1 ≡ length bounds
  pub each : (i : ℕ) (piece : Result (Piece N) Fault) → slice_get pieces i ≡ Some piece
      → Counts number numbers (slice_index bounds i) (slice_index bounds (i + 1)) piece

-- where rounds end in the owners' lists
pub record AreRoundEnds {N : Type 0} (number : N → ℕ) (numbers : RoundNumbers N) : Type 0 where
  pub size : length numbers.ends.numbers.now ≡ (numbers.ends.rounds + 1) * length numbers.lists.now
  pub are_ends : AreEnds (all_writes numbers.lists.now) (length numbers.lists.now) numbers.ends.rounds
      (cell (map number numbers.ends.numbers.now) (length numbers.lists.now))

-- the numbers of these tables at the end of a round
pub record AreRoundNumbers {N : Type 0} (number : N → ℕ) (most : ℕ) (numbers : RoundNumbers N)
    (tables : List Table) : Type 0 where
  pub may : MayBeCounted tables (histories_of numbers)
  pub few : (owner : ℕ) → length (all_writes numbers.lists.now owner) < most
  pub are : AreNumbersOf tables (histories_of numbers) (numbers_in number numbers.cells.now)
      (map number numbers.bases.now) (map number numbers.last.now)
  pub ends : AreRoundEnds number numbers

-- the numbers of some tables, of which all are counted
pub record AreAllCounted {N : Type 0} (number : N → ℕ) (most : ℕ) (numbers : RoundNumbers N)
    (piece : Piece N) : Type 0 where
  pub tables : List Table
  pub are : AreRoundNumbers number most numbers tables
  pub whole : HasCounted number numbers 0 (length numbers.lists.now) piece

-- the figures are those of whatever tables have these numbers, unless memory is refused
abbrev pub AreFigures : {N : Type 0} → (N → ℕ) → ℕ → RoundNumbers N → Result Figures Fault → Type 0
AreFigures number most numbers result =
    IfOk result (λ f. (tables : List Table) → AreRoundNumbers number most numbers tables
    → f ≡ figures_of numbers.ends.rounds tables (lists_in numbers.lists.now)) × IsOkUnless result OutOfMemory

-- an owner's list, from a number on, beside the least number that is held of each key
pub record WalksFrom (list : OwnerListView) (keys round most first : ℕ) (least : ℕ → ℕ) : Type 0 where
  pub round_limit : round ≤ MOST_ROUNDS
  pub writes : AreWrites list
  pub few : length (entries_of list) < most
  pub born : All (λ e. e.born ≤ round) (entries_of list)
  pub in_order : BirthsRise (entries_of list)
  pub keyed : (m : ℕ) (e : Entry) → write_numbered (entries_of list) m ≡ Some e → base_of list < m → e.key < keys
  pub written : (k : ℕ) → k < keys → least k ≤ length (entries_of list)
  pub start : NonePassUpto list least (max (base_of list) first)

-- it may be walked over, beside a grid of these numbers
pub record MayWalk {N : Type 0} (number : N → ℕ) (most : ℕ) (list : OwnerListView) (least : Grid N)
    (owner round first : ℕ) : Type 0 where
  pub place : IsOwnerOf least owner
  pub walks : WalksFrom list least.size.keys round most first (cells_in number least owner)

-- the most rounds that a copy of an owner's keys has been behind
abbrev pub most_lag : ℕ → ℕ → OwnerListView → (ℕ → ℕ) → ℕ
most_lag keys round list least = most_below keys (λ k. rounds_behind (number_staleness round list k (least k)))
