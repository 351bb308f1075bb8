-- Tables of versions beside the owners' lists. Source: this project.
use Rattle.std.specs.Prelude.{◌≡◌}
use Rattle.version_tables.specs.inner.Common.{ℕ, All, List, length, map, Result, Entry, Fault, HistoriesView, StandAtRoundEnd, IsStretchOf, histories_of, numbers_in, AreRoundNumbers, Counts, Piece, RoundNumbers, VersionTableView, table_in, IsKept}
use Rattle.version_tables.specs.declared.ended.Ended.{Ended}

-- these are the numbers of tables that are kept
pub record AreCellsOf (written : ℕ → List Entry) (views : List VersionTableView) (cells : List (List ℕ)) : Type 0 where
  pub are : cells ≡ map (λ (v : VersionTableView). v.cells) views
  pub kept : All (IsKept written) views

-- the numbers of these tables beside these histories
pub record AreNumbersBeside {N : Type 0} (number : N → ℕ) (most : ℕ) (written : ℕ → List Entry)
    (views : List VersionTableView) (h : HistoriesView) (numbers : RoundNumbers N) : Type 0 where
  pub histories : histories_of numbers ≡ h
  pub cells : AreCellsOf written views (numbers_in number numbers.cells.now)
  pub are : AreRoundNumbers number most numbers (map (table_in written) views)

-- a part of the tables may be counted
abbrev pub MayCountStretch : {N H : Type 0} → (ℕ → List Entry) → Ended N H → ℕ → ℕ → Type 0
MayCountStretch written ended from to =
    StandAtRoundEnd (table_in written) ended.tables.items ended.histories
    × IsStretchOf (length ended.tables.items) from to

-- and is
abbrev pub CountsStretch : {N H : Type 0} → (N → ℕ) → ℕ → (ℕ → List Entry) → Ended N H → ℕ → ℕ
    → Result (Piece N) Fault → Type 0
CountsStretch {N} number most written ended from to answer =
    (numbers : RoundNumbers N) → AreNumbersBeside number most written ended.tables.items ended.histories numbers
    → Counts number numbers from to answer
