-- How the figures of a round are counted: triple by triple, and together. Source: this project.
use Rattle.std.specs.Prelude.{◌≡◌, ◌↔◌, ℕ, ◌+◌, ◌*◌, ◌^◌, ◌<◌, ◌≤◌, max, nat_lt, if◌then◌else◌, Bool, IsTrue, List, length, All, slice_index_or, Option, None, Some}
use Rattle.std.specs.List.{AllZip, range_with_len}
use Rattle.limits.specs.Sums.{sum_below, most_below}
use Rattle.bench_types.specs.declared.entries.Entry.{Entry}
use Rattle.limits.specs.declared.TheConstants.{MOST_NODES, MOST_KEYS, MOST_ROUNDS}
use Rattle.bench_types.specs.declared.rows.Figures.{Figures}
use Rattle.model.specs.Figures.{staleness_of, staleness_at, leftover_at, stale_count, rounds_behind, node_figures, writes_of_owner}
use Rattle.model.specs.Table.{Table, mark_at}
use Rattle.model.specs.Tables.{table_of_node}
use Rattle.model.specs.calls.Tables.{IsCluster}
use Rattle.model.specs.calls.Writes.{AreBornBy}
use Rattle.model.specs.declared.writes.Write.{Write}

-- the version that what is held counts for in a generation
abbrev pub version_known : ℕ → Option Entry → ℕ
version_known generation None = 0
version_known generation (Some e) =
    if nat_lt e.generation generation then 0
    else (if nat_lt generation e.generation then 4294967295 else e.version)

-- the figures of one key of one node's copy of an owner
abbrev pub triple_figures : ℕ → List Table → List (List Write) → ℕ → ℕ → ℕ → Figures
triple_figures round tables lists p r k = record {
  stale = stale_count (staleness_at round tables lists p r k);
  greatest = rounds_behind (staleness_at round tables lists p r k);
  leftover = leftover_at tables p r k;
}

abbrev pub nothing : Figures
nothing = record { stale = 0; greatest = 0; leftover = 0 }

-- those of two parts together, and of all parts below a bound
abbrev pub joined : Figures → Figures → Figures
joined f g = record {
  stale = f.stale + g.stale;
  greatest = max f.greatest g.greatest;
  leftover = f.leftover + g.leftover;
}

-- there is room for the counts of both
pub record HaveRoom (f g : Figures) : Type 0 where
  pub stale : f.stale + g.stale < 2 ^ 64
  pub leftover : f.leftover + g.leftover < 2 ^ 64

abbrev pub total_below : ℕ → (ℕ → Figures) → Figures
total_below n f = record {
  stale = sum_below n (λ i. (f i).stale);
  greatest = most_below n (λ i. (f i).greatest);
  leftover = sum_below n (λ i. (f i).leftover);
}

abbrev pub found_at : List Figures → ℕ → Figures
found_at parts i = slice_index_or parts i nothing

-- they count at most so many triples
pub record AreFew (most : ℕ) (figures : Figures) : Type 0 where
  pub stale : figures.stale ≤ most
  pub leftover : figures.leftover ≤ most

-- what the figures of a round are counted from
pub record AreCountable (round : ℕ) (tables : List Table) (lists : List (List Write)) : Type 0 where
  pub cluster : IsCluster (length tables) tables
  pub one_list_each : length lists ≡ length tables
  pub round_limit : round ≤ MOST_ROUNDS
  pub born : All (AreBornBy round) lists

-- a node's own entries miss nothing of its list
abbrev pub IsCurrent : ℕ → Table → List Write → Type 0
IsCurrent round t writes =
    (key : ℕ) → key < t.keys → staleness_of round t.generation writes key (mark_at t t.node key) ≡ None

-- of each of the first so many nodes, in order, whether they do
pub record AreCurrent (round : ℕ) (tables : List Table) (lists : List (List Write)) (n : ℕ) (current : List Bool) : Type 0 where
  pub count : length current ≡ n
  pub each : (r : ℕ) (d : Bool) → r < n →
      IsTrue (slice_index_or current r d) ↔ IsCurrent round (table_of_node tables r) (writes_of_owner lists r)

-- a node's figures, which count no more than there can be, of no more nodes than there can be
pub record IsCounted (round : ℕ) (tables : List Table) (lists : List (List Write)) (node : ℕ) (figures : Figures) : Type 0 where
  pub are : figures ≡ node_figures round tables lists node
  pub few : AreFew (MOST_NODES * MOST_KEYS) figures
  pub nodes_limit : length tables ≤ MOST_NODES

-- those of all nodes, in order
abbrev pub AreCounted : ℕ → List Table → List (List Write) → List Figures → Type 0
AreCounted round tables lists figures = AllZip (IsCounted round tables lists) (range_with_len 0 (length tables)) figures
