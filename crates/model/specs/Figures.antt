-- How far the copies lag at the end of a round. A triple of a node p, another node r and a key k is stale where
-- r's list, which is of r's generation, has a write of k with a mark above p's mark of it, which is the absent one
-- where p holds none. Its staleness counts the rounds from that in which the least such write was made to this one,
-- both included. A triple is left over where p holds an entry of it of a generation below r's. The figures are the
-- number of stale triples, the greatest staleness, 0 where nothing is stale, and the number of triples that are left
-- over. Source: this project.
use Rattle.std.specs.Prelude.{ℕ, ◌+◌, ◌-◌, ◌==◌, Bool, false, nat_lt, if◌then◌else◌, List, [], length, slice_index_or, Option, None, Some, is_some, option_map, unwrap_or}
use Rattle.bench_types.specs.declared.entries.Entry.{Entry}
use Rattle.bench_types.specs.declared.entries.Mark.{Mark}
use Rattle.bench_types.specs.declared.rows.Figures.{Figures}
use Rattle.model.specs.Table.{Table, entry_at, mark_at}
use Rattle.model.specs.Tables.{table_of_node}
use Rattle.model.specs.declared.writes.Write.{Write}
use Rattle.limits.specs.Sums.{sum_below, most_below}
use Rattle.model.specs.Writes.{first_above}

-- the writes of an owner
abbrev pub writes_of_owner : List (List Write) → ℕ → List Write
writes_of_owner lists r = slice_index_or lists r []

-- the generation of an owner
abbrev pub generation_at : List Table → ℕ → ℕ
generation_at tables r = (table_of_node tables r).generation

-- how long a mark of a key has been behind an owner's list, if it is
abbrev pub staleness_of : ℕ → ℕ → List Write → ℕ → Mark → Option ℕ
staleness_of round generation writes key mark =
    option_map (λ w. round - w.born + 1) (first_above generation writes key mark)

-- the staleness of a triple, if it is stale
abbrev pub staleness_at : ℕ → List Table → List (List Write) → ℕ → ℕ → ℕ → Option ℕ
staleness_at round tables lists p r k =
    if p == r then None
    else staleness_of round (generation_at tables r) (writes_of_owner lists r) k (mark_at (table_of_node tables p) r k)

-- an entry is of a generation before this one
abbrev pub is_left_over : ℕ → Option Entry → Bool
is_left_over generation None = false
is_left_over generation (Some e) = nat_lt e.generation generation

-- a triple that is left over counts once
abbrev pub leftover_at : List Table → ℕ → ℕ → ℕ → ℕ
leftover_at tables p r k =
    if p == r then 0
    else (if is_left_over (generation_at tables r) (entry_at (table_of_node tables p) r k) then 1 else 0)

-- a stale triple counts once, with its staleness
abbrev pub stale_count : Option ℕ → ℕ
stale_count staleness = if is_some staleness then 1 else 0

abbrev pub rounds_behind : Option ℕ → ℕ
rounds_behind staleness = unwrap_or staleness 0

-- the figures of one node's copies of one owner's keys, of all its copies, and of all nodes
abbrev pub copy_figures : ℕ → List Table → List (List Write) → ℕ → ℕ → Figures
copy_figures round tables lists p r = record {
  stale = sum_below (table_of_node tables p).keys (λ k. stale_count (staleness_at round tables lists p r k));
  greatest = most_below (table_of_node tables p).keys (λ k. rounds_behind (staleness_at round tables lists p r k));
  leftover = sum_below (table_of_node tables p).keys (λ k. leftover_at tables p r k);
}

abbrev pub node_figures : ℕ → List Table → List (List Write) → ℕ → Figures
node_figures round tables lists p = record {
  stale = sum_below (length tables) (λ r. (copy_figures round tables lists p r).stale);
  greatest = most_below (length tables) (λ r. (copy_figures round tables lists p r).greatest);
  leftover = sum_below (length tables) (λ r. (copy_figures round tables lists p r).leftover);
}

unfoldable pub figures_of : ℕ → List Table → List (List Write) → Figures
figures_of round tables lists = record {
  stale = sum_below (length tables) (λ p. (node_figures round tables lists p).stale);
  greatest = most_below (length tables) (λ p. (node_figures round tables lists p).greatest);
  leftover = sum_below (length tables) (λ p. (node_figures round tables lists p).leftover);
}
