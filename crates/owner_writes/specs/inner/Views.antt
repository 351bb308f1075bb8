-- An owner's writes in memory: those of earlier generations come first. Source: this project.
use Rattle.std.specs.Prelude.{ℕ, ◌^◌, ◌<◌, ◌≤◌, List, length, map, take, drop}
use Rattle.model.specs.calls.OwnerListView.{OwnerListView, AreWrites}
use Rattle.owner_writes.specs.Kept.{entry_kept}
use Rattle.owner_writes.specs.declared.writes.Kept.{Kept}

-- those with so many of earlier generations
abbrev pub view_of : List Kept → ℕ → ℕ → OwnerListView
view_of kept earlier generation = record {
  earlier = map entry_kept (take earlier kept);
  current = map entry_kept (drop earlier kept);
  generation = generation;
}

-- what is kept of all
pub record IsKept (kept : List Kept) (earlier generation : ℕ) : Type 0 where
  pub within : earlier ≤ length kept
  pub few : length (drop earlier kept) < 2 ^ 32
  pub writes : AreWrites (view_of kept earlier generation)
