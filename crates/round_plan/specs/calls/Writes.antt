-- The writes of a round as a call answers them. Source: this project.
use Rattle.std.specs.Prelude.{◌≡◌, ℕ, zero, suc, ◌<◌, if◌then◌else◌, List, [], ◌++◌, length, map, All}
use Rattle.bench_types.specs.declared.entries.Entry.{Entry}
use Rattle.scenario.specs.Settings.{Settings}
use Rattle.round_plan.specs.declared.owners.OwnWrite.{OwnWrite}
use Rattle.round_plan.specs.Generations.{generation_upto}
use Rattle.round_plan.specs.Outages.{forgets_now}
use Rattle.round_plan.specs.Writes.{own_writes, writes_upto}

-- those of them that it has made before it writes in a round
abbrev pub writes_before : Settings → ℕ → ℕ → List Entry
writes_before s owner zero = []
writes_before s owner (suc round) = if forgets_now s owner (suc round) then [] else writes_upto s owner round

-- a write as `writes_of` answers it is one without its round and its generation
abbrev pub born_in : ℕ → ℕ → OwnWrite → Entry
born_in round generation w =
    record { key = w.key; generation = generation; version = w.version; value = w.value; born = round }

-- what a node writes in a round, before which it had made so many of its generation: put behind the earlier writes of
-- the generation it makes those up to the round
pub record AreWritesOf (s : Settings) (node round count_before : ℕ) (writes : List OwnWrite) : Type 0 where
  pub value : map (born_in round (generation_upto s node round)) writes ≡ own_writes s node round count_before
  pub keys : All (λ write. write.key < s.keys) writes
  pub grows : length (writes_before s node round) ≡ count_before
      → writes_upto s node round
      ≡ writes_before s node round ++ map (born_in round (generation_upto s node round)) writes
