-- The writes of an owner. In each round in which it is up a node makes so many writes, one after another, and its
-- n-th write of a generation has version n, from 1. A write takes a number, which is a word of the node or one less
-- than its version: its key is the number modulo how many keys there are, and its value the number divided by that.
-- Each write is born in the round in which it is made. Where the node forgets, all that it had written is gone, and
-- then come the writes of the round. Source: the LADIS 2008 paper for versions that rise; numbers, rounds and
-- generations are this project's.
use Rattle.std.specs.Prelude.{ℕ, zero, suc, ◌+◌, ◌-◌, ◌/◌, ◌%◌, Bool, if◌then◌else◌, List, [], ◌++◌, map, reverse, unwrap_or}
use Rattle.std.specs.Option.{option_map}
use Rattle.std.specs.List.{range_with_len, find}
use Rattle.bench_types.specs.declared.entries.Entry.{Entry}
use Rattle.bench_types.specs.Entry.{next_version}
use Rattle.scenario.specs.declared.choices.Choice.{Choice}
use Rattle.scenario.specs.declared.choices.Choice.TheVariants.{Random, Cycle}
use Rattle.scenario.specs.declared.elements.Load.{Load}
use Rattle.scenario.specs.Settings.{Settings}
use Rattle.round_plan.specs.Generations.{generation_upto}
use Rattle.round_plan.specs.Outages.{is_between, is_up, forgets_now}
use Rattle.round_plan.specs.Words.{word_of}

-- a load covers a round
abbrev pub covers : ℕ → Load → Bool
covers round l = is_between l.from l.to round

-- how many writes a node that is up makes in a round: as the last load that covers it says, else as the scenario does
unfoldable pub writes_in : Settings → ℕ → ℕ
writes_in s round = unwrap_or (option_map (λ (l : Load). l.writes) (find (covers round) (reverse s.loads))) s.writes

-- the number of a write, from a word and its version
abbrev pub number_by : Choice → ℕ → ℕ → ℕ
number_by Random word version = word
number_by Cycle word version = version - 1

-- how many writes of its generation an owner has made up to a round
abbrev pub count_upto : Settings → ℕ → ℕ → ℕ
count_upto s owner zero = 0
count_upto s owner (suc round) =
    (if forgets_now s owner (suc round) then 0 else count_upto s owner round)
    + (if is_up s owner (suc round) then writes_in s (suc round) else 0)

-- how many it has made before it writes in a round
abbrev pub count_before : Settings → ℕ → ℕ → ℕ
count_before s owner zero = 0
count_before s owner (suc round) = if forgets_now s owner (suc round) then 0 else count_upto s owner round

-- the number of the write at a place of a node's round, from 0, before which the node had made so many of its
-- generation; word 8 is the first write's
abbrev pub write_number : Settings → ℕ → ℕ → ℕ → ℕ → ℕ
write_number s node round count_before place =
    number_by s.choice (word_of s node round (8 + place)) (next_version (count_before + place))

-- the write of a number that comes after so many of a generation in a round, where there are so many keys
abbrev pub numbered_write : ℕ → ℕ → ℕ → ℕ → ℕ → Entry
numbered_write keys round generation number count =
    record {
      key = number % keys;
      generation = generation;
      version = next_version count;
      value = number / keys;
      born = round;
    }

-- the write at a place of a node's round
abbrev pub own_write_at : Settings → ℕ → ℕ → ℕ → ℕ → Entry
own_write_at s node round count_before place =
    numbered_write s.keys round (generation_upto s node round) (write_number s node round count_before place)
    (count_before + place)

-- the writes of a node in a round, before which it had made so many of its generation: none where it is down
abbrev pub own_writes : Settings → ℕ → ℕ → ℕ → List Entry
own_writes s node round count_before =
    if is_up s node round
    then map (own_write_at s node round count_before) (range_with_len 0 (writes_in s round)) else []

-- the writes of an owner's generation up to a round: the write at place m, from 1, has version m
abbrev pub writes_upto : Settings → ℕ → ℕ → List Entry
writes_upto s owner zero = []
writes_upto s owner (suc round) =
    (if forgets_now s owner (suc round) then [] else writes_upto s owner round)
    ++ own_writes s owner (suc round) (count_before s owner (suc round))

-- all writes of an owner up to a round, those of its earlier generations too
abbrev pub written_upto : Settings → ℕ → ℕ → List Entry
written_upto s owner zero = []
written_upto s owner (suc round) =
    written_upto s owner round ++ own_writes s owner (suc round) (count_before s owner (suc round))
