-- What a table of versions takes for the owners' writes. Source: this project.
use Rattle.std.specs.Prelude.{◌≡◌, ℕ, suc, ◌<◌, List}
use Rattle.limits.specs.Sums.{sum_below}
use Rattle.bench_types.specs.declared.entries.Entry.{Entry}
use Rattle.round_plan.specs.Writes.{writes_in, written_upto}
use Rattle.scenario.specs.Settings.{Settings, IsLawfulScenario}

-- these are all writes of each owner in a run of a scenario
abbrev pub AreWrittenIn : (ℕ → List Entry) → Settings → Type 0
AreWrittenIn lists s = (owner : ℕ) → lists owner ≡ written_upto s owner s.rounds

-- how many writes a node makes in so many rounds if it is up in all of them
abbrev pub writes_if_up : Settings → ℕ → ℕ
writes_if_up s rounds = sum_below rounds (λ done. writes_in s (suc done))

-- each owner makes fewer writes than this in a run of a lawful scenario
pub record HasWritesBelow (most : ℕ) (s : Settings) : Type 0 where
  pub lawful : IsLawfulScenario s
  pub few : writes_if_up s s.rounds < most
