-- What a run has drawn: the words of a round, its list, and what is written in it. Source: this project.
use Rattle.std.specs.Prelude.{◌≡◌, ℕ, ◌+◌, ◌*◌, ◌<◌, ◌≤◌, List, [], length, slice_index_or, Option, IfSome, Vec}
use Rattle.std.specs.declared.alloc.Global.{Global}
use Rattle.limits.specs.declared.TheConstants.{MOST_ROUNDS, MOST_WRITES}
use Rattle.round_plan.specs.Plan.{round_list_of}
use Rattle.round_plan.specs.Writes.{writes_upto}
use Rattle.round_plan.specs.calls.Outages.{any_restart_now}
use Rattle.round_plan.specs.calls.Words.{RunWordsView, run_words_of}
use Rattle.round_plan.specs.calls.Writes.{writes_before, AreWritesOf}
use Rattle.round_plan.specs.declared.owners.OwnWrite.{OwnWrite}
use Rattle.scenario.specs.Settings.{Settings}
use Rattle.cluster.specs.declared.plans.Drawn.{Drawn}
use Rattle.cluster.specs.declared.plans.Drawn.TheVariants.{Words, Next}
use Rattle.cluster.specs.declared.plans.Plan.{Plan}

-- what each node writes in a round
pub record AreWritesOfAll (s : Settings) (round : ℕ) (all : List (List OwnWrite)) : Type 0 where
  pub count : length all ≡ s.nodes
  pub each : (n : ℕ) → n < s.nodes
      → AreWritesOf s n round (length (writes_before s n round)) (slice_index_or all n [])

-- the words of a round, whether any node restarts in it, its list, and its writes if they are there
pub record IsPlanOf (s : Settings) (round : ℕ) (plan : Plan) : Type 0 where
  pub words : plan.words ≡ run_words_of s round
  pub restarts : plan.any_restart ≡ any_restart_now s round
  pub list : plan.list ≡ round_list_of s round
  pub writes : IfSome plan.writes (λ v. AreWritesOfAll s round v.items)

-- how many writes of its generation each node has made after a round
pub record AreCountsAfter (s : Settings) (round : ℕ) (counts : List ℕ) : Type 0 where
  pub count : length counts ≡ s.nodes
  pub each : (n : ℕ) → n < s.nodes → slice_index_or counts n 0 ≡ length (writes_upto s n round)
  pub few : (n : ℕ) → n < s.nodes → slice_index_or counts n 0 ≤ MOST_WRITES * round

-- words of one of the rounds of a scenario, and how much each node has written after it, where another one comes
pub record MayDraw (s : Settings) (round : ℕ) (words : RunWordsView) (counts : Option (Vec ℕ Global)) : Type 0 where
  pub first : 1 ≤ round
  pub drawn : words ≡ run_words_of s round
  pub counted : IfSome counts (λ v. AreCountsAfter s round v.items)
  pub another : IfSome counts (λ _. round + 1 ≤ MOST_ROUNDS)

-- after a round: its words, or the plan of the next one
abbrev pub IsDrawnAfter : Settings → ℕ → Drawn → Type 0
IsDrawnAfter s round (Words words) = words ≡ run_words_of s round
IsDrawnAfter s round (Next plan) = IsPlanOf s (round + 1) plan
