-- How far copies lag while owners write, in a run that has cut nothing: a path of exchanges brings all that its owner
-- had written when it began. In a scuttle mode it doesn't where others cut: an owner writes two keys, and a node gets
-- both; the owner writes both again, and a delta that is cut behind the first brings that to a third node. This one's
-- mark is then above all that the second node holds, so it gets nothing from there, and lacks the other key. Source:
-- this project.
use Rattle.std.specs.Prelude.{◌≡◌, ◌≢◌, ℕ, ◌-◌, ◌<◌, ◌≤◌, ◌⊎◌, false, length, slice_get, Some}
use Rattle.bench_types.specs.declared.exchanges.Exchange.{Exchange}
use Rattle.bench_types.specs.Mark.{IsUpTo}
use Rattle.scenario.specs.Settings.{Settings}
use Rattle.model.specs.Table.{greatest_mark}
use Rattle.model.specs.ExchangeLaws.{LosesNothing}
use Rattle.round_plan.specs.Outages.{forgets_now, restarts_now}
use Rattle.round_plan.specs.Plan.{round_list_of}
use Rattle.run_laws.specs.Floors.{CutsNothingBefore, CutsNothingUpTo}
use Rattle.run_laws.specs.Healing.{Moment, IsUpToMoment, table_at_moment}
use Rattle.played_rounds.specs.Outcomes.{figures_in}
use Rattle.run_laws.specs.Paths.{next_moment}

-- as a round begins a node keeps what it holds of an owner: it doesn't restart, or is the owner and doesn't forget
abbrev pub KeepsCopy : Settings → ℕ → ℕ → ℕ → Type 0
KeepsCopy s holder owner round =
    (restarts_now s holder round ≡ false) ⊎ ((holder ≡ owner) × (forgets_now s holder round ≡ false))

-- what an owner held of itself at a start has come to a node by a moment: a node has it while each round that begins
-- leaves it, and an exchange passes it on, to its initiator where the first two messages come, to its responder where
-- all three do
pub data IsPassedOn (s : Settings) (owner : ℕ) (start : Moment) : Moment → ℕ → Type 0 where
  begins : IsPassedOn s owner start start owner
  keeps : (m n : Moment) (holder : ℕ) → IsPassedOn s owner start m holder → IsUpToMoment m n
      → ((round : ℕ) → m.round < round → round ≤ n.round → KeepsCopy s holder owner round)
      → IsPassedOn s owner start n holder
  passed_back : (m : Moment) (e : Exchange) → IsPassedOn s owner start m e.responder
      → slice_get (round_list_of s m.round).exchanges m.exchanges ≡ Some e
      → e.lost1 ≡ false → e.lost2 ≡ false → owner ≢ e.initiator
      → IsPassedOn s owner start (next_moment m) e.initiator
  passed_forth : (m : Moment) (e : Exchange) → IsPassedOn s owner start m e.initiator
      → slice_get (round_list_of s m.round).exchanges m.exchanges ≡ Some e
      → LosesNothing e → owner ≢ e.responder
      → IsPassedOn s owner start (next_moment m) e.responder

-- then the node's greatest mark of the owner isn't below what that was at the start, whatever was written since
abbrev pub UncutPathsCatchUp : Settings → Type 0
UncutPathsCatchUp s =
    (owner : ℕ) → owner < s.nodes → (start m : Moment) (holder : ℕ) → 1 ≤ start.round → CutsNothingBefore s m
    → IsPassedOn s owner start m holder
    → IsUpTo (greatest_mark (table_at_moment s start owner) owner) (greatest_mark (table_at_moment s m holder) owner)

-- all that the owners have written as a round begins has come to all others by the end of another one
abbrev pub AllArePassedOn : Settings → ℕ → ℕ → Type 0
AllArePassedOn s from to =
    (owner holder : ℕ) → owner < s.nodes → holder < s.nodes → owner ≢ holder
    → IsPassedOn s owner (record { round = from; exchanges = 0 })
    (record { round = to; exchanges = length (round_list_of s to).exchanges }) holder

-- then nothing is stale for longer than since that round
abbrev pub StalenessIsBounded : Settings → Type 0
StalenessIsBounded s =
    (from to : ℕ) → 1 ≤ from → from ≤ to → CutsNothingUpTo s to → AllArePassedOn s from to
    → (figures_in s to).greatest ≤ to - from
