-- How freshness spreads. An exchange hands on what its sender holds of any owner: where that is fresh, so is the
-- receiver's copy afterwards, if nothing of the owner was cut. So a path of exchanges, one after another, makes fresh
-- what its last holder has, whatever is lost or cut elsewhere. Source: this project.
use Rattle.std.specs.Prelude.{◌≡◌, ℕ, ◌+◌, ◌<◌, ◌≤◌, false, slice_get, Some, IsSomeAnd}
use Rattle.bench_types.specs.declared.exchanges.Exchange.{Exchange}
use Rattle.bench_types.specs.declared.exchanges.Fate.TheVariants as fate
use Rattle.scenario.specs.Settings.{Settings}
use Rattle.model.specs.ExchangeLaws.{LosesNothing}
use Rattle.model.specs.Spreads.{SendsCopy}
use Rattle.round_plan.specs.Plan.{round_list_of}
use Rattle.cluster.specs.Rounds.{rules_of, records_in}
use Rattle.run_laws.specs.Healing.{Moment, IsUpToMoment, IsFreshAt, LeavesCopy, AnswersWhole, table_at_moment}

-- the moment after an exchange
abbrev pub next_moment : Moment → Moment
next_moment m = record m { exchanges = m.exchanges + 1 }

-- what the sender of a delta at a moment holds of an owner comes whole
abbrev pub SendsCopyAt : Settings → Moment → ℕ → ℕ → ℕ → ℕ → Type 0
SendsCopyAt s m rotation owner from to =
    SendsCopy (rules_of s) rotation owner (table_at_moment s m from) (table_at_moment s m to)

-- the exchange at a moment hands on a copy: to its initiator, where the messages up to the answer come, or to its
-- responder, where all three do
pub data HandsOn (s : Settings) (m : Moment) (owner : ℕ) : ℕ → ℕ → Type 0 where
  back : (e : Exchange) → slice_get (round_list_of s m.round).exchanges m.exchanges ≡ Some e
      → e.lost1 ≡ false → e.lost2 ≡ false → SendsCopyAt s m e.rotation owner e.responder e.initiator
      → HandsOn s m owner e.responder e.initiator
  forth : (e : Exchange) → slice_get (round_list_of s m.round).exchanges m.exchanges ≡ Some e
      → LosesNothing e → SendsCopyAt s m e.rotation owner e.initiator e.responder
      → HandsOn s m owner e.initiator e.responder

-- at its place among the round's records one has a record: where that says that it was answered in whole, it hands on
-- each copy to its initiator, and where it ended and cut nothing of its third message, each one to its responder
abbrev pub UncutExchangesHandOn : Settings → Type 0
UncutExchangesHandOn s =
    (m : Moment) (e : Exchange) (owner : ℕ) → 1 ≤ m.round
    → slice_get (round_list_of s m.round).exchanges m.exchanges ≡ Some e
    → IsSomeAnd (slice_get (records_in s m.round) m.exchanges) (λ r.
    (AnswersWhole r → HandsOn s m owner e.responder e.initiator)
    × (r.fate ≡ fate.Ok → r.forth_cut ≡ 0 → HandsOn s m owner e.initiator e.responder))

-- a path from an owner: it holds its own state; what is held stays while no round begins that doesn't leave it; and
-- exchanges hand it on
pub data IsReached (s : Settings) (owner : ℕ) : Moment → ℕ → Type 0 where
  own : (m : Moment) → 1 ≤ m.round → IsReached s owner m owner
  stays : (m n : Moment) (holder : ℕ) → IsReached s owner m holder → IsUpToMoment m n
      → ((round : ℕ) → m.round < round → round ≤ n.round → LeavesCopy s holder owner round)
      → IsReached s owner n holder
  handed : (m : Moment) (from to : ℕ) → IsReached s owner m from → HandsOn s m owner from to
      → IsReached s owner (next_moment m) to

-- the last holder of a path has a fresh copy
abbrev pub PathsMakeFresh : Settings → Type 0
PathsMakeFresh s =
    (owner : ℕ) → owner < s.nodes → (m : Moment) (holder : ℕ) → IsReached s owner m holder → IsFreshAt s m holder owner
