-- When copies agree with their owners again. An exchange makes fresh what its two nodes hold of each other, and it
-- stays so until the owner writes or the holder restarts. On a ring each node meets each other one within as many
-- rounds as there are others: where for so long nothing is written, what comes back isn't lost or cut, and no node is
-- down, restarts or is apart, all copies are fresh. Source: this project.
use Rattle.std.specs.Prelude.{◌≡◌, ◌≢◌, ℕ, ◌+◌, ◌-◌, ◌*◌, ◌<◌, ◌≤◌, ◌⊎◌, true, false, [], slice_get, Some, Contains}
use Rattle.bench_types.specs.declared.exchanges.Exchange.{Exchange}
use Rattle.bench_types.specs.declared.exchanges.Fate.TheVariants as fate
use Rattle.bench_types.specs.declared.exchanges.Record.{Record}
use Rattle.bench_types.specs.Budget.{amount_of, largest_share}
use Rattle.scenario.specs.declared.choices.Peers.TheVariants.{Ring}
use Rattle.scenario.specs.Settings.{Settings}
use Rattle.model.specs.Table.{Table}
use Rattle.model.specs.Tables.{table_of_node}
use Rattle.model.specs.Fresh.{IsFresh, SendsOwnPart}
use Rattle.model.specs.ExchangeLaws.{LosesNothing}
use Rattle.round_plan.specs.Generations.{generation_upto}
use Rattle.round_plan.specs.Outages.{is_up, restarts_now, separated}
use Rattle.round_plan.specs.Plan.{round_list_of}
use Rattle.round_plan.specs.Writes.{writes_in, count_upto, count_before, own_writes}
use Rattle.cluster.specs.Rounds.{rules_of, tables_after, records_in}
use Rattle.played_rounds.specs.Outcomes.{figures_in, row_in}
use Rattle.played_rounds.specs.Soundness.{tables_within}

-- a moment of a run: in a round, after so many of its exchanges
pub record Moment : Type 0 where
  pub round : ℕ
  pub exchanges : ℕ

-- one moment is not after another
abbrev pub IsUpToMoment : Moment → Moment → Type 0
IsUpToMoment m n = (m.round < n.round) ⊎ ((m.round ≡ n.round) × (m.exchanges ≤ n.exchanges))

-- the table of a node at a moment
abbrev pub table_at_moment : Settings → Moment → ℕ → Table
table_at_moment s m n = table_of_node (tables_within s m.round m.exchanges) n

-- what one node then holds of another is fresh
abbrev pub IsFreshAt : Settings → Moment → ℕ → ℕ → Type 0
IsFreshAt s m holder owner = IsFresh (table_at_moment s m holder) (table_at_moment s m owner)

-- and a delta of one node to another sends each candidate of the sender's own part
abbrev pub SendsOwnPartAt : Settings → Moment → ℕ → ℕ → ℕ → Type 0
SendsOwnPartAt s m rotation sender receiver =
    SendsOwnPart (rules_of s) rotation (table_at_moment s m sender) (table_at_moment s m receiver)

-- an exchange at a moment makes fresh what a side holds of the other, where the messages up to the other's delta aren't
-- lost and nothing of the other's own is cut
pub record MakesFresh (s : Settings) (m : Moment) (e : Exchange) : Type 0 where
  pub initiator : e.lost1 ≡ false → e.lost2 ≡ false → SendsOwnPartAt s m e.rotation e.responder e.initiator
      → IsFreshAt s (record m { exchanges = m.exchanges + 1 }) e.initiator e.responder
  pub responder : LosesNothing e → SendsOwnPartAt s m e.rotation e.initiator e.responder
      → IsFreshAt s (record m { exchanges = m.exchanges + 1 }) e.responder e.initiator

-- and so does each exchange of a run, in every mode
abbrev pub ExchangesMakeFresh : Settings → Type 0
ExchangesMakeFresh s =
    (m : Moment) (e : Exchange) → 1 ≤ m.round → slice_get (round_list_of s m.round).exchanges m.exchanges ≡ Some e
    → MakesFresh s m e

-- in a round the owner writes nothing, and the holder doesn't restart
pub record LeavesCopy (s : Settings) (holder owner round : ℕ) : Type 0 where
  pub unwritten : own_writes s owner round (count_before s owner round) ≡ []
  pub kept : restarts_now s holder round ≡ false

-- what is fresh stays so from one moment to another, where each round that begins in between leaves it
abbrev pub FreshCopiesStay : Settings → Type 0
FreshCopiesStay s =
    (m n : Moment) (holder owner : ℕ) → 1 ≤ m.round → holder < s.nodes → owner < s.nodes → IsUpToMoment m n
    → ((round : ℕ) → m.round < round → round ≤ n.round → LeavesCopy s holder owner round)
    → IsFreshAt s m holder owner → IsFreshAt s n holder owner

-- in an exchange messages 1 and 2 came, and nothing of what the second brought was cut
pub record AnswersWhole (r : Record) : Type 0 where
  pub first : r.fate ≢ fate.Lost1
  pub second : r.fate ≢ fate.Lost2
  pub cut : r.back_cut ≡ 0

-- a round in which no node is down, restarts or is apart from another, nothing is written, and each exchange's
-- initiator was answered in whole
pub record IsQuiet (s : Settings) (round : ℕ) : Type 0 where
  pub up : (n : ℕ) → n < s.nodes → is_up s n round ≡ true
  pub kept : (n : ℕ) → n < s.nodes → restarts_now s n round ≡ false
  pub joined : (p q : ℕ) → p < s.nodes → q < s.nodes → separated s p q round ≡ false
  pub unwritten : writes_in s round ≡ 0
  pub answered : (r : Record) → Contains (records_in s round) r → AnswersWhole r

-- the rounds behind one, as many as a node has others
abbrev pub AreQuietAfter : Settings → ℕ → Type 0
AreQuietAfter s round = (i : ℕ) → i < s.nodes - 1 → IsQuiet s (round + 1 + i)

-- each owner that has forgotten has written since
abbrev pub HaveWrittenSince : Settings → ℕ → Type 0
HaveWrittenSince s round = (n : ℕ) → n < s.nodes → 1 ≤ generation_upto s n round → 1 ≤ count_upto s n round

-- all copies are fresh after a round, and its figures say so
pub record IsHealed (s : Settings) (round : ℕ) : Type 0 where
  pub fresh : (holder owner : ℕ) → holder < s.nodes → owner < s.nodes
      → IsFresh (table_of_node (tables_after s round) holder) (table_of_node (tables_after s round) owner)
  pub stale : (figures_in s round).stale ≡ 0
  pub greatest : (figures_in s round).greatest ≡ 0
  pub leftover : HaveWrittenSince s round → (figures_in s round).leftover ≡ 0

-- on a ring so many quiet rounds heal, after whichever round they begin
abbrev pub QuietRingsHeal : Settings → Type 0
QuietRingsHeal s =
    s.peers ≡ Ring → (round : ℕ) → AreQuietAfter s round → IsHealed s (round + (s.nodes - 1))

-- a budget has room for the largest entry of each key of all owners but one
abbrev pub IsAmple : Settings → Type 0
IsAmple s = (s.nodes - 1) * s.keys * largest_share s.budget ≤ amount_of s.budget

-- such a one cuts nothing in any round
abbrev pub AmpleBudgetsCutNothing : Settings → Type 0
AmpleBudgetsCutNothing s = IsAmple s → (round : ℕ) → 1 ≤ round → (row_in s round).cut ≡ 0
