-- How little a run can lag. As long as it has cut nothing, each copy is a state of its owner, and with the same nodes,
-- peers, losses and writes no mode and no budget has fewer stale copies, or less old ones: so those that cut nothing
-- come to the same. Source: this project.
use Rattle.std.specs.Prelude.{◌≡◌, ℕ, ◌≤◌, slice_get, Some}
use Rattle.bench_types.specs.declared.exchanges.Record.{Record}
use Rattle.bench_types.specs.declared.exchanges.Rules.{Rules}
use Rattle.scenario.specs.Settings.{Settings}
use Rattle.model.specs.States.{HoldStates, HoldAsMuch}
use Rattle.cluster.specs.Rounds.{tables_after, records_in}
use Rattle.played_rounds.specs.Outcomes.{figures_in, row_in}
use Rattle.played_rounds.specs.Soundness.{writes_by, tables_within}
use Rattle.run_laws.specs.Healing.{Moment, IsUpToMoment}
use Rattle.run_laws.specs.Paths.{next_moment}

-- the same scenario under another mode, with another budget
abbrev pub with_rules : Settings → Rules → Settings
with_rules s rules = record s { mode = rules.mode; budget = rules.budget }

-- nothing was cut in the rounds up to this one
abbrev pub CutsNothingUpTo : Settings → ℕ → Type 0
CutsNothingUpTo s last = (round : ℕ) → 1 ≤ round → round ≤ last → (row_in s round).cut ≡ 0

-- no exchange before a moment cut anything
abbrev pub CutsNothingBefore : Settings → Moment → Type 0
CutsNothingBefore s m =
    (n : Moment) (r : Record) → 1 ≤ n.round → IsUpToMoment (next_moment n) m
    → slice_get (records_in s n.round) n.exchanges ≡ Some r → (r.back_cut ≡ 0) × (r.forth_cut ≡ 0)

-- then each copy is a state of its owner
abbrev pub UncutCopiesAreStates : Settings → Type 0
UncutCopiesAreStates s =
    (m : Moment) → 1 ≤ m.round → CutsNothingBefore s m
    → HoldStates s.nodes (writes_by s m.round) (tables_within s m.round m.exchanges)

-- after a round nodes hold as much as in another run, no more copies are stale, and none for longer
pub record IsAsGood (s other : Settings) (round : ℕ) : Type 0 where
  pub tables : HoldAsMuch (tables_after s round) (tables_after other round)
  pub stale : (figures_in s round).stale ≤ (figures_in other round).stale
  pub greatest : (figures_in s round).greatest ≤ (figures_in other round).greatest

-- a run that has cut nothing is as good as those of all modes and budgets
abbrev pub UncutRunsAreBest : Settings → Type 0
UncutRunsAreBest s =
    (rules : Rules) (round : ℕ) → CutsNothingUpTo s round → IsAsGood s (with_rules s rules) round

-- and where another one has cut nothing either, tables and rows are the same
abbrev pub UncutModesAreAlike : Settings → Type 0
UncutModesAreAlike s =
    (rules : Rules) (round : ℕ) → 1 ≤ round → CutsNothingUpTo s round → CutsNothingUpTo (with_rules s rules) round
    → (tables_after (with_rules s rules) round ≡ tables_after s round)
    × (row_in (with_rules s rules) round ≡ row_in s round)
