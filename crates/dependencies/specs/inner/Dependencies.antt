-- What is kept of a list's dependencies. Source: this project.
use Rattle.std.specs.Prelude.{◌≡◌, ℕ, List, length, map}
use Rattle.bench_types.specs.declared.exchanges.Exchange.{Exchange}
use Rattle.model.specs.RoundLists.{RoundListView}
use Rattle.model.specs.calls.RoundLists.{IsRoundPlan}
use Rattle.dependencies.specs.declared.deps.After.{After}
use Rattle.dependencies.specs.declared.deps.Before.{Before}
use Rattle.dependencies.specs.Neighbours.{first_ready_of, predecessors_of, successors}
use Rattle.std.specs.List.{range_with_len}

-- the predecessors and the successors of each exchange, in list order
abbrev pub all_predecessors : List Exchange → List Before
all_predecessors es = map (predecessors_of es) (range_with_len 0 (length es))

abbrev pub all_successors : List Exchange → List After
all_successors es = map (successors es) (range_with_len 0 (length es))

pub record AreDependencies (es : List Exchange) (earlier : List Before) (later : List After) (first : List ℕ) : Type 0 where
  pub before : earlier ≡ all_predecessors es
  pub after : later ≡ all_successors es
  pub ready : first ≡ first_ready_of es

-- a plan, and its dependencies beside it
abbrev pub AreKept : RoundListView → List Before → List After → List ℕ → Type 0
AreKept plan earlier later first = IsRoundPlan plan × AreDependencies plan.exchanges earlier later first

-- those without a predecessor, of whichever list these are the predecessors
abbrev pub AreFirstReady : List Before → List ℕ → Type 0
AreFirstReady earlier first = (es : List Exchange) → earlier ≡ all_predecessors es → first ≡ first_ready_of es
