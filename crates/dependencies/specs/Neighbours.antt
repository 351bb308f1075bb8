-- The predecessors of an exchange are the last earlier exchanges of its two nodes, and its successors the next later
-- ones. Where both nodes have the same one it counts once. Source: this project.
use Rattle.std.specs.Prelude.{ℕ, Bool, zero, suc, ◌+◌, ◌-◌, ◌==◌, if◌then◌else◌, List, [], ◌∷◌, ◌++◌, length, Option, None, Some}
use Rattle.std.specs.List.{range_with_len, find, filter}
use Rattle.bench_types.specs.declared.exchanges.Exchange.{Exchange}
use Rattle.dependencies.specs.declared.deps.After.{After}
use Rattle.dependencies.specs.declared.deps.Before.{Before}
use Rattle.dependencies.specs.Sharing.{exchange_at, takes_part}

-- the last exchange of a node before a place
abbrev pub last_before : List Exchange → ℕ → ℕ → Option ℕ
last_before es node zero = None
last_before es node (suc i) = if takes_part es node i then Some i else last_before es node i

-- the first exchange of a node from a place on
abbrev pub first_from : List Exchange → ℕ → ℕ → Option ℕ
first_from es node i = find (takes_part es node) (range_with_len i (length es - i))

-- the second of two, unless it is the first as well
abbrev pub unless_same : Option ℕ → Option ℕ → Option ℕ
unless_same first None = None
unless_same None (Some j) = Some j
unless_same (Some i) (Some j) = if i == j then None else Some j

abbrev pub as_list : Option ℕ → List ℕ
as_list None = []
as_list (Some i) = i ∷ []

abbrev pub predecessors_of : List Exchange → ℕ → Before
predecessors_of es i =
    let first = last_before es (exchange_at es i).initiator i in
    record { first = first; second = unless_same first (last_before es (exchange_at es i).responder i) }

abbrev pub successors : List Exchange → ℕ → After
successors es i =
    let first = first_from es (exchange_at es i).initiator (i + 1) in
    record { first = first; second = unless_same first (first_from es (exchange_at es i).responder (i + 1)) }

-- the predecessors, each once
abbrev pub predecessors : List Exchange → ℕ → List ℕ
predecessors es i = as_list (predecessors_of es i).first ++ as_list (predecessors_of es i).second

abbrev pub pending_of : List Exchange → ℕ → ℕ
pending_of es i = length (predecessors es i)

-- those without a predecessor, ascending
abbrev pub is_first_ready : List Exchange → ℕ → Bool
is_first_ready es i = pending_of es i == 0

abbrev pub first_ready_of : List Exchange → List ℕ
first_ready_of es = filter (is_first_ready es) (range_with_len 0 (length es))
