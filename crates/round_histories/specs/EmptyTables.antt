-- The empty tables of some nodes beside the histories, in shares. Source: this project.
use Rattle.std.specs.Prelude.{◌≡◌, ℕ, ◌-◌, ◌++◌, ◌≤◌, List, length, map, Result, IfOk, IsOkAnd, IsOkUnless, Vec}
use Rattle.std.specs.List.{range_with_len}
use Rattle.std.specs.declared.alloc.Global.{Global}
use Rattle.bench_types.specs.declared.faults.Fault.{Fault}
use Rattle.bench_types.specs.declared.faults.Fault.TheVariants.{OutOfMemory}
use Rattle.model.specs.Table.{Table, empty_table}
use Rattle.round_histories.specs.Histories.{HistoriesView}

-- nodes from one on up to another
abbrev pub IsStretchOfNodes : HistoriesView → ℕ → ℕ → Type 0
IsStretchOfNodes h from to = (from ≤ to) × (to ≤ length h.lists)

-- the empty tables of such nodes, if there is memory for them
abbrev pub empty_tables_in : HistoriesView → ℕ → ℕ → List Table
empty_tables_in h from to = map (λ n. empty_table n (length h.lists) h.keys) (range_with_len from (to - from))

abbrev pub AreMadeEmpty : {T : Type 0} → (T → Table) → HistoriesView → ℕ → ℕ → Result (Vec T Global) Fault → Type 0
AreMadeEmpty table h from to answer =
    IfOk answer (λ v. map table v.items ≡ empty_tables_in h from to) × IsOkUnless answer OutOfMemory

-- what has come of both
abbrev pub AreJoined : {T : Type 0} → Result (Vec T Global) Fault → Result (Vec T Global) Fault → Result (Vec T Global) Fault → Type 0
AreJoined first others answer =
    IfOk answer (λ v. IsOkAnd first (λ f. IsOkAnd others (λ o. v.items ≡ f.items ++ o.items))) × IsOkUnless answer OutOfMemory
