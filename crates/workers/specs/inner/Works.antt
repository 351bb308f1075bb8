-- A list that several workers share out. Source: this project.
use Rattle.std.specs.Prelude.{ℕ, ◌≤◌, List, map}
use Rattle.limits.specs.declared.TheConstants.{MOST_WORKERS}
use Rattle.work.specs.Carrying.{MayCarryOut}
use Rattle.model.specs.Table.{Table}
use Rattle.work.specs.declared.works.Batch.{Batch}

-- from two workers up to the most
abbrev pub AreSeveral : ℕ → Type 0
AreSeveral workers = (2 ≤ workers) × (workers ≤ MOST_WORKERS)

-- a batch may be carried out on these tables
abbrev pub MayShareOut : {T X G : Type 0} → (T → Table) → (X → Table → Type 0) → Batch X G → List T → Type 0
MayShareOut table fits batch tables =
    MayCarryOut (fits batch.shared) batch.rules.now batch.list.now.nodes (map table tables)
