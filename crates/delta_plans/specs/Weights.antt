-- What numbers of writes weigh: each counts for 1, or for what the write takes of a budget. Source: this project.
use Rattle.std.specs.Prelude.{ℕ, nat_lt, nat_le, List, Option, Some, None, if◌then◌else◌}
use Rattle.delta_plans.specs.Common.{Entry, Budget, First, share_of, write_numbered, Cells, count_between, sum_below}
use Rattle.delta_plans.specs.LevelMarks.{by_first}

-- what a write takes of a budget, 0 for none
abbrev pub share_or_none : Budget → Option Entry → ℕ
share_or_none budget None = 0
share_or_none budget (Some e) = share_of budget e

-- and so what those of each owner's numbers take
abbrev pub number_shares : Budget → (ℕ → List Entry) → ℕ → ℕ → ℕ
number_shares budget lists owner number = share_or_none budget (write_numbered (lists owner) number)

-- each number weighs 1
abbrev pub one_each : ℕ → ℕ → ℕ
one_each owner number = 1

-- what an owner's numbers above one mark and up to another weigh
abbrev pub weight_of : (ℕ → ℕ) → Cells → ℕ → ℕ → ℕ → ℕ → ℕ
weight_of weight cells keys owner low high =
    sum_below keys (λ key. if nat_lt low (cells owner key)
    then (if nat_le (cells owner key) high then weight (cells owner key) else 0) else 0)

-- and those from a near mark on to a far one, from the oldest or from the newest on
abbrev pub weight_from : First → (ℕ → ℕ) → Cells → ℕ → ℕ → ℕ → ℕ → ℕ
weight_from first weight cells keys owner near far =
    weight_of weight cells keys owner (by_first first near far) (by_first first far near)

-- and those of all owners, which have a mark of each kind each
abbrev pub weight_between : (ℕ → ℕ → ℕ) → Cells → ℕ → ℕ → (ℕ → ℕ) → (ℕ → ℕ) → ℕ
weight_between weights cells nodes keys low high =
    sum_below nodes (λ owner. weight_of (weights owner) cells keys owner (low owner) (high owner))

-- and what marks let through of them: what is up to them, or from the newest on above them
abbrev pub weight_through : First → (ℕ → ℕ → ℕ) → Cells → ℕ → ℕ → (ℕ → ℕ) → (ℕ → ℕ) → (ℕ → ℕ) → ℕ
weight_through first weights cells nodes keys low high mark =
    weight_between weights cells nodes keys (λ owner. by_first first (low owner) (mark owner))
    (λ owner. by_first first (mark owner) (high owner))

-- how many lie between two marks of each owner
abbrev pub count_all_between : Cells → ℕ → ℕ → (ℕ → ℕ) → (ℕ → ℕ) → ℕ
count_all_between cells nodes keys low high =
    sum_below nodes (λ owner. count_between cells keys owner (low owner) (high owner))
