-- The marks of one owner in a list of items. Source: this project.
use Rattle.std.specs.Prelude.{ℕ, ◌==◌, List, [], ◌∷◌, if◌then◌else◌}
use Rattle.bench_types.specs.declared.entries.Item.{Item}
use Rattle.bench_types.specs.declared.entries.Mark.{Mark}
use Rattle.bench_types.specs.Mark.{absent, mark_of, later}

-- the greatest mark among all of the owner's items
abbrev pub greatest_among : ℕ → List Item → Mark
greatest_among owner [] = absent
greatest_among owner (i ∷ is) =
    if i.owner == owner then later (mark_of i.entry) (greatest_among owner is) else greatest_among owner is
