-- Marks: a generation and a version in it. They compare by the generation first. What is absent has the mark of
-- version 0 in generation 0. Source: this project, after the versions of the LADIS 2008 paper.
use Rattle.std.specs.Prelude.{◌≡◌, ◌<◌, ◌≤◌, Bool, ◌||◌, ◌&&◌, ◌==◌, nat_lt, Option, None, Some, if◌then◌else◌}
use Rattle.bench_types.specs.declared.entries.Entry.{Entry}
use Rattle.bench_types.specs.declared.entries.Mark.{Mark}

abbrev pub absent : Mark
absent = record { generation = 0; version = 0 }

abbrev pub mark_of : Entry → Mark
mark_of e = record { generation = e.generation; version = e.version }

-- the mark of what is held
abbrev pub mark_held : Option Entry → Mark
mark_held None = absent
mark_held (Some held) = mark_of held

abbrev pub is_before : Mark → Mark → Bool
is_before m n = nat_lt m.generation n.generation || ((m.generation == n.generation) && nat_lt m.version n.version)

-- the first compares less
pub record IsBefore (m n : Mark) : Type 0 where
  pub generation : m.generation ≤ n.generation
  pub version : m.generation ≡ n.generation → m.version < n.version

-- the first compares less or is the other
pub record IsUpTo (m n : Mark) : Type 0 where
  pub generation : m.generation ≤ n.generation
  pub version : m.generation ≡ n.generation → m.version ≤ n.version

-- the later of two, the first where they are equal
abbrev pub later : Mark → Mark → Mark
later m n = if is_before m n then n else m
