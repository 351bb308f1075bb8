-- Entries compare by mark: to reconcile two copies is to keep, for each owner and key, the entry with the later mark,
-- and the one that is held where the marks are equal. An owner's n-th write of a generation has version n, from 1.
-- Source: the LADIS 2008 paper, which has versions alone; the tie is this project's, and so is it that versions leave
-- no number out.
use Rattle.std.specs.Prelude.{ℕ, ◌+◌, Option, None, Some, if◌then◌else◌}
use Rattle.bench_types.specs.declared.entries.Entry.{Entry}
use Rattle.bench_types.specs.Mark.{mark_of, is_before}

-- the version of the write that comes after so many
abbrev pub next_version : ℕ → ℕ
next_version count = count + 1

-- what is kept of the held entry, if any, and one that comes in
abbrev pub newer : Option Entry → Entry → Entry
newer None incoming = incoming
newer (Some held) incoming = if is_before (mark_of held) (mark_of incoming) then incoming else held
