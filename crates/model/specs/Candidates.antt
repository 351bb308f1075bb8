-- The candidates from a sender to a receiver: the sender's entries that the receiver may lack. In the precise
-- modes an entry is one where its generation isn't below the one of the receiver's copy of its owner, and its mark is
-- above the receiver's mark of the same owner and key; in the scuttle modes where its mark is above the greatest one
-- that the receiver holds of that owner. What the receiver itself owns is none. Source: the LADIS 2008 paper;
-- generations and the last sentence are this project's.
use Rattle.std.specs.Prelude.{◌≡◌, ℕ, not, ◌&&◌, ◌==◌, List, filter}
use Rattle.bench_types.specs.declared.entries.Item.{Item}
use Rattle.bench_types.specs.declared.entries.Mark.{Mark}
use Rattle.bench_types.specs.declared.exchanges.Mode.{Mode}
use Rattle.bench_types.specs.declared.exchanges.DigestKind.{DigestKind}
use Rattle.bench_types.specs.declared.exchanges.DigestKind.TheVariants.{Scuttle, Precise}
use Rattle.bench_types.specs.Mark.{mark_of, is_before}
use Rattle.bench_types.specs.Mode.{digest_kind}
use Rattle.model.specs.Table.{Table, mark_at, greatest_mark, generation_held, items_of}

-- the modes of the LADIS 2008 paper, in which a digest gives one mark for each owner
abbrev pub IsScuttleMode : Mode → Type 0
IsScuttleMode mode = digest_kind mode ≡ Scuttle

-- the mark up to which a receiver knows what an item tells, by what its digest tells: a key that its copy lacks counts
-- as version 0 of the copy's generation, so that nothing of an older one is sent
abbrev pub known_mark : DigestKind → Table → Item → Mark
known_mark Scuttle to i = greatest_mark to i.owner
known_mark Precise to i =
    record { generation = generation_held to i.owner; version = (mark_at to i.owner i.entry.key).version }

-- the items above what is known, but for the receiver's own
abbrev pub items_above : (Item → Mark) → ℕ → List Item → List Item
items_above known receiver = filter (λ i. not (i.owner == receiver) && is_before (known i) (mark_of i.entry))

abbrev pub candidates : Mode → Table → Table → List Item
candidates mode from to = items_above (known_mark (digest_kind mode) to) to.node (items_of from)
