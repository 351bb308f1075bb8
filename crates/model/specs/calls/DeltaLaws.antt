-- What holds of every sending order, and of every delta from one table to another, that no law of runs needs.
-- Source: the LADIS 2008 paper, which demands that a message has each owner's entries in ascending version; the rest
-- is this project's.
use Rattle.std.specs.Prelude.{◌≡◌, ◌≢◌, ◌↔◌, ℕ, ◌<◌, ◌≤◌, List, length, slice_index_or, Contains}
use Rattle.std.specs.Cmp.{IsTotalOrder}
use Rattle.bench_types.specs.declared.entries.Item.{Item}
use Rattle.bench_types.specs.declared.exchanges.Budget.{Budget}
use Rattle.bench_types.specs.declared.exchanges.Mode.{Mode}
use Rattle.bench_types.specs.declared.exchanges.DigestKind.{DigestKind}
use Rattle.bench_types.specs.declared.exchanges.DigestKind.TheVariants.{Scuttle, Precise}
use Rattle.bench_types.specs.Mark.{mark_of, IsBefore}
use Rattle.bench_types.specs.Mode.{digest_kind}
use Rattle.model.specs.Table.{Table, mark_at, greatest_mark, generation_held, items_of, IsProper}
use Rattle.model.specs.Candidates.{IsScuttleMode, candidates}
use Rattle.model.specs.Deltas.{delta_between, item_share}
use Rattle.model.specs.Order.{sending_order}
use Rattle.std.specs.List.{sum_by}
use Rattle.bench_types.specs.Budget.{amount_of}

-- of any items, in every mode and with every rotation, the sending order is total
abbrev pub SendingOrdersAreTotal : Type 0
SendingOrdersAreTotal =
    (mode : Mode) (nodes rotation : ℕ) (cs : List Item) → IsTotalOrder (sending_order mode nodes rotation cs)

-- of each owner the items ascend in version
abbrev pub AscendByOwner : List Item → Type 0
AscendByOwner items =
    (j k : ℕ) (d : Item) → j < k → k < length items
    → (slice_index_or items j d).owner ≡ (slice_index_or items k d).owner
    → (slice_index_or items j d).entry.version ≤ (slice_index_or items k d).entry.version

-- and so do those of every delta of a scuttle mode
abbrev pub ScuttleDeltasAscend : Type 0
ScuttleDeltasAscend =
    (mode : Mode) (rotation : ℕ) (budget : Budget) (from to : Table) → IsScuttleMode mode
    → AscendByOwner (delta_between mode rotation budget from to).items

-- a receiver lacks an item that isn't its own: by greatest marks where it is above all that is held of its owner, by
-- each mark where it is of no older generation than the copy of its owner and above what is held of its key
abbrev pub Lacks : DigestKind → Table → Item → Type 0
Lacks Scuttle to i = (i.owner ≢ to.node) × IsBefore (greatest_mark to i.owner) (mark_of i.entry)
Lacks Precise to i =
    (i.owner ≢ to.node) × (generation_held to i.owner ≤ i.entry.generation)
    × IsBefore (mark_at to i.owner i.entry.key) (mark_of i.entry)

-- the candidates are the sender's items that the receiver lacks in that way
abbrev pub CandidatesAreLacked : Type 0
CandidatesAreLacked =
    (mode : Mode) (from to : Table) (i : Item) → IsProper from → IsProper to
    → Contains (candidates mode from to) i ↔ (Contains (items_of from) i × Lacks (digest_kind mode) to i)

-- a budget has room for them all
abbrev pub AreWithin : Budget → List Item → Type 0
AreWithin budget items = sum_by (item_share budget) items ≤ amount_of budget
