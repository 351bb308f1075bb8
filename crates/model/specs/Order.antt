-- The sending order of a mode's candidates. With a rotation s among n nodes, rot(r) = (r + n - s) mod n.
-- scuttle-breadth: how many candidates of the same owner have a smaller version, then rot(owner).
-- scuttle-depth: how many candidates the owner has, greater first; rot(owner); version.
-- precise-oldest: born; rot(owner); version.
-- precise-newest: born, greater first; rot(owner); version, greater first.
-- Smaller comes first where nothing else is said, and all four end with the key: docs/model.md, The sending order.
-- Source: this project; the names breadth and depth are the LADIS 2008 paper's.
use Rattle.std.specs.Prelude.{ℕ, ◌+◌, ◌-◌, ◌%◌, ◌&&◌, ◌==◌, nat_lt, List, count_by}
use Rattle.std.specs.Ordering.{nat_cmp, ordering_then}
use Rattle.std.specs.declared.cmp.Ordering.{Ordering}
use Rattle.bench_types.specs.declared.entries.Item.{Item}
use Rattle.bench_types.specs.declared.exchanges.Mode.{Mode}
use Rattle.bench_types.specs.declared.exchanges.Mode.TheVariants.{ScuttleBreadth, ScuttleDepth, PreciseOldest, PreciseNewest}

-- where an owner stands, counted from the rotation on
abbrev pub rotated : ℕ → ℕ → ℕ → ℕ
rotated nodes rotation owner = (owner + nodes - rotation) % nodes

-- how many candidates of the item's owner have a smaller version
abbrev pub rank_among : List Item → Item → ℕ
rank_among cs i = count_by (λ d. d.owner == i.owner && nat_lt d.entry.version i.entry.version) cs

-- how many candidates the item's owner has
abbrev pub owner_count : List Item → Item → ℕ
owner_count cs i = count_by (λ d. d.owner == i.owner) cs

abbrev pub sending_order : Mode → ℕ → ℕ → List Item → Item → Item → Ordering
sending_order ScuttleBreadth ns s cs c d =
    ordering_then (nat_cmp (rank_among cs c) (rank_among cs d))
    (ordering_then (nat_cmp (rotated ns s c.owner) (rotated ns s d.owner))
    (nat_cmp c.entry.key d.entry.key))
sending_order ScuttleDepth ns s cs c d =
    ordering_then (nat_cmp (owner_count cs d) (owner_count cs c))
    (ordering_then (nat_cmp (rotated ns s c.owner) (rotated ns s d.owner))
    (ordering_then (nat_cmp c.entry.version d.entry.version)
    (nat_cmp c.entry.key d.entry.key)))
sending_order PreciseOldest ns s cs c d =
    ordering_then (nat_cmp c.entry.born d.entry.born)
    (ordering_then (nat_cmp (rotated ns s c.owner) (rotated ns s d.owner))
    (ordering_then (nat_cmp c.entry.version d.entry.version)
    (nat_cmp c.entry.key d.entry.key)))
sending_order PreciseNewest ns s cs c d =
    ordering_then (nat_cmp d.entry.born c.entry.born)
    (ordering_then (nat_cmp (rotated ns s c.owner) (rotated ns s d.owner))
    (ordering_then (nat_cmp d.entry.version c.entry.version)
    (nat_cmp c.entry.key d.entry.key)))
