-- The size of a table's digest. In a scuttle mode a digest tells, for each owner, the greatest mark held, and its size
-- is the number of owners with a positive greatest version; in a precise mode it tells the mark of each owner and key,
-- with the generation of each owner's copy, and its size is the number of entries held. Source: the LADIS 2008 paper;
-- the sizes are this project's.
use Rattle.std.specs.Prelude.{ℕ, nat_lt, count_by}
use Rattle.std.specs.List.{range_with_len}
use Rattle.bench_types.specs.declared.exchanges.DigestKind.{DigestKind}
use Rattle.bench_types.specs.declared.exchanges.DigestKind.TheVariants as kinds
use Rattle.model.specs.Table.{Table, greatest_version, count_of}

abbrev pub digest_size : DigestKind → Table → ℕ
digest_size kinds.Scuttle t = count_by (λ r. nat_lt 0 (greatest_version t r)) (range_with_len 0 t.nodes)
digest_size kinds.Precise t = count_of t
