use Rattle.planes.proofs.Common.{rules, nat_lt, slice_index, map}
use Rattle.planes.proofs.Elementwise.{number-at}
use Rattle.planes.proofs.grids.total_above.Goals as goal

pub returns : goal.returns
returns g c = c.total.ensures (λ r n. nat_lt (slice_index (map g.N.Number.number c.args.low.now) r) n)
    (λ r n passes lt answer. search (rules, number-at g.N.Number.number c.args.low.now r))
