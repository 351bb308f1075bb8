use Rattle.planes.proofs.Common.{rules, nat_lt}
use Rattle.planes.proofs.grids.count_held.Goals as goal

pub returns : goal.returns
returns g c = c.how_many.ensures.count (λ r n. nat_lt 0 n) (λ r n passes lt answer. search rules)
