use Rattle.delta_plans.proofs.Common.{◌≡◌, cells_in, count_between}
use Rattle.delta_plans.proofs.offers.Offer.count_of.Given as goal

abbrev pub invariant-loop-key : goal.invariant-loop-key
invariant-loop-key g l = l.count ≡ count_between (cells_in g.N.Number.number l.self) l.key l.owner (g.N.Number.number l.low) (g.N.Number.number l.high)
