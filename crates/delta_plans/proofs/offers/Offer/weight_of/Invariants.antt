use Rattle.delta_plans.proofs.Common.{◌≡◌, cells_in, weights_in, weight_of}
use Rattle.delta_plans.proofs.offers.Offer.weight_of.Given as goal

abbrev pub invariant-loop-key : goal.invariant-loop-key
invariant-loop-key g l =
    let number = g.N.Number.number in
    l.weight ≡ weight_of (weights_in l.self l.owner) (cells_in number l.self) l.key l.owner (number l.low) (number l.high)
