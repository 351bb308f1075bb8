use Rattle.delta_plans.proofs.Common.{arith, high_in, low_in}
use Rattle.delta_plans.proofs.WeightLaws.{offer-most}
use Rattle.delta_plans.proofs.offers.Offer.fits.Goals as goal

pub returns-then-surely_fit : goal.returns-then-surely_fit
returns-then-surely_fit g c =
    let most = offer-most g.N.Number.number c.args.self.now (low_in g.N.Number.number c.args.self.now) (high_in g.N.Number.number c.args.self.now) in
    ((λ _. omega (arith, c.surely_fit.ensures c.if-surely_fit.true, c.requires.found, most)), (λ _. c.if-surely_fit.true))

pub left_of-requires-clause-marks : goal.left_of-requires-clause-marks
left_of-requires-clause-marks g c = record { is_offer = c.requires; each_low = c.requires.low; each_high = c.requires.high }
