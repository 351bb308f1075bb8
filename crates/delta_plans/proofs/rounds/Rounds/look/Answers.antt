use Rattle.delta_plans.proofs.Common.{refl, ap, ◌*◌, arith, MOST_ENTRY_SIZE, by_first, high_in, low_in, marks}
use Rattle.delta_plans.proofs.WeightLaws.{offer-most}
use Rattle.delta_plans.proofs.rounds.Rounds.look.Goals as goal

pub returns-then-surely_fit : goal.returns-then-surely_fit
returns-then-surely_fit g c =
    let number = g.N.Number.number in let offer = c.args.self.now.offer.now in let first = c.args.self.now.first in
    let mark = marks number c.args.mark.now in
    let most = offer-most number offer (λ r. by_first first (low_in number offer r) (mark r)) (λ r. by_first first (mark r) (high_in number offer r)) in
    (c.count-count.ensures, omega (arith, c.if-surely_fit.ensures refl, ap (λ n. n * MOST_ENTRY_SIZE) c.count-count.ensures, most), tt)

pub weighed-requires : goal.weighed-requires
weighed-requires g c = record { mark = c.requires; count = c.count-count.ensures }
