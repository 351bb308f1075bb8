use Rattle.delta_plans.proofs.Common.{◌≡◌, false, ltb, rules, arith, nat_tests, cells_in, marks}
use Rattle.delta_plans.proofs.WeightLaws.{offer-entries, weight_of-none}
use Rattle.delta_plans.proofs.offers.Offer.left_of.Goals as goal

pub returns-in-Entries : goal.returns-in-Entries
returns-in-Entries g c =
    let alike = offer-entries c.requires.marks.is_offer c.in-Entries.field-0 c.in-Entries.is in
    rw (alike (marks g.N.Number.number c.args.low.now) (marks g.N.Number.number c.args.high.now), ← c.requires.count) c.checked_sub.ensures

pub left_of_some-requires-clause-passed : goal.left_of_some-requires-clause-passed
left_of_some-requires-clause-passed g c = λ owner from to first lt from_is to_is called.
    let number = g.N.Number.number in let low = c.args.low.now in let high = c.args.high.now in
    let told : false ≡ ltb (marks number low owner) (marks number high owner) = search (rules, from_is, to_is) in
    weight_of-none (λ _. 1) (cells_in number c.args.self.now) c.args.self.now.grid.size.keys owner (marks number low owner) (marks number high owner) (grind (arith, nat_tests))
