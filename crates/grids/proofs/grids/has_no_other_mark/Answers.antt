use Rattle.grids.proofs.Common.{ℕ, ◌==◌, arith, rules, nat_tests, cond, length, length-map, map, nat_lt, slice_index, none-passes}
use Rattle.grids.proofs.grids.has_no_other_mark.Goals as goal

pub returns : goal.returns
returns g c =
    let low = map g.N.Number.number c.args.low.now in let test = λ (r n : ℕ). nat_lt 0 (cond (r == c.args.own) 0 n) in
    let found = none-passes (λ r. test r (slice_index low r)) (length c.args.low.now) (length low) c.how_many.result
    (c.how_many.ensures.count test (λ r n passes lt answer. search rules)) (length-map c.args.low.now g.N.Number.number) in (
      λ none owner lt other. let fails = found.0 none owner lt in grind (arith, nat_tests),
      λ none. found.1 (λ r lt. let fails = none r lt in grind (arith, nat_tests)),
    )
