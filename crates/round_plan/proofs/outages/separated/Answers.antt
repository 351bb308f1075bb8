use Rattle.round_plan.proofs.Common.{◌≡◌, refl, sym, ap, subst, ◌∙◌, arith, length, get_or, [], true, list_any, or_at, or_from_places, Partition}
use Rattle.round_plan.specs.Outages.{separates, separated}
use Rattle.round_plan.proofs.outages.separated.Goals as goal

-- what an empty list has at no place
blank : Partition
blank = record { from = 0; to = 0; apart = [] }

pub returns-then-separates : goal.returns-then-separates
unfolding separated
returns-then-separates c =
    let items = c.partitions-partition-items.result.now in
    let test = separates c.args.p c.args.q c.args.round in
    let passes : test (get_or items c.loop-partition.partition-index c.partition-item.result) ≡ true =
    subst (λ x. test x ≡ true) c.partition-item.is (sym c.separates.ensures ∙ c.if-separates.true) in
    sym (or_at (list_any test) test refl (λ _ _. refl) items c.loop-partition.partition-index c.partition-item.result c.loop-partition-test.true passes)
    ∙ ap (list_any test) c.partitions-partition-items.ensures.value

pub returns : goal.returns
unfolding separated
returns c =
    let items = c.args.scenario.now.partitions in
    let test = separates c.args.p c.args.q c.args.round in
    let whole : c.loop-partition.partition-index ≡ length items = omega (arith, ap length c.partitions-partition-items.ensures.value) in
    sym (or_from_places (list_any test) test refl (λ _ _. refl) items blank (λ k lt. c.loop-partition.invariant k blank (omega arith)))
