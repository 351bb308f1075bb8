use Rattle.delta_plans.proofs.Common.{◌≡◌, length, cond, ltb, sym, ap, ◌∙◌, arith, length-map, with_items, with_items_is, made-as, number-at, marks, cells_in}
use Rattle.delta_plans.proofs.LevelSteps.{next-told, step-is}
use Rattle.delta_plans.proofs.breadths.one_more.Goals as goal

pub returns : goal.returns
returns g c =
    let number = g.N.Number.number in let offer = c.args.offer.now in let is = c.requires.is_offer in let near = c.args.near.now in
    let least = c.in_ok-far.ensures in let long = ap length c.deref_mut.ensures.value ∙ sym (length-map c.in_ok-far.far.items number) ∙ least.size in
    let whole = with_items_is c.in_ok-far.far c.change.new.numbers (c.change.auto.numbers ∙ c.deref_mut.ensures.len) in
    let far = with_items c.in_ok-far.far c.change.new.numbers in
    let long_far : length far.items ≡ offer.grid.size.nodes = rw whole (c.change.auto.numbers ∙ long) in
    let risen = c.how_many-more.ensures.count (λ r n. ltb (marks number near r) n) (λ r n passes lt answer. search (arith, number-at)) in (
      step-is near far (λ r. ltb (marks number near r) (marks number far.items r)) (length far.items) 1 _ long_far
          (omega (arith, rw c.deref.ensures.value at risen)) long_far (λ r lt.
          next-told (cells_in number offer) offer.grid.size.keys r g.N.Number.most (marks number near r) (marks number c.in_ok-far.far.items r) _
          (λ key in_keys. is.below r key lt in_keys) (is.differ r lt) (least.each r lt)
          (ap (λ xs. marks number xs r) whole ∙ made-as number _ r _ _ (λ x. cond (ltb x g.N.Number.most) x (marks number near r))
          (c.change.ensures.each r (omega (arith, lt, long, length-map c.deref_mut.result.now number)))
          (λ n m call. search (arith, number-at))
          ∙ ap (λ xs. cond (ltb (marks number xs r) g.N.Number.most) (marks number xs r) (marks number near r)) c.deref_mut.ensures.value)),
      tt,
    )
