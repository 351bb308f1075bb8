use Rattle.delta_plans.proofs.Common.{◌<◌, ◌*◌, ◌&&◌, length, cond, leb, sym, ap, ◌∙◌, arith, length-map, with_items_is, made-as, number-at, cells_in, high_in, low_in, marks, mul-le-mul_right, MOST_NODES}
use Rattle.delta_plans.proofs.LevelSteps.{run-told, step-is}
use Rattle.delta_plans.proofs.depths.next_runs.Goals as goal

pub returns : goal.returns
returns g c =
    let number = g.N.Number.number in let offer = c.args.offer.now in let counts = c.args.counts.now in let high = offer.high.now in
    let size = c.args.size in let start = c.deref_mut.ensures.value ∙ c.in_ok-far.ensures.items in let long = ap length start ∙ c.requires.each_near in
    let whole = with_items_is c.in_ok-far.far c.change.new.numbers (c.change.auto.numbers ∙ c.deref_mut.ensures.len) in
    let risen = c.how_many-risen.ensures.count (λ r n. leb size n && leb n size) (λ r n passes lt answer. search (arith, c.narrow-longest.ensures)) in (
      step-is c.args.near.now _ (λ r. leb size (marks number counts r) && leb (marks number counts r) size) (length counts) size _
          (sym (length-map counts number) ∙ c.requires.counts_are.size) (ap (λ n. n * size) risen) (ap length whole ∙ c.change.auto.numbers ∙ long) (λ r lt.
          let in_counts : r < length counts = omega (arith, lt, c.requires.counts_are.size, length-map counts number) in
          let in_high : r < length high = omega (arith, lt, c.requires.is_offer.high) in
          run-told (cells_in number offer) offer.grid.size.keys r (low_in number offer r) (high_in number offer r) (c.requires.is_offer.covered r lt)
          size _ _ _ (c.requires.counts_are.each r lt) c.requires.some (c.requires.longer r lt)
          (ap (λ xs. marks number xs r) whole ∙ made-as number _ r _ _ (λ x. cond (leb size (marks number counts r)) (marks number high r) x)
          (c.change.ensures.each r (omega (arith, lt, long, length-map c.deref_mut.result.now number)))
          (λ n m call. search (arith, c.narrow-longest.ensures, number-at))
          ∙ ap (λ xs. cond (leb size (marks number counts r)) (marks number high r) (marks number xs r)) start)),
      tt,
    )

pub overflow_mul-more : goal.overflow_mul-more
overflow_mul-more g c =
    let long = length-map c.args.counts.now g.N.Number.number in
    let most = mul-le-mul_right {m = c.how_many-risen.result} {n = MOST_NODES} c.args.size
    (omega (arith, c.how_many-risen.ensures.upto, long, c.requires.counts_are.size, c.requires.is_offer.grid.few_nodes)) in
    omega (arith, most, c.requires.few)

pub how_many-risen-requires-clause-room : goal.how_many-risen-requires-clause-room
how_many-risen-requires-clause-room g c =
    omega (arith, length-map c.args.counts.now g.N.Number.number, c.requires.counts_are.size, c.requires.is_offer.grid.few_nodes)
