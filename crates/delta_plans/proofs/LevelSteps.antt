-- Levels of an offer, gone over as long as they fit: what a step from one to the next writes, what all steps keep, and
-- those of layers and of runs.
-- Serves `breadth`, `depth`, `next_runs` and `one_more`.
use Rattle.delta_plans.proofs.Common.{◌≡◌, ℕ, ◌+◌, ◌*◌, ◌<◌, ◌≤◌, length, inl, Option, Some, None, transport, Vec, Global, ap, ◌∙◌, arith, sum_below-same, amount_of, MOST_NODES, MOST_KEYS, Offer, Step, Oldest, cells_in, marks, weights_in, weight_in, IsLeftOf, IsOffer, one_each, weight_between, HaveLeft, IsLevel, IsStep, Bool, List, cond, sym, count_between, count_passing, ◌-◌, leb, ltb, inr, nat_tests, Cells, IsNextAbove, IsLeastAbove, NumbersDiffer, low_in, count_in, IsNextLayer, IsNextMark, AreLevelMarks, rank_above, ◌&&◌, map, cases_eq, length-map, count_above, HasNoneAbove, HasEach, count_le, Newest, owner_count_in, HasNoneBetween, IsMarkFrom, AreMarksFrom, AreRunsFrom, weight_of}
use Rattle.delta_plans.proofs.WeightLaws.{offer-few, parts_of, sum_below-none, sum_below-scaled, weight_between-parts, weight_of-none, offer-beyond, offer-parts, part, sum_below-each_none, weight_of-one, weight_of-split, owner-most}

-- far marks are a step where none is lower than its near one, and each that passes a test lets so many numbers more through
pub step-is : {N : Type 0} {number : N → ℕ} {offer : Offer N} {is : ℕ → ℕ → Type 0} (near : List N) (far : Vec N Global)
    (test : ℕ → Bool) (nodes size more : ℕ) → nodes ≡ offer.grid.size.nodes → more ≡ count_passing nodes test * size → length far.items ≡ offer.grid.size.nodes
    → ((r : ℕ) → r < offer.grid.size.nodes → is r (marks number far.items r) × (marks number near r ≤ marks number far.items r) × (cond (test r) 1 0 * size
    ≡ count_between (cells_in number offer) offer.grid.size.keys r (marks number near r) (marks number far.items r)))
    → IsStep number offer (marks number near) is (record { marks = far; more = more })
step-is {offer} near far test nodes size more all counted long tells = record {
  count = long;
  rises = λ r lt. (tells r lt).1;
  more = counted ∙ ap (λ n. count_passing n test * size) all ∙ sym (sum_below-scaled offer.grid.size.nodes size _)
      ∙ sum_below-same offer.grid.size.nodes _ _ (λ r lt. (tells r lt).2);
  next = λ r lt. (tells r lt).0;
}

module _ {N : Type 0} {number : N → ℕ} {most : ℕ} {offer : Offer N} (is : IsOffer number most offer) where
  open parts_of number offer use {cells, low}
  open offer.grid.size use {nodes, keys}

  -- the low marks let nothing through
  pub level-none : {near : List N} → near ≡ offer.low.now → HaveLeft Oldest number offer near 0 (amount_of offer.budget)
  level-none same =
      let none : (weights : ℕ → ℕ → ℕ) → weight_between weights cells nodes keys low low ≡ 0 = λ weights.
      sum_below-none nodes _ (λ r lt. weight_of-none (weights r) cells keys r (low r) (low r) (omega arith)) in
      rw same (omega (arith, is.low, none one_each, none (weights_in offer)))

  -- what is left, in other words
  pub left-told : (room : ℕ) {low low' high high' : List N} {left left' : Option ℕ} → low ≡ low' → high ≡ high' → left ≡ left'
      → IsLeftOf room (weight_in number offer (marks number low) (marks number high)) left
      → IsLeftOf room (weight_in number offer (marks number low') (marks number high')) left'
  left-told room lows highs lefts = transport (λ i. IsLeftOf room (weight_in number offer (marks number (lows i)) (marks number (highs i))) (lefts i))

  module _ {near : List N} {whole left : ℕ} (so_far : HaveLeft Oldest number offer near whole left) {is_next : ℕ → ℕ → Type 0} {next : Step N}
      (step : IsStep number offer (marks number near) is_next next) where
    abbrev far : ℕ → ℕ
    far = marks number next.marks.items

    -- what lies between the marks is added to what lies before them
    split : (weights : ℕ → ℕ → ℕ) → weight_between weights cells nodes keys low far
        ≡ weight_between weights cells nodes keys low (marks number near) + weight_between weights cells nodes keys (marks number near) far
    split weights = weight_between-parts weights cells nodes keys low (marks number near) far (λ r lt. (so_far.above r lt, inl (step.rises r lt)))

    pub level-few : whole + next.more ≤ MOST_NODES * MOST_KEYS
    level-few = omega (arith, so_far.counted, step.more, split one_each, offer-few is low far)

    -- it fits, so the next level comes
    pub level-next : {rest : ℕ} → IsLeftOf left (weight_in number offer (marks number near) far) (Some rest)
        → HaveLeft Oldest number offer next.marks.items (whole + next.more) rest
    level-next fits = omega (arith, so_far, step, fits.0, fits.1, split one_each, split (weights_in offer))

    -- or it is the first that doesn't
    pub level-ends : IsLeftOf left (weight_in number offer (marks number near) far) None → IsLevel Oldest number offer near next.marks.items whole left
    level-ends no_fit = omega (arith, so_far, step, no_fit, split (weights_in offer))

-- a mark that lets through an owner's first so many numbers above another, or all where there are no more
pub record IsLayerMark (cells : Cells) (keys owner low layers mark : ℕ) : Type 0 where
  above : low ≤ mark
  count : count_between cells keys owner low mark ≤ layers
  full : (key : ℕ) → key < keys → mark < cells owner key → count_between cells keys owner low mark ≡ layers

module _ (cells : Cells) (keys owner : ℕ) where
  abbrev count : ℕ → ℕ → ℕ
  count from to = count_between cells keys owner from to

  -- up to an owner's next number there is that one
  one-next : (mark least : ℕ) → NumbersDiffer cells keys owner → IsLeastAbove cells keys owner mark least → count mark least ≡ 1
  one-next mark least differ next = weight_of-one (λ _. 1) cells keys owner mark least next.key next.below
      (omega (arith, next.is, next.above)) (omega (arith, next.is)) (λ k lt above upto.
      differ k next.key lt next.below (omega (arith, above)) (omega (arith, upto, next.no_less k lt above, next.is)))

  -- the next number, or else the mark itself, which is counted where it is a number
  pub next-told : (most mark least y : ℕ) → ((key : ℕ) → key < keys → cells owner key < most) → NumbersDiffer cells keys owner
      → IsNextAbove most cells keys owner mark least → y ≡ cond (ltb least most) least mark
      → IsNextMark cells keys owner mark y × (mark ≤ y) × (cond (ltb mark y) 1 0 * 1 ≡ count mark y)
  next-told most mark least y below differ next settled = elim next [
    | inl none ↦
        let same : y ≡ mark = grind (arith, nat_tests, none.1) in
        (inl (none.0, same), omega (arith, same), grind (arith, nat_tests, weight_of-none (λ _. 1) cells keys owner mark y))
    | inr some ↦
        let same : y ≡ least = grind (arith, nat_tests, below some.key some.below, some.is) in let next_is = rw (← same) at some in
        (inr next_is, omega (arith, next_is.above), grind (arith, nat_tests, one-next mark y differ next_is, next_is.above))
  ]

  module _ (low layers mark : ℕ) (is : IsLayerMark cells keys owner low layers mark) where
    -- a number is let through where it is of one of the layers
    layer-lets : (key : ℕ) → key < keys → low < cells owner key → leb (cells owner key) mark ≡ ltb (rank_above cells keys owner low (cells owner key)) layers
    layer-lets key lt above =
        let n = cells owner key in
        let rank : rank_above cells keys owner low n ≡ count low (n - 1) = sum_below-same keys _ _ (λ k lt'. grind (arith, nat_tests)) in
        let below = λ (over : mark < n). weight_of-split (λ _. 1) cells keys owner low mark (n - 1) is.above (omega (arith, over)) in
        let upto = λ (le : n ≤ mark). weight_of-split (λ _. 1) cells keys owner low (n - 1) mark (omega (arith, above)) (omega (arith, le)) in
        let some = λ (none : count (n - 1) mark ≡ 0). sum_below-each_none keys (λ k. part (λ _. 1) (n - 1) mark (cells owner k)) none key lt in
        grind (arith, nat_tests, rank, is.full key lt, is.count, below, upto, some)

    -- the next mark is one of a layer more
    layer-more : (next : ℕ) → NumbersDiffer cells keys owner → IsNextMark cells keys owner mark next → IsLayerMark cells keys owner low (layers + 1) next
    layer-more next differ step = elim step [
      | inl none ↦ rw none.1 (omega (arith, is, none.0))
      | inr some ↦
          let full = is.full some.key some.below (omega (arith, some.is, some.above)) in
          let split = weight_of-split (λ _. 1) cells keys owner low mark next is.above (omega (arith, some.above)) in
          omega (arith, is.above, some, one-next mark next differ some, full, split)
    ]

-- layers as far as they were gone over
pub record HasLayers {N : Type 0} (number : N → ℕ) (offer : Offer N) (near : List N) (whole left : ℕ) : Type 0 where
  pub so_far : HaveLeft Oldest number offer near whole left
  layers : ℕ
  near_is : (r : ℕ) → r < offer.grid.size.nodes
      → IsLayerMark (cells_in number offer) offer.grid.size.keys r (low_in number offer r) layers (marks number near r)

module _ {N : Type 0} {number : N → ℕ} {most : ℕ} {offer : Offer N} (is : IsOffer number most offer) where
  open parts_of number offer use {cells, low, high}
  open offer.grid.size use {nodes, keys}

  -- none at first
  pub layers-none : {near : List N} → near ≡ offer.low.now → HasLayers number offer near 0 (amount_of offer.budget)
  layers-none start = record {
    so_far = level-none is start;
    layers = 0;
    near_is = rw start (λ r lt. let none = weight_of-none (λ _. 1) cells keys r (low r) (low r) (omega arith) in omega (arith, none));
  }

  module _ {near : List N} {whole left : ℕ} {next : Step N} (has : HasLayers number offer near whole left)
      (step : IsNextLayer number offer (marks number near) next) where
    abbrev last : ℕ → ℕ
    last = marks number next.marks.items

    far_is : (r : ℕ) → r < nodes → IsLayerMark cells keys r (low r) (has.layers + 1) (last r)
    far_is r lt = layer-more cells keys r (low r) has.layers (marks number near r) (has.near_is r lt) (last r) (is.differ r lt) (step.next r lt)

    -- the level at which they end
    pub level-of_layers : AreLevelMarks Oldest Oldest (λ owner number. rank_above cells keys owner (low owner) number) cells nodes keys low
        (marks number near) last
    level-of_layers = record {
      next = has.layers;
      near_is = λ r key lt in_keys over. layer-lets cells keys r (low r) has.layers (marks number near r) (has.near_is r lt) key in_keys over;
      far_is = λ r key lt in_keys over. grind (arith, nat_tests, layer-lets cells keys r (low r) (has.layers + 1) (last r) (far_is r lt) key in_keys over);
    }

    module _ {rest : ℕ} (fits : IsLeftOf left (weight_in number offer (marks number near) last) (Some rest)) where
      -- where not all fits, a layer that does has something
      pub layers-more : amount_of offer.budget < weight_in number offer low high → 0 < next.more
      layers-more cut =
          -- (a number beyond both would be of the next layer)
          let nothing = λ (none : count_in number offer (marks number near) last ≡ 0). offer-beyond is (weights_in offer) last (λ r lt key in_keys.
          let split = weight_of-split (λ _. 1) cells keys r (low r) (marks number near r) (last r) (has.so_far.above r lt) (step.rises r lt) in
          grind (arith, sum_below-each_none nodes _ none r lt, (has.near_is r lt).count, (far_is r lt).full key in_keys)) in
          let parts = offer-parts is (weights_in offer) last (λ r lt. (far_is r lt).above) in
          grind (arith, (level-next is has.so_far step fits).rest, nothing, parts, step.more)

      -- one layer more
      pub layers-next : HasLayers number offer next.marks.items (whole + next.more) rest
      layers-next = record { so_far = level-next is has.so_far step fits; layers = has.layers + 1; near_is = far_is }

module _ (cells : Cells) (keys owner low high : ℕ) (covered : HasNoneAbove cells keys owner high) where
  abbrev above : ℕ
  above = count_above cells keys owner low

  -- up to a mark that is above all numbers there are all
  count-covered : count_between cells keys owner low high ≡ above
  count-covered = sum_below-same keys _ _ (λ key lt. let le = covered key lt in grind (arith, nat_tests))

  -- one owner's part of the next runs
  pub run-told : (size near next found : ℕ) → found ≡ above → 0 < size → near ≡ cond (leb (size + 1) above) high low
      → next ≡ cond (leb size found) high near → (next ≡ cond (leb size above) high low) × (near ≤ next)
      × (cond (leb size found && leb found size) 1 0 * size ≡ count_between cells keys owner near next)
  run-told size near next found counted some longer is = elim (cases_eq above size) [
    | inl same ↦
        let from : near ≡ low = grind (arith, nat_tests) in let to : next ≡ high = grind (arith, nat_tests) in
        let all = (λ i. count_between cells keys owner (from i) (to i)) ∙ count-covered in let empty = weight_of-none (λ _. 1) cells keys owner low high in
        grind (arith, nat_tests, count-covered)
    | inr other ↦
        let stays : next ≡ near = grind (arith, nat_tests) in let none = weight_of-none (λ _. 1) cells keys owner near next (omega (arith, stays)) in
        grind (arith, nat_tests)
  ]

-- runs as far as they were gone over: those of a size and longer ones fit
pub record HasRuns {N : Type 0} (number : N → ℕ) (offer : Offer N) (near : List N) (whole left size : ℕ) : Type 0 where
  pub so_far : HaveLeft Oldest number offer near whole left
  pub from : AreMarksFrom number offer size (marks number near)
  pub some : 0 < size
  pub few : size ≤ MOST_KEYS + 1

module _ {N : Type 0} {number : N → ℕ} {most : ℕ} {offer : Offer N} (is : IsOffer number most offer) where
  open parts_of number offer use {cells, low, high}
  open offer.grid.size use {nodes, keys}

  -- none at first, as no owner has more numbers than there may be keys
  pub runs-none : {near : List N} → near ≡ offer.low.now → HasRuns number offer near 0 (amount_of offer.budget) (MOST_KEYS + 1)
  runs-none start = record {
    so_far = level-none is start;
    from = rw start (λ r lt. let few = count_le keys (λ key. ltb (low r) (cells r key)) in grind (arith, nat_tests, is.grid.few_keys));
    some = omega arith;
    few = omega arith;
  }

  -- where not all fits, the next size has one number at least, and no longer run is left
  pub runs-from : {counts near : List N} {whole left bound size : ℕ} → amount_of offer.budget < weight_in number offer low high
      → HasRuns number offer near whole left bound → HasEach nodes (λ r n. n ≡ owner_count_in number offer r) (map number counts)
      → HasNoneBetween number counts bound size → AreRunsFrom number most offer counts near size
  runs-from {counts} {near} {size = size} beyond has known next =
      let longer : AreMarksFrom number offer (size + 1) (marks number near) = λ r lt.
      let upto = next.none r (omega (arith, lt, known.size, length-map counts number)) in
      grind (arith, nat_tests, next.below, has.from r lt, known.each r lt) in
      let weighs = λ (mark : ℕ → ℕ) (r : ℕ). weight_of (weights_in offer r) cells keys r (low r) (mark r) in
      let all = λ (none : size ≡ 0). sum_below-same nodes (weighs (marks number near)) (weighs high) (λ r lt.
      let here = longer r lt in let nothing = weight_of-none (weights_in offer r) cells keys r (low r) (low r) (omega arith) in
      let few = owner-most number offer keys r (low r) (high r) in let counted = count-covered cells keys r (low r) (high r) (is.covered r lt) in
      grind (arith, nat_tests)) in record {
        is_offer = is;
        counts_are = known;
        each_near = has.so_far.size;
        some = grind (arith, has.so_far.rest, all);
        few = omega (arith, next.below, has.few);
        longer = longer;
      }

  module _ {counts near : List N} {size : ℕ} {next : Step N} (from : AreRunsFrom number most offer counts near size)
      (step : IsStep number offer (marks number near) (IsMarkFrom number offer size) next) where
    -- the level at which they end
    pub level-of_runs : AreLevelMarks Oldest Newest (λ owner number'. count_above cells keys owner (low owner)) cells nodes keys low
        (marks number near) (marks number next.marks.items)
    level-of_runs = record {
      next = size;
      near_is = λ r key lt in_keys over. grind (arith, nat_tests, from.longer r lt, is.covered r lt key in_keys);
      far_is = λ r key lt in_keys over. grind (arith, nat_tests, step.next r lt, is.covered r lt key in_keys);
    }

    -- those of one size more
    pub runs-next : {whole left rest : ℕ} → HaveLeft Oldest number offer near whole left
        → IsLeftOf left (weight_in number offer (marks number near) (marks number next.marks.items)) (Some rest)
        → HasRuns number offer next.marks.items (whole + next.more) rest size
    runs-next so_far fits = record { so_far = level-next is so_far step fits; from = step.next; some = from.some; few = omega (arith, from.few) }
