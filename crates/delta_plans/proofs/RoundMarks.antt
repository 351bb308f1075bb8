-- What marks at the ends of rounds let through.
-- Serves `Rounds::count`, `Rounds::level` and `version_tables`.
use Rattle.delta_plans.proofs.Common.{◌≡◌, ℕ, ◌+◌, ◌-◌, ◌<◌, ◌≤◌, map, leb, List, Some, None, sym, ap, ◌∙◌, arith, nat_tests, nat_lt, length-map, amount_of, all_writes, Cells, cell, total_of, HasNoneAbove, sum_below-same, numbered-some, First, Oldest, Newest, by_first, Level, Fit, Rounds, marks, weights_in, count_on, weight_on, AreFarther, max, mark_of_rounds, AreFewAndEnough, AreRaised, AreRoundMarks, IsAsked, IsFound, IsLevelBy, AreLevelMarks, round_in, round_of, weight_between, weight_through, count_all_between, one_each}
use Rattle.delta_plans.proofs.WeightLaws.{offer-beyond, offer-parts, parts_of, sum_below-none, weight_of-none}
use Rattle.delta_plans.proofs.TurnSteps.{through-same}

-- how many are above marks
pub count-above : (cells : Cells) (nodes keys : ℕ) (high : ℕ → ℕ) → ((owner : ℕ) → owner < nodes → HasNoneAbove cells keys owner (high owner))
    → (mark : ℕ → ℕ) → total_of nodes keys (λ r k. nat_lt (mark r) (cells r k)) ≡ count_all_between cells nodes keys mark high
count-above cells nodes keys high covered mark = sum_below-same nodes _ _ (λ owner in_nodes. sum_below-same keys _ _
    (λ key in_keys. let le = covered owner in_nodes key in_keys in grind (arith, nat_tests)))

module _ {N : Type 0} {number : N → ℕ} {most : ℕ} (rounds : Rounds N) (is : IsAsked number most rounds.offer.now rounds.ends) where
  open rounds.offer use {now as offer}
  open rounds.offer.now.grid.size use {nodes, keys}
  open rounds.ends use {rounds as last}
  open parts_of number rounds.offer.now use {cells, low, high}
  open is.too_large use {is_offer as offered}

  abbrev end : ℕ → ℕ → ℕ
  end round owner = max (low owner) (cell (map number rounds.ends.numbers.now) nodes owner round)

  -- the marks of so many rounds, from either end
  abbrev mark : First → ℕ → ℕ → ℕ
  mark first count = end (by_first first count (last - count))

  abbrev through : First → (ℕ → ℕ → ℕ) → (ℕ → ℕ) → ℕ
  through first weights mark = weight_through first weights cells nodes keys low high mark

  -- how many are above marks, and up to them
  pub rounds-count : {mark : List N} → AreRaised number most rounds mark → {above : ℕ}
      → above ≡ total_of nodes keys (λ r k. nat_lt (marks number mark r) (cells r k))
      → (above ≡ count_on Newest number offer (marks number mark)) × (count_on Oldest number offer (marks number mark) + above ≡ offer.found)
  rounds-count {mark} raised told =
      let counted = told ∙ count-above cells nodes keys high offered.covered (marks number mark) in
      (counted, omega (arith, offered.found, counted, offer-parts offered one_each (marks number mark) raised.above))

  module _ (owner : ℕ) (in_nodes : owner < nodes) (key : ℕ) (in_keys : key < keys) where
    -- a number is up to a round's end where it was written by then
    written-by : (round : ℕ) → round ≤ last → low owner < cells owner key
        → leb (cells owner key) (end round owner) ≡ leb (round_in (all_writes offer.lists.now) owner (cells owner key)) round
    written-by round le over =
        let n = cells owner key in
        let there = numbered-some (all_writes offer.lists.now owner) n (omega (arith, over)) (offered.written owner key in_nodes in_keys) in
        let parts = is.are_ends_of.are_ends.parts owner round in_nodes le in
        let its : round_in (all_writes offer.lists.now) owner n ≡ there.0.born = ap round_of there.1 in
        grind (arith, nat_tests, its, parts.above n there.0 (omega (arith, over)) there.1, parts.upto n there.0 (omega (arith, over)) there.1)

    -- all were by the last one
    all-made : cells owner key ≤ end last owner
    all-made =
        let n = cells owner key in
        let there = λ (over : low owner < n). numbered-some (all_writes offer.lists.now owner) n (omega (arith, over))
        (offered.written owner key in_nodes in_keys) in
        let made = λ (over : low owner < n). (is.are_ends_of.made owner).last n (there over).0 (there over).1 in
        let its = λ (over : low owner < n). ap round_of (there over).1 in
        grind (arith, nat_tests, written-by last (omega arith), made, its)

  -- no round lets nothing through
  no_rounds : (first : First) (weights : ℕ → ℕ → ℕ) → through first weights (mark first 0) ≡ 0
  no_rounds Oldest weights = sum_below-none nodes _ (λ owner in_nodes.
      weight_of-none (weights owner) cells keys owner (low owner) (end 0 owner) (omega (arith, is.are_ends_of.are_ends.none owner in_nodes)))
  no_rounds Newest weights = ap (λ round. weight_between weights cells nodes keys (end round) high) {x = last - 0} {y = last} (omega arith)
      ∙ offer-beyond offered weights (end last) all-made

  -- all rounds let all through
  all_rounds : (first : First) (weights : ℕ → ℕ → ℕ) → through first weights (mark first last) ≡ through Oldest weights high
  all_rounds Oldest weights =
      omega (arith, offer-beyond offered weights (end last) all-made, offer-parts offered weights (end last) (λ owner in_nodes. omega arith))
  all_rounds Newest weights = through-same weights cells nodes keys low high low (mark Newest last) Newest
      (λ owner in_nodes. ap (λ round. end round owner) {x = last - last} {y = 0} (omega arith) ∙ omega (arith, is.are_ends_of.are_ends.none owner in_nodes))

  -- the search begins with none, which fit, and all, which don't
  pub begun : {room : ℕ} → room ≡ amount_of offer.budget → AreFewAndEnough number rounds 0 last (record { count = 0; left = Some room })
  begun all =
      let too_many : amount_of offer.budget < weight_on rounds.first number offer (mark rounds.first last) =
      omega (arith, is.too_large.beyond, all_rounds rounds.first (weights_in offer)) in
      let same = λ (none : last ≡ 0). ap (λ count. weight_on rounds.first number offer (mark rounds.first count)) none in record {
        below = grind (arith, too_many, no_rounds rounds.first (weights_in offer), same);
        bound = omega arith;
        fits = search (arith, no_rounds rounds.first one_each, no_rounds rounds.first (weights_in offer));
        beyond = too_many;
      }

  module _ (count : ℕ) (items : List N) (are : AreRoundMarks number rounds count items) where
    pub raised : AreRaised number most rounds items
    raised = record { is_asked = is; size = sym (length-map items number) ∙ are.size; above = λ r lt. omega (arith, are.each r lt) }

    pub let_through : (weights : ℕ → ℕ → ℕ)
        → through rounds.first weights (marks number items) ≡ through rounds.first weights (mark_of_rounds number rounds count)
    let_through weights = through-same weights cells nodes keys low high (mark_of_rounds number rounds count) (marks number items) rounds.first are.each

    module _ {few enough : ℕ} {fit : Fit} (so_far : AreFewAndEnough number rounds few enough fit) where
      -- one more look finds more rounds that fit
      pub further : {found : Fit} → IsFound number rounds (marks number items) (Some found) → count < enough → AreFewAndEnough number rounds count enough found
      further look lt =
          record { below = lt; bound = so_far.bound; fits = rw (← let_through one_each, ← let_through (weights_in offer)) look; beyond = so_far.beyond }

      -- or that fewer are enough
      pub nearer : IsFound number rounds (marks number items) None → few < count → count ≤ enough → AreFewAndEnough number rounds few count fit
      nearer no_fit lt le = search (arith, let_through (weights_in offer))

    -- so it is of the marks of the last rounds that fitted
    pub fitted : {enough : ℕ} {fit : Fit} → AreFewAndEnough number rounds count enough fit → IsFound number rounds (marks number items) (Some fit)
    fitted found = rw (let_through one_each, let_through (weights_in offer)) found.fits

  -- one round more lets through more
  farther : (first : First) (few enough owner : ℕ) → enough ≡ few + 1 → enough ≤ last → owner < nodes
      → AreFarther first (low owner) (mark first few owner) (mark first enough owner)
  farther Oldest few enough owner is_next le in_nodes =
      omega (arith, is.are_ends_of.are_ends.rise owner few in_nodes (omega (arith, is_next, le)), ap (λ round. end round owner) is_next)
  farther Newest few enough owner is_next le in_nodes =
      let same = ap (λ round. end round owner) {x = last - few} {y = last - enough + 1} (omega (arith, is_next, le)) in
      omega (arith, is.are_ends_of.are_ends.rise owner (last - enough) in_nodes (omega (arith, is_next, le)), same)

  -- the level that a few rounds and one more are
  pub rounds-level : {few enough : ℕ} {level : Level N} {fit : Fit} → AreFewAndEnough number rounds few enough fit → enough ≤ few + 1
      → level.whole ≡ fit.count → AreRoundMarks number rounds few level.near.items → AreRoundMarks number rounds enough level.far.items
      → weight_on rounds.first number offer (marks number level.near.items) + level.left ≡ amount_of offer.budget
      → IsLevelBy rounds.first rounds.first (round_in (all_writes offer.lists.now)) number offer level
  rounds-level {few} {enough} {level} found last_one whole near far left = record {
    is_level = record {
      so_far = record {
        size = sym (length-map level.near.items number) ∙ near.size;
        above = λ r lt. omega (arith, near.each r lt);
        counted = whole ∙ (fitted _ _ near found).0;
        rest = left;
      };
      each_far = sym (length-map level.far.items number) ∙ far.size;
      farther = λ owner in_nodes. rw (near.each owner in_nodes, far.each owner in_nodes)
          (farther rounds.first few enough owner next found.bound in_nodes);
      beyond = omega (arith, found.beyond, let_through _ _ far (weights_in offer));
    };
    shape = shape rounds.first near.each far.each;
  }
    where
      next : enough ≡ few + 1
      next = omega (arith, last_one, found.below)

      shape : (f : First) → ((owner : ℕ) → owner < nodes → marks number level.near.items owner ≡ mark f few owner)
          → ((owner : ℕ) → owner < nodes → marks number level.far.items owner ≡ mark f enough owner)
          → AreLevelMarks f f (round_in (all_writes offer.lists.now)) cells nodes keys low (marks number level.near.items) (marks number level.far.items)
      shape Oldest nears fars = record {
        next = enough;
        near_is = λ r key lt in_keys over. grind (arith, nat_tests, written-by r lt key in_keys few (omega (arith, found.bound, next)) over, nears r lt, next);
        far_is = λ r key lt in_keys over. grind (arith, nat_tests, written-by r lt key in_keys enough found.bound over, fars r lt);
      }
      shape Newest nears fars = record {
        next = last - few;
        near_is = λ r key lt in_keys over. grind (arith, nat_tests, written-by r lt key in_keys (last - few) (omega arith) over, nears r lt);
        far_is = λ r key lt in_keys over.
            let one : last - few ≡ last - enough + 1 = omega (arith, next, found.bound) in
            grind (arith, nat_tests, written-by r lt key in_keys (last - enough) (omega arith) over, fars r lt);
      }
