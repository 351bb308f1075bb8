-- The owners' turns in a level, and where an owner's part of it stops.
-- Serves the functions of `sharing` and `RoundMarks`.
use Rattle.delta_plans.proofs.Common.{◌≡◌, ◌≢◌, ℕ, ◌+◌, ◌-◌, ◌*◌, ◌<◌, ◌≤◌, cond, ltb, List, get_or, set, map, length, inr, refl, sym, ap, ◌∙◌, transport, arith, nat_tests, get_or-set_same, get_or-set_other, length-map, map-set, Entries, MOST_NODES, MOST_KEYS, MOST_ENTRY_SIZE, Cells, HasNoneAbove, sum_below-same, rotated, rotated-injective, rotated-is, First, Oldest, Newest, Reached, Turns, by_first, marks, weights_in, AreFarther, IsOn, lt-ltb, le-ltb, IsStopOf, weight_to, part_weight, AreTurns, HasReached, HaveLeft, HaveTurns, AreSharedBy, length-set, weight_of, weight_from, weight_through, one_each, zero, suc, min, max, inl, cases_lt, sum_below, NumbersDiffer, IsStopBetween, StopsBefore}
use Rattle.delta_plans.proofs.WeightLaws.{count_between-most, offer-few, owner-entries, owner-most, parts_of, sum_below-changed, weight_of-parts, weight_of-split, part, weight_of-none, weight_of-one}

-- where a sum is more than 0, a term is
some-term : (n : ℕ) (f : ℕ → ℕ) → 0 < sum_below n f → (i : ℕ) × (i < n) × (0 < f i)
some-term zero f some = absurd (omega (arith, some))
some-term (suc n) f some = elim (cases_lt 0 (f n)) [
  | inl here ↦ (n, omega arith, here)
  | inr none ↦ let rest = some-term n f (omega (arith, some, none)) in (rest.0, omega (arith, rest.1), rest.2)
]

-- what a number between such marks tells, if there is no other between them
stops-at : (first : First) (cells : Cells) (keys owner low near far mark beyond next : ℕ) → low ≤ near → AreFarther first low near far
    → IsOn first near mark → IsOn first mark beyond → IsOn first beyond far → mark ≤ beyond + 1 → beyond ≤ mark + 1
    → by_first first mark beyond < next → next ≤ by_first first beyond mark → StopsBefore first cells keys owner low near far mark next
stops-at Oldest cells keys owner low near far mark beyond next over_low level on between upto below above over le = grind (arith, nat_tests)
stops-at Newest cells keys owner low near far mark beyond next over_low level on between upto below above over le = grind (arith, nat_tests)

-- at first nothing is let through
pub stop-first : (first : First) {weight : ℕ → ℕ} {cells : Cells} {keys owner near far room : ℕ} → IsOn first near far
    → room < weight_from first weight cells keys owner near far → IsStopBetween first weight cells keys owner near far room near far room
stop-first Oldest {weight} {cells} {keys} {owner} {near} on more = search (arith, weight_of-none weight cells keys owner near near (omega arith))
stop-first Newest {weight} {cells} {keys} {owner} {near} on more = search (arith, weight_of-none weight cells keys owner near near (omega arith))

-- a mark halfway: either all up to it fits, or it is beyond what does
pub stop-halved : (first : First) {weight : ℕ → ℕ} {cells : Cells} {keys owner near far room mark beyond left : ℕ}
    → IsStopBetween first weight cells keys owner near far room mark beyond left → (middle : ℕ) {taken : ℕ} → min mark beyond ≤ middle
    → middle ≤ max mark beyond → taken ≡ weight_from first weight cells keys owner mark middle
    → (taken ≤ left → IsStopBetween first weight cells keys owner near far room middle beyond (left - taken))
    × (left < taken → IsStopBetween first weight cells keys owner near far room mark middle left)
stop-halved Oldest {weight} {cells} {keys} {owner} {near} {far} {room} {mark} {beyond} so_far middle above below takes =
    let taken = weight_of-split weight cells keys owner near mark middle so_far.on (omega (arith, so_far.between, above)) in
    let rest = weight_of-split weight cells keys owner mark middle beyond (omega (arith, so_far.between, above)) (omega (arith, so_far.between, below)) in
    ((λ fits. search (arith, takes, taken, rest)), (λ more. search (arith, takes)))
stop-halved Newest {weight} {cells} {keys} {owner} {near} {far} {room} {mark} {beyond} so_far middle above below takes =
    let taken = weight_of-split weight cells keys owner middle mark near (omega (arith, so_far.between, below)) so_far.on in
    let rest = weight_of-split weight cells keys owner beyond middle mark (omega (arith, so_far.between, above)) (omega (arith, so_far.between, below)) in
    ((λ fits. search (arith, takes, taken, rest)), (λ more. search (arith, takes)))

module _ {first : First} {weight : ℕ → ℕ} {cells : Cells} {keys owner near far room mark beyond left : ℕ}
    (so_far : IsStopBetween first weight cells keys owner near far room mark beyond left) where
  -- in the end there is one number between, which doesn't fit
  pub stop-tells : {low : ℕ} → NumbersDiffer cells keys owner → mark ≤ beyond + 1 → beyond ≤ mark + 1 → low ≤ near → AreFarther first low near far
      → (key : ℕ) × (key < keys) × StopsBefore first cells keys owner low near far mark (cells owner key) × (left < weight (cells owner key))
  stop-tells {low} differ below above over_low level =
      let from = by_first first mark beyond in let to = by_first first beyond mark in
      let some = some-term keys (λ k. part weight from to (cells owner k)) (omega (arith, so_far.more)) in let key = some.0 in
      let has : (from < cells owner key) × (cells owner key ≤ to) = grind (arith, nat_tests, some.2) in
      let near_by : to ≤ from + 1 = elim first as (λ f. by_first f beyond mark ≤ by_first f mark beyond + 1) [ Oldest ↦ omega arith | Newest ↦ omega arith ] in
      let one = weight_of-one weight cells keys owner from to key some.1 has.0 has.1
      (λ k lt over le. differ k key lt some.1 (omega (arith, over)) (omega (arith, over, le, near_by, has.0, has.1))) in
      let stops = stops-at first cells keys owner low near far mark beyond _ over_low level so_far.on so_far.between so_far.upto below above has.0 has.1 in
      (key, some.1, stops, omega (arith, so_far.more, one))

module _ (weights : ℕ → ℕ → ℕ) (cells : Cells) (nodes keys : ℕ) (low high : ℕ → ℕ) (mark next : ℕ → ℕ) where
  -- marks that are the same for each owner
  pub through-same : (first : First) → ((r : ℕ) → r < nodes → next r ≡ mark r)
      → weight_through first weights cells nodes keys low high next ≡ weight_through first weights cells nodes keys low high mark
  through-same first same = sum_below-same nodes _ _
      (λ r lt. ap (λ m. weight_of (weights r) cells keys r (by_first first (low r) m) (by_first first m (high r))) (same r lt))

  -- and marks that differ for one
  module _ (owner : ℕ) (in_nodes : owner < nodes) (others : (r : ℕ) → r < nodes → r ≢ owner → next r ≡ mark r) where
    through-changed : (first : First) → HasNoneAbove cells keys owner (high owner) → low owner ≤ mark owner → IsOn first (mark owner) (next owner)
        → weight_through first weights cells nodes keys low high next
        ≡ weight_through first weights cells nodes keys low high mark + weight_from first (weights owner) cells keys owner (mark owner) (next owner)
    through-changed Oldest covered above on =
        sum_below-changed nodes owner _ _ _ in_nodes (λ r lt ne. ap (weight_of (weights r) cells keys r (low r)) (others r lt ne))
        (weight_of-split (weights owner) cells keys owner (low owner) (mark owner) (next owner) above on)
    through-changed Newest covered above on =
        sum_below-changed nodes owner _ _ _ in_nodes (λ r lt ne. ap (λ m. weight_of (weights r) cells keys r m (high r)) (others r lt ne))
        (omega (arith, weight_of-parts (weights owner) cells keys owner (next owner) (mark owner) (high owner) on (inr covered)))

-- what is reached, in other words
pub turns-same : {N : Type 0} {number : N → ℕ} {turns : Turns N} {mark : List N} {reached other : Reached} → HasReached number turns mark reached
    → reached.turn ≡ other.turn → reached.left ≡ other.left → reached.sent ≡ other.sent → HasReached number turns mark other
turns-same {number} {turns} {mark} so_far turn left sent =
    transport (λ i. HasReached number turns mark (record { turn = turn i; left = left i; sent = sent i })) so_far

module _ {N : Type 0} {number : N → ℕ} {most : ℕ} {turns : Turns N} (are : AreTurns number most turns) where
  open turns.offer use {now as offer}
  open turns.offer.now.grid.size use {nodes, keys}
  open parts_of number turns.offer.now use {cells, low, high}

  abbrev turn : ℕ → ℕ
  turn = rotated nodes turns.rotation

  abbrev near : ℕ → ℕ
  near = marks number turns.near.now

  abbrev far : ℕ → ℕ
  far = marks number turns.far.now

  -- an owner has no more numbers than there are keys
  pub from-few : (owner from to : ℕ) → weight_to number (λ _. 1) turns owner from to ≤ MOST_KEYS
  from-few owner from to =
      omega (arith, count_between-most cells keys owner (by_first turns.first from to) (by_first turns.first to from), are.offer.grid.few_keys)

  module _ {mark : List N} {reached : Reached} (so_far : HasReached number turns mark reached) where
    -- so many numbers at most
    pub turns-few : reached.sent ≤ MOST_NODES * MOST_KEYS
    turns-few =
        let last = marks number mark in
        omega (arith, so_far.so_far.counted, offer-few are.offer (λ r. by_first turns.first (low r) (last r)) (λ r. by_first turns.first (last r) (high r)))

    -- not all owners have their turns
    pub turns-end : nodes ≤ reached.turn → ⊥
    turns-end all =
        let passed = λ (r : ℕ) (lt : r < nodes). so_far.each r lt ∙ ap (λ b. cond b (far r) (near r)) (lt-ltb (turn r) reached.turn (omega (arith, all, lt))) in
        let same = through-same (weights_in offer) cells nodes keys low high far (marks number mark) turns.first passed in
        omega (arith, so_far.so_far.rest, are.level.beyond, same)

    -- one more owner's mark goes on
    module _ {owner : ℕ} (in_nodes : owner < nodes) (its : turn owner ≡ reached.turn) (to : N) where
      abbrev next : ℕ → ℕ
      next = marks number (set mark owner to)

      here : next owner ≡ number to
      here = ap (λ ys. get_or ys owner 0) (map-set number mark owner to)
          ∙ get_or-set_same (map number mark) owner (number to) 0 (omega (arith, in_nodes, so_far.so_far.size, length-map mark number))

      others : (r : ℕ) → r ≢ owner → next r ≡ marks number mark r
      others r other = ap (λ ys. get_or ys r 0) (map-set number mark owner to) ∙ get_or-set_other (map number mark) owner r (number to) 0 other

      -- it lets more through, and less is left
      goes-on : AreFarther turns.first (low owner) (near owner) (number to) → {weight count : ℕ} → weight ≤ reached.left
          → weight ≡ weight_to number (weights_in offer owner) turns owner (near owner) (number to)
          → count ≡ weight_to number (λ _. 1) turns owner (near owner) (number to)
          → HaveLeft turns.first number offer (set mark owner to) (reached.sent + count) (reached.left - weight)
      goes-on ordered fits weighs counts = record {
        size = length-set mark owner to ∙ so_far.so_far.size;
        above = λ r lt. grind (arith, others r, so_far.so_far.above r lt, λ (e : r ≡ owner). ap low e, λ (e : r ≡ owner). ap next e, here, ordered.0);
        counted = omega (arith, so_far.so_far.counted, counts, grown one_each);
        rest = omega (arith, so_far.so_far.rest, fits, weighs, grown (weights_in offer));
      }
        where
          waits : marks number mark owner ≡ near owner
          waits = so_far.each owner in_nodes ∙ ap (λ b. cond b (far owner) (near owner)) (le-ltb (turn owner) reached.turn (omega (arith, its)))

          grown : (weights : ℕ → ℕ → ℕ) → weight_through turns.first weights cells nodes keys low high next
              ≡ weight_through turns.first weights cells nodes keys low high (marks number mark)
              + weight_from turns.first (weights owner) cells keys owner (near owner) (number to)
          grown weights = rw (← waits, ← here)
              (through-changed weights cells nodes keys low high (marks number mark) next owner in_nodes (λ r lt. others r) turns.first
              (are.offer.covered owner in_nodes) (so_far.so_far.above owner in_nodes) (rw (waits, here) ordered.1))

      -- all the way
      pub turns-next : {weight count : ℕ} → weight ≤ reached.left → weight ≡ part_weight number (weights_in offer owner) turns owner
          → count ≡ part_weight number (λ _. 1) turns owner → number to ≡ far owner
          → HasReached number turns (set mark owner to) (record { turn = reached.turn + 1; left = reached.left - weight; sent = reached.sent + count })
      turns-next fits weighs counts to_far = record {
        so_far = goes-on (rw to_far (are.level.farther owner in_nodes)) fits (rw to_far weighs) (rw to_far counts);
        each = λ r lt.
            let own = λ (e : r ≡ owner). ap next e ∙ here ∙ to_far ∙ ap far (sym e) in let its_turn = λ (e : r ≡ owner). ap turn e ∙ its in
            let apart = rotated-injective nodes turns.rotation r owner are.rotation lt in_nodes in
            grind (arith, nat_tests, its, own, its_turn, others r, so_far.each r lt, apart);
      }

      -- or it stops at a number
      pub turns-shared : {sent : ℕ} → IsStopOf number turns owner reached.left (number to)
          → sent ≡ weight_to number (λ _. 1) turns owner (near owner) (number to) → AreSharedBy number turns (set mark owner to) (reached.sent + sent)
      turns-shared stop counts =
          let tells = stop-tells stop.so_far (are.offer.differ owner in_nodes) stop.below stop.above
          (are.level.so_far.above owner in_nodes) (are.level.farther owner in_nodes) in
          let stays = λ (r : ℕ) (lt : r < nodes) (other : r ≢ owner).
          others r other ∙ so_far.each r lt ∙ ap (λ t. cond (ltb (turn r) t) (far r) (near r)) (sym its) in
          let passed = goes-on (tells.2.above, stop.so_far.on) (omega (arith, stop.so_far.rest)) refl counts in record {
            size = passed.size;
            shared = record {
              stop = record { owner = owner; key = tells.0; owner_below = in_nodes; key_below = tells.1; stops = rw here tells.2; others = stays };
              above = passed.above;
              count = passed.counted;
              within = omega (arith, passed.rest);
              beyond = omega (arith, passed.rest, stop.so_far.rest, tells.3);
            };
          }

  module _ {owner count : ℕ} (in_nodes : owner < nodes) (its : count ≡ part_weight number (λ _. 1) turns owner) where
    -- entries that are counted take as much as they are
    pub part-entries : (n : ℕ) → offer.budget ≡ Entries n → count ≡ part_weight number (weights_in offer owner) turns owner
    part-entries n counted = its ∙ sym (owner-entries are.offer n counted owner in_nodes _ _)

    -- a part without numbers weighs nothing
    pub part-none : count ≡ 0 → 0 ≡ part_weight number (weights_in offer owner) turns owner
    part-none none =
        let most = owner-most number offer keys owner (by_first turns.first (near owner) (far owner)) (by_first turns.first (far owner) (near owner)) in
        omega (arith, most, ap (λ n. n * MOST_ENTRY_SIZE) (sym its ∙ none))

module _ {N : Type 0} {number : N → ℕ} {most : ℕ} {turns : Turns N} {mark counts : List N} {start : Reached} {owner : ℕ}
    (have : HaveTurns number most turns mark start owner counts) (i : ℕ) (lt : i < length counts) where
  open turns.offer.now.grid.size use {nodes}

  -- of owners in a row each has a mark
  pub within : (owner + i < nodes) × (owner + i < length mark)
  within = (omega (arith, have.in_nodes, lt), omega (arith, have.in_nodes, have.has_reached.so_far.size, lt))

  -- its turn is behind that of the one before
  pub turn-next : rotated nodes turns.rotation (owner + i) ≡ start.turn + i
  turn-next =
      let first = rotated-is nodes turns.rotation owner have.are.rotation (omega (arith, have.in_nodes, lt)) in
      let here = rotated-is nodes turns.rotation (owner + i) have.are.rotation (omega (arith, have.in_nodes, lt)) in
      grind (arith, have.turn, have.in_nodes, have.in_turns, first, here)

  -- and its part so many numbers, which are few
  pub part-is : {n : N} {count : ℕ} → number n ≡ marks number counts i → count ≡ number n → count ≡ part_weight number (λ _. 1) turns (owner + i)
  part-is at is = is ∙ at ∙ have.parts.each i lt
