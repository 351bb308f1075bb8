-- The numbers of a table's planes, one after another.
-- Serves the functions of `grids` and `owners`, `grids` and `version_tables`.
use Rattle.planes.proofs.Counts.{sum_whole}
use Rattle.planes.proofs.Common.{Fits, w64, MOST_KEYS, MOST_NODES, ◌≡◌, ℕ, zero, suc, ◌+◌, ◌*◌, ◌<◌, ◌≤◌, Bool, cond, List, length, get_or, map, take, drop, max, inl, inr, sym, ap, ◌∙◌, subst, arith, rules, places, mul-le-mul_right, below_more, cases_lt, get_or-take, get_or-drop, length-map, length-drop, length-take-le, map-append, take-map, drop-map, put_mid, sum_below, sum_below-same, sum_below-turned, sums, fold_below-join, one_more, count_passing, AreChanged, Cells, IsRaised, cell, total_of, IsGrid, HasEach, ArePlanesChangedUpto, ArePlanesChanged}

-- a key's plane lies within the planes
pub plane-within : (nodes keys size key : ℕ) → IsGrid nodes keys size → key < keys → key * nodes + nodes ≤ size
plane-within nodes keys size key grid lt = omega (arith, mul-le-mul_right {m = key + 1} {n = keys} nodes (omega arith))

-- and its first place has a number that fits
pub plane-fits : (nodes keys size key : ℕ) → IsGrid nodes keys size → key < keys → Fits w64 (key * nodes)
plane-fits nodes keys size key grid lt = omega (arith, mul-le-mul_right {m = key} {n = MOST_KEYS} nodes (omega arith))

-- a table has few places
pub grid-few : (nodes keys size : ℕ) → IsGrid nodes keys size → size ≤ MOST_KEYS * MOST_NODES
grid-few nodes keys size grid = omega (arith, mul-le-mul_right {m = keys} {n = MOST_KEYS} nodes grid.few_keys)

pub grid-within : {N : Type 0} (number : N → ℕ) (nodes keys key : ℕ) (xs : List N) → IsGrid nodes keys (length xs) → key < keys
    → key * nodes + nodes ≤ length (map number xs)
grid-within number nodes keys key xs grid lt = omega (arith, length-map xs number, plane-within nodes keys (length xs) key grid lt)

-- one more plane is counted
pub each-next : (nodes : ℕ) (is next : ℕ → ℕ → Type 0) (changed : ℕ → ℕ → ℕ → Type 0) (old new : List ℕ) → HasEach nodes is old → AreChanged changed old new
    → ((r x y : ℕ) → r < nodes → is r x → changed r x y → next r y) → HasEach nodes next new
each-next nodes is next changed old new before now step = record {
  size = now.size ∙ before.size;
  each = λ r lt. step r (get_or old r 0) (get_or new r 0) lt (before.each r lt) (now.each r (omega arith));
}

-- sums of planes
pub plane_count : (nodes : ℕ) (one other : ℕ → Bool) (n x : ℕ) → n ≡ nodes → x ≡ sum_below n (λ r. cond (one r) 1 0)
    → ((r : ℕ) → r < nodes → one r ≡ other r) → x ≡ sum_below nodes (λ r. cond (other r) 1 0)
plane_count nodes one other n x size is same =
    is ∙ ap (λ m. sum_below m (λ r. cond (one r) 1 0)) size ∙ sum_below-same nodes _ _ (λ r lt. ap (λ b. cond b 1 0) (same r lt))

pub total_whole : (nodes keys key : ℕ) (test : ℕ → ℕ → Bool) (x : ℕ) → x ≡ sum_below key (λ k. sum_below nodes (λ r. cond (test r k) 1 0)) → keys ≤ key
    → key ≤ keys → x ≡ total_of nodes keys test
total_whole nodes keys key test x is le ge =
    sum_whole (λ k. sum_below nodes (λ r. cond (test r k) 1 0)) key keys x is le ge ∙ sum_below-turned keys nodes (λ k r. cond (test r k) 1 0)

-- the same places, all planes as one
places_by_key : (nodes keys : ℕ) (test : ℕ → Bool)
    → count_passing (keys * nodes) test ≡ sum_below keys (λ k. sum_below nodes (λ r. cond (test (k * nodes + r)) 1 0))
places_by_key nodes zero test = ap (λ n. count_passing n test) {x = zero * nodes} {y = 0} (omega arith)
places_by_key nodes (suc keys) test = ap (λ n. count_passing n test) (ap (λ k. k * nodes) {x = suc keys} {y = keys + 1} (omega arith) ∙ one_more keys nodes)
    ∙ sym (fold_below-join sums (λ i. cond (test i) 1 0) (keys * nodes) nodes)
    ∙ ap (λ n. n + sum_below nodes (λ r. cond (test (keys * nodes + r)) 1 0)) (places_by_key nodes keys test)

pub total-places : (nodes keys : ℕ) (test : ℕ → Bool) → count_passing (keys * nodes) test ≡ total_of nodes keys (λ r k. test (k * nodes + r))
total-places nodes keys test = places_by_key nodes keys test ∙ sum_below-turned keys nodes (λ k r. cond (test (k * nodes + r)) 1 0)

pub total-same : (nodes keys : ℕ) (one other : ℕ → ℕ → Bool) → ((r k : ℕ) → r < nodes → k < keys → one r k ≡ other r k)
    → total_of nodes keys one ≡ total_of nodes keys other
total-same nodes keys one other same =
    sum_below-same nodes _ _ (λ r in_nodes. sum_below-same keys _ _ (λ k in_keys. ap (λ b. cond b 1 0) (same r k in_nodes in_keys)))

map-put_mid : {N : Type 0} (number : N → ℕ) (start nodes : ℕ) (xs ys : List N)
    → map number (put_mid start nodes xs ys) ≡ put_mid start nodes (map number xs) (map number ys)
map-put_mid number start nodes xs ys = simp (map-append, take-map, drop-map)

-- a part of numbers is written anew
module _ {N : Type 0} (number : N → ℕ) (start n : ℕ) (xs ys : List N) (within : start + n ≤ length xs) (size : length ys ≡ n) where
  room_for : start + n ≤ length (map number xs)
  room_for = omega (arith, length-map xs number)

  size_of : length (map number ys) ≡ n
  size_of = length-map ys number ∙ size

  laid-length : length (map number (put_mid start n xs ys)) ≡ length (map number xs)
  laid-length = rw (map-put_mid number start n xs ys) (search (rules, places, room_for, size_of))

  laid-before : (i : ℕ) → i < start → get_or (map number (put_mid start n xs ys)) i 0 ≡ get_or (map number xs) i 0
  laid-before i lt = rw (map-put_mid number start n xs ys) (search (rules, places, room_for, size_of))

  laid-behind : (i : ℕ) → start + n ≤ i → get_or (map number (put_mid start n xs ys)) i 0 ≡ get_or (map number xs) i 0
  laid-behind i le = rw (map-put_mid number start n xs ys) (search (rules, places, room_for, size_of))

  part-here : (r : ℕ) → r < n → get_or (map number (put_mid start n xs ys)) (start + r) 0 ≡ get_or (map number ys) r 0
  part-here r lt = rw (map-put_mid number start n xs ys) (search (rules, places, room_for, size_of))

-- all planes are changed
pub planes-all : (changed : ℕ → ℕ → ℕ → ℕ → Type 0) (nodes : ℕ) (old xs : List ℕ) (keys key : ℕ) → ArePlanesChangedUpto changed nodes old xs key
    → keys ≤ key → ArePlanesChanged changed nodes keys old xs
planes-all changed nodes old xs keys key is le = record { size = is.size; each = λ r k lt below. is.below r k lt (omega arith) }

-- a part of a list
pub window-at : {N : Type 0} (number : N → ℕ) (start count n : ℕ) (xs : List N) → n ≡ count → (r : ℕ) → r < count
    → get_or (map number (take n (drop start xs))) r 0 ≡ get_or (map number xs) (start + r) 0
window-at number start count n xs is r lt =
    rw (← take-map number n (drop start xs), ← drop-map number start xs, get_or-take n (drop start (map number xs)) r 0 (omega arith))
    (get_or-drop start (map number xs) r 0)

-- a plane of planes
pub plane-cells : {N : Type 0} (number : N → ℕ) (nodes key n : ℕ) (xs : List N) → n ≡ nodes → key * nodes + nodes ≤ length xs
    → HasEach nodes (λ r m. m ≡ cell (map number xs) nodes r key) (map number (take n (drop (key * nodes) xs)))
plane-cells number nodes key n xs is within = record {
  size = length-map (take n (drop (key * nodes) xs)) number ∙ length-take-le n (drop (key * nodes) xs) (omega (arith, length-drop (key * nodes) xs)) ∙ is;
  each = window-at number (key * nodes) nodes n xs is;
}

-- the numbers of a block before it is changed
pub block-cells : (changed : ℕ → ℕ → ℕ → ℕ → Type 0) (nodes : ℕ) (old : List ℕ) {N : Type 0} (number : N → ℕ) (xs : List N) (key n : ℕ)
    → n ≡ nodes → ArePlanesChangedUpto changed nodes old (map number xs) key → key * nodes + nodes ≤ length old
    → (r : ℕ) → r < nodes → get_or (map number (take n (drop (key * nodes) xs))) r 0 ≡ cell old nodes r key
block-cells changed nodes old number xs key n is before within r lt =
    (plane-cells number nodes key n xs is (omega (arith, length-map xs number))).each r lt ∙ before.from (key * nodes + r) (omega arith)

-- a block of planes is changed number by number
pub planes-written : (changed : ℕ → ℕ → ℕ → ℕ → Type 0) (nodes : ℕ) (old : List ℕ) {N : Type 0}
    (number : N → ℕ) (xs ys : List N) (key n : ℕ) (in_block : ℕ → ℕ → ℕ → Type 0)
    → n ≡ nodes → ArePlanesChangedUpto changed nodes old (map number xs) key → key * nodes + nodes ≤ length old
    → AreChanged in_block (map number (take n (drop (key * nodes) xs))) (map number ys) → ((r x y : ℕ) → r < nodes → in_block r x y → changed r key x y)
    → ArePlanesChangedUpto changed nodes old (map number (put_mid (key * nodes) n xs ys)) (key + 1)
planes-written changed nodes old number xs ys key n in_block is before within now step =
    let room : key * nodes + nodes ≤ length xs = omega (arith, length-map xs number) in let block = plane-cells number nodes key n xs is room in
    let size : length ys ≡ nodes = omega (arith, length-map ys number) in
    let written = (λ (r : ℕ) (lt : r < nodes). step r _ (get_or (map number ys) r 0) lt (subst (λ x. in_block r x (get_or (map number ys) r 0))
    (block-cells changed nodes old number xs key n is before within r lt) (now.each r (omega arith)))) in
    rw is (record {
      size = laid-length number (key * nodes) nodes xs ys room size ∙ before.size;
      below = λ r k lt. below_more (λ j. changed r j (cell old nodes r j) (cell (map number (put_mid (key * nodes) nodes xs ys)) nodes r j)) key
          (λ j earlier.
          let front = mul-le-mul_right {m = j + 1} {n = key} nodes (omega arith) in
          rw (laid-before number (key * nodes) nodes xs ys room size (j * nodes + r) (omega arith)) (before.below r j lt earlier))
          (rw (part-here number (key * nodes) nodes xs ys room size r lt) (written r lt)) k;
      from = λ i le. laid-behind number (key * nodes) nodes xs ys room size i (omega arith) ∙ before.from i (omega arith);
    })

-- a mark raised to one number more
pub raised-next : (cells : Cells) (key owner x y z : ℕ) → IsRaised cells key owner x y → z ≡ max y (cells owner key) → IsRaised cells (key + 1) owner x z
raised-next cells key owner x y z before now = record {
  rises = omega arith;
  upto = below_more (λ k. cells owner k ≤ z) key (λ k lt. omega (arith, before.upto k lt)) (omega arith);
  from = elim (cases_lt y (cells owner key)) [
    | inl lower ↦ inr (key, omega arith, omega arith)
    | inr not_lower ↦
        let same : z ≡ y = omega arith in
        elim before.from [ inl old ↦ inl (same ∙ old) | inr (k, lt, is) ↦ inr (k, omega arith, is ∙ sym same) ]
  ];
}
