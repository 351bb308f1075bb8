-- Planes of which some places are counted.
-- Serves the functions of `counts`, `grids`, `lags` and `merges`.
use Rattle.grids.proofs.Common.{◌≡◌, ℕ, AreChangedUpto, AnswersBy, Made, AreCounted, IsCounted, refl, count_same, subst, ◌+◌, ◌*◌, ◌<◌, ◌≤◌, Bool, cond, nat_tests, List, length, get_or, map, take, drop, nat_lt, max, sym, ◌∙◌, ap, arith, length-map, put_mid, sum_below, cell, number_ahead, total_above, total_of, IsGrid, ArePlanesChangedUpto, ArePlanesChanged, AreCountedUpto, AreRaisedUpto, number_raised, count_passing, HasNoOtherMark, HasEachPlace, HasNoneUptoMark, number_kept, changed_all, sum_next, plane-cells, plane_count, planes-all, planes-written, block-cells, plane-within, total-places, total-same, total_whole}

-- numbers that calls change and count: a part behind another one
module _ {N : Type 0} (number : N → ℕ) (makes : ℕ → N → Made N → Type 0) where
  -- one question's count
  answered_joined : (answer : Made N → Bool) (xs ys : List N) (start from mid size one two : ℕ) → IsCounted number answer makes xs start from one
      → IsCounted number answer makes ys mid size two → start + from ≡ mid → length ys ≡ length xs
      → ((r : ℕ) → start + from ≤ r → get_or (map number ys) r 0 ≡ get_or (map number xs) r 0)
      → IsCounted number answer makes xs start (from + size) (one + two)
  answered_joined answer xs ys start from mid size one two before now at same rest test is whole waits count was =
      let front = count_same _ _ _ _ _ (before test is whole waits count was) at refl in
      count_same _ _ _ _ _
      (now test (λ r n all lt. is r n all (omega arith)) whole (λ r le. rest r (omega arith) ∙ waits r (omega arith)) _ front) (omega arith) (omega arith)

  pub counted_joined : (xs ys zs : List N) (start from mid size : ℕ) (one two : ℕ × ℕ) → AreCounted number makes xs ys start from one
      → AreCounted number makes ys zs mid size two → start + from ≡ mid → length ys ≡ length xs
      → AreCounted number makes xs zs start (from + size) (one.0 + two.0, one.1 + two.1)
  counted_joined xs ys zs start from mid size one two before now at same = record {
    upto = (omega arith, omega arith);
    numbers = λ made is whole none.
        let front = subst (AreChangedUpto _ whole _) at (before.numbers made is whole none) in
        subst (AreChangedUpto _ whole _) (omega arith) (now.numbers made (λ r n all lt. is r n all (omega arith)) whole front);
    rest = λ r le. now.rest r (omega arith) ∙ before.rest r (omega arith);
    first = answered_joined (λ all. all.1) _ _ _ _ _ _ _ _ before.first now.first at same before.rest;
    second = answered_joined (λ all. all.2) _ _ _ _ _ _ _ _ before.second now.second at same before.rest;
  }

  -- of all numbers
  pub answered-all : (answer : Made N → Bool) (xs : List N) (size passed : ℕ) → IsCounted number answer makes xs 0 size passed → (test : ℕ → ℕ → Bool)
      → AnswersBy number answer makes (length xs) test → passed ≡ count_passing size (λ r. test r (get_or (map number xs) r 0))
  answered-all answer xs size passed is test told = count_same _ _ _ _ _ (is test told (map number xs) (λ r le. refl) 0 refl) (omega arith) (omega arith)

  -- as a function and a test say
  pub counted-as : (xs ys : List N) (size : ℕ) (passed : ℕ × ℕ) → AreCounted number makes xs ys 0 size passed → (made : ℕ → ℕ → ℕ) (test : ℕ → ℕ → Bool)
      → AnswersBy number (λ all. number all.0) makes (length xs) made → AnswersBy number (λ all. all.1) makes (length xs) test
      → AreCountedUpto (λ r x y. y ≡ made r x) (λ r. test r (get_or (map number xs) r 0)) (map number xs) (map number ys) size passed.0
  counted-as xs ys size passed is made test as_made as_told =
      let old = map number xs in
      let none : AreChangedUpto (λ r x y. y ≡ made r x) old old 0 = record { size = refl; below = λ r lt. absurd (omega arith); from = λ r le. refl } in
      record {
        numbers = subst (AreChangedUpto _ old _) {x = 0 + size} {y = size} (omega arith) (is.numbers made as_made old none);
        count = answered-all (λ all. all.1) xs size passed.0 is.first test as_told;
      }

-- the planes of the keys below a bound are changed, and so many places of them pass a test
pub record ArePlanesCounted (changed : ℕ → ℕ → ℕ → ℕ → Type 0) (test : ℕ → ℕ → Bool) (nodes : ℕ) (old new : List ℕ) (bound passed : ℕ) : Type 0 where
  pub planes : ArePlanesChangedUpto changed nodes old new bound
  pub count : passed ≡ sum_below bound (λ k. sum_below nodes (λ r. cond (test r k) 1 0))

module _ (changed : ℕ → ℕ → ℕ → ℕ → Type 0) (test : ℕ → ℕ → Bool) (nodes : ℕ) (old : List ℕ) where
  pub planes_counted-next : {N : Type 0} (number : N → ℕ) (xs ys : List N) (key n count more : ℕ) (in_block : ℕ → ℕ → ℕ → Type 0) (passes : ℕ → Bool)
      → n ≡ nodes → ArePlanesCounted changed test nodes old (map number xs) key count → key * nodes + nodes ≤ length old
      → AreCountedUpto in_block passes (map number (take n (drop (key * nodes) xs))) (map number ys) (length (take n (drop (key * nodes) xs))) more
      → ((r x y : ℕ) → r < nodes → in_block r x y → changed r key x y) → ((r : ℕ) → r < nodes → passes r ≡ test r key)
      → ArePlanesCounted changed test nodes old (map number (put_mid (key * nodes) n xs ys)) (key + 1) (count + more)
  planes_counted-next number xs ys key n count more in_block passes is before within now step same =
      let block = take n (drop (key * nodes) xs) in let size = length-map block number in
      let cells = plane-cells number nodes key n xs is (omega (arith, length-map xs number)) in
      record {
        planes = planes-written changed nodes old number xs ys key n in_block is before.planes within (changed_all _ _ _ _ now.numbers (omega arith)) step;
        count = sum_next _ key count more before.count (plane_count nodes passes (λ r. test r key) (length block) more (sym size ∙ cells.size) now.count same);
      }

  pub planes_counted-all : (new : List ℕ) (keys key count : ℕ) → ArePlanesCounted changed test nodes old new key count → keys ≤ key → key ≤ keys
      → ArePlanesChanged changed nodes keys old new × (count ≡ total_of nodes keys test)
  planes_counted-all new keys key count is le ge = (planes-all _ _ _ new keys key is.planes le, total_whole nodes keys key test count is.count le ge)

-- each number of these planes is raised to another table's, where that is above its mark, and so many are
abbrev pub AreMergedUpto : ℕ → List ℕ → List ℕ → List ℕ → List ℕ → ℕ → ℕ → Type 0
AreMergedUpto nodes others low old new bound count =
    ArePlanesCounted (λ r k x y. y ≡ number_raised x (cell others nodes r k) (get_or low r 0)) (λ r k. nat_lt (get_or low r 0) (cell others nodes r k))
    nodes old new bound count

-- of two tables that take of each other one takes a plane more
pub merged-next : {N : Type 0} (number : N → ℕ) (nodes key n : ℕ) (others low passed old : List ℕ) (zs xs ys : List N) (came count more : ℕ)
    → n ≡ nodes → AreMergedUpto nodes old passed others (map number zs) key came → AreMergedUpto nodes others low old (map number xs) key count
    → key * nodes + nodes ≤ length others → key * nodes + nodes ≤ length old → let block = λ (ns : List N). take n (drop (key * nodes) ns) in
    AreRaisedUpto (map number (block zs)) low (map number (block xs)) (map number ys) (length (block xs)) more
    → AreMergedUpto nodes others low old (map number (put_mid (key * nodes) n xs ys)) (key + 1) (count + more)
merged-next number nodes key n others low passed old zs xs ys came count more is waits before behind within now =
    let block = block-cells _ nodes others number zs key n is waits.planes behind in
    planes_counted-next _ _ nodes old number xs ys key n count more _ _ is before within now
    (λ r x y lt made. made ∙ (λ i. number_raised x (block r lt i) (get_or low r 0))) (λ r lt i. nat_lt (get_or low r 0) (block r lt i))

-- how many are kept: such a number is above the mark, and 0 isn't
pub total-kept : (nodes keys : ℕ) (cells peer : ℕ → ℕ → ℕ) (low old new : List ℕ) (count : ℕ)
    → count ≡ total_of nodes keys (λ r k. nat_lt (max (peer r k) (get_or low r 0)) (cells r k))
    → ArePlanesChanged (λ r k x y. y ≡ number_ahead (cells r k) (peer r k) (get_or low r 0)) nodes keys old new → count ≡ total_above nodes keys new low
total-kept nodes keys cells peer low old new count is kept =
    is ∙ total-same nodes keys _ _ (λ r k in_nodes in_keys. let now = kept.each r k in_nodes in_keys in grind (arith, nat_tests))

-- all planes are gone over as one
pub places-counted : (changed : ℕ → ℕ → ℕ → Type 0) (test : ℕ → Bool) (nodes keys : ℕ) (old new : List ℕ) (size passed : ℕ)
    → IsGrid nodes keys size → AreCountedUpto changed test old new size passed → ArePlanesChanged (λ r k x y. changed (k * nodes + r) x y) nodes keys old new
    × (passed ≡ total_of nodes keys (λ r k. test (k * nodes + r)))
places-counted changed test nodes keys old new size passed grid is = (
  record {
    size = is.numbers.size;
    each = λ r k in_nodes in_keys. is.numbers.below (k * nodes + r) (omega (arith, plane-within nodes keys size k grid in_keys));
  },
  is.count ∙ ap (λ n. count_passing n test) grid.whole ∙ total-places nodes keys test,
)

-- numbers that are kept are above the peer's and the marks too, where only one owner has a mark and none of its kept numbers is up to that
pub masked-once : (nodes keys own mark : ℕ) (cells peer : ℕ → ℕ → ℕ) (low new : List ℕ) (count : ℕ)
    → length low ≡ nodes → HasNoOtherMark low own → mark ≡ get_or low own 0 → HasNoneUptoMark (cell new nodes) keys own mark
    → HasEachPlace nodes keys (λ r k n. n ≡ number_kept (peer r k) (cells r k)) new → count ≡ total_of nodes keys (λ r k. nat_lt (peer r k) (cells r k))
    → HasEachPlace nodes keys (λ r k n. n ≡ number_ahead (cells r k) (peer r k) (get_or low r 0)) new × (count ≡ total_above nodes keys new low)
masked-once nodes keys own mark cells peer low new count size none is_mark none_upto kept is = (
  record { size = kept.size; each = each },
  is ∙ total-same nodes keys _ _ (λ r k in_nodes in_keys.
      let now = kept.each r k in_nodes in_keys in let ahead = each r k in_nodes in_keys in
      grind (arith, nat_tests)),
)
  where
    each : (r k : ℕ) → r < nodes → k < keys → cell new nodes r k ≡ number_ahead (cells r k) (peer r k) (get_or low r 0)
    each r k in_nodes in_keys =
        let now = kept.each r k in_nodes in_keys in let upto = none_upto k in_keys in let other = none r (omega (arith, in_nodes, size)) in
        grind (arith, nat_tests)
