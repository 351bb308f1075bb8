use Rattle.planes.proofs.Common.{◌≡◌, ℕ, ◌<◌, ◌≤◌, ◌+◌, ◌*◌, ◌-◌, List, take, drop, length, get_or, map, slice_index, nat_lt, nat_le, if◌then◌else◌, refl, ap, ◌∙◌, arith, rules, nat_tests, length-map, one_more, cell, sum_below, sum_below-most, one_between, HasEach, HasRoomToCount}
use Rattle.planes.specs.declared.sizes.Grid.{Grid}
use Rattle.planes.proofs.Counts.{number_next}
use Rattle.planes.proofs.Elementwise.{made-as}
use Rattle.planes.proofs.Places.{each-next, plane-fits, plane-within, window-at}
use Rattle.planes.proofs.grids.count_some_between.Goals as goal

-- of a part of the owners
module _ {N : Type 0} (number : N → ℕ) (grid : Grid N) (low high : List N) (first size : ℕ) where
  -- whether a number of a key is between its owner's marks
  abbrev is_counted : ℕ → ℕ → ℕ
  is_counted r key = if nat_lt (slice_index (map number low) (first + r)) (cell (map number grid.cells.now) grid.size.nodes (first + r) key)
      then (if nat_le (cell (map number grid.cells.now) grid.size.nodes (first + r) key) (slice_index (map number high) (first + r)) then 1 else 0) else 0

  abbrev part : ℕ → List N → List N
  part start xs = take (start + size - start) (drop start xs)

  -- so it is told by the parts of a plane and of the marks
  next : (key to start r x y : ℕ) → r < size → start ≡ key * grid.size.nodes + first → key + 1 ≡ to → x ≡ sum_below key (is_counted r)
      → y ≡ x + one_between number (part start grid.cells.now) (part first low) (part first high) r → y ≡ sum_below to (is_counted r)
  next key to start r x y lt is at before made =
      let from = window-at number first size (first + size - first) low (omega arith) r lt in
      let upto = window-at number first size (first + size - first) high (omega arith) r lt in
      let here = window-at number start size (start + size - start) grid.cells.now (omega arith) r lt
      ∙ ap (λ i. get_or (map number grid.cells.now) i 0) {x = start + r} {y = key * grid.size.nodes + (first + r)} (omega arith) in
      number_next (is_counted r) key x y before made (λ i. if nat_lt (from i) (here i) then (if nat_le (here i) (upto i) then 1 else 0) else 0)
      ∙ ap (λ n. sum_below n (is_counted r)) at

  -- so many more can be counted
  has_room : (most more key : ℕ) (counts : List N) → HasEach size (λ r n. n ≡ sum_below key (is_counted r)) (map number counts)
      → key + more ≤ most → HasRoomToCount number most more counts
  has_room most more key counts before le r lt =
      let few = sum_below-most (is_counted r) key 1 (λ k _. grind (arith, nat_tests)) in
      omega (arith, before.each r (omega (arith, length-map counts number)), few)

pub loop-key-init : goal.loop-key-init
loop-key-init g c =
    let size = length-map c.args.counts.now g.N.Number.number in
    record {
      upto = omega arith;
      each = record {
        size = c.change.ensures.size ∙ size;
        each = λ r lt. made-as g.N.Number.number _ r _ _ (λ n. 0) (c.change.ensures.each r (omega arith)) (λ n m made. search rules);
      };
    }

pub count_two-requires-clause-room : goal.count_two-requires-clause-room
count_two-requires-clause-room g c = has_room g.N.Number.number c.args.grid c.args.low.now c.args.high.now c.args.first _ _ 2 _ _ c.loop-key.invariant.each
    (omega (arith, g.met.N.Number.counts_keys))

pub count_one-requires-clause-room : goal.count_one-requires-clause-room
count_one-requires-clause-room g c = has_room g.N.Number.number c.args.grid c.args.low.now c.args.high.now c.args.first _ _ 1 _ _ c.loop-key.invariant.each
    (omega (arith, g.met.N.Number.counts_keys))

pub slice_bounds-count_two-end-in-loop-key : goal.slice_bounds-count_two-end-in-loop-key
slice_bounds-count_two-end-in-loop-key g c =
    let nodes = c.args.grid.size.nodes in
    let plane = plane-within nodes c.args.grid.size.keys (length c.args.grid.cells.now) (c.loop-key.key + 1) c.requires.marked.shape c.loop-key-test.true in
    let inside : c.loop-key.key * nodes + c.args.first + nodes + length c.args.counts.now ≤ length c.args.grid.cells.now =
    omega (arith, one_more c.loop-key.key nodes) in
    search rules

pub loop-key-preserved : goal.loop-key-preserved
loop-key-preserved g c =
    let nodes = c.args.grid.size.nodes in let key = c.loop-key.key in let start : ℕ = key * nodes + c.args.first in
    let counted = next g.N.Number.number c.args.grid c.args.low.now c.args.high.now c.args.first (length c.args.counts.now) in
    record {
      upto = omega (arith, c.loop-key-test.true);
      each = each-next _ _ _ _ _ _ c.loop-key.invariant.each c.count_two.ensures (λ r x y lt before made.
          counted (key + 1) (key + 2) (start + nodes) r _ y lt (omega (arith, one_more key nodes)) (omega arith)
          (counted key (key + 1) start r x _ lt refl refl before refl) made);
    }

pub returns-then-key-size : goal.returns-then-key-size
returns-then-key-size g c =
    let key = c.loop-key.key in
    each-next _ _ _ _ _ _ c.loop-key.invariant.each c.count_one.ensures (λ r x y lt before made.
    next g.N.Number.number c.args.grid c.args.low.now c.args.high.now c.args.first (length c.args.counts.now) key
    c.args.grid.size.keys (key * c.args.grid.size.nodes + c.args.first) r x y lt refl (omega (arith, c.if-key-size.true, c.loop-key-test.false)) before made)

pub returns-else-key-size : goal.returns-else-key-size
returns-else-key-size g c =
    let all : c.loop-key.key ≡ c.args.grid.size.keys = omega arith in rw (← all) c.loop-key.invariant.each

pub overflow_mul-start : goal.overflow_mul-start
overflow_mul-start g c = plane-fits _ _ _ c.loop-key.key c.requires.marked.shape (omega arith)

pub offset_bounds-cells-next : goal.offset_bounds-cells-next
offset_bounds-cells-next g c =
    let nodes = c.args.grid.size.nodes in
    let plane = plane-within nodes c.args.grid.size.keys (length c.args.grid.cells.now) (c.loop-key.key + 1) c.requires.marked.shape c.loop-key-test.true in
    omega (arith, plane, one_more c.loop-key.key nodes, c.requires.part)

pub offset_bounds-cells-start : goal.offset_bounds-cells-start
offset_bounds-cells-start g c =
    omega (arith, plane-within _ _ (length c.args.grid.cells.now) c.loop-key.key c.requires.marked.shape (omega (arith, c.loop-key-test.true)), c.requires.part)
