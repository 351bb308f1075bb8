-- Pieces of tables as code counts them, table by table and part by part.
-- Serves the functions of `lags` and `Whole`.
use Rattle.version_lags.proofs.Common.{◌≡◌, ℕ, zero, suc, ◌+◌, ◌*◌, ◌<◌, ◌≤◌, min, Bool, cond, List, [], length, get_or, map, slice_index, sym, ap, ◌∙◌, arith, Bor, get_or-map, length-map, refl, MOST_NODES, MOST_KEYS, Table, sum_below, total_of, cell, ArePlanesChanged, sum_below-most, sum_below-same, count_le, sum_next, count_passing, RoundNumbers, NumbersView, numbers_seen, numbers_at, is_stale, is_left, total_below, AreGrids, AreRoundNumbers, IsTotal, least_below, CountsPiece}
use Rattle.version_lags.proofs.Pieces.{none_upto}

-- the numbers of tables make grids
pub grids-of : {N : Type 0} (number : N → ℕ) (most : ℕ) (numbers : RoundNumbers N) (tables : List Table) → AreRoundNumbers number most numbers tables
    → AreGrids (numbers_seen number numbers)
grids-of number most numbers tables is = record {
  grid = record { whole = is.are.lasts.size; few_nodes = is.may.together.limits.few_nodes; few_keys = is.may.together.limits.few_keys };
  count = is.are.count;
  based = is.are.based.size;
  alike = λ p lt. (is.are.cells_are p lt).size ∙ sym is.are.lasts.size;
}

-- a table's numbers as code reads them
pub table-read : {N : Type 0} (number : N → ℕ) (numbers : RoundNumbers N) → AreGrids (numbers_seen number numbers) → (p : ℕ) (d : Bor (List N))
    → p < length numbers.lists.now → let here = (get_or numbers.cells.now p d).now in
    (map number here ≡ numbers_at (numbers_seen number numbers).tables p) × (length here ≡ length numbers.last.now)
table-read number numbers grids p d lt =
    let count = length-map numbers.cells.now (λ (x : Bor _). map number x.now) in
    let read = sym (get_or-map (λ y. map number y.now) numbers.cells.now p d [] (omega arith)) in
    (read, sym (length-map (get_or numbers.cells.now p d).now number) ∙ ap length read ∙ grids.alike p lt ∙ length-map numbers.last.now number)

least_below-le : (n : ℕ) (f : ℕ → ℕ) (most : ℕ) → least_below n f most ≤ most
least_below-le zero f most = omega arith
least_below-le (suc n) f most = omega (arith, least_below-le n f most)

-- before any table, with one more, and two pieces, one behind the other
module _ (v : NumbersView) (grids : AreGrids v) where
  total-is : (test : List ℕ → ℕ → ℕ → Bool) (from to total : ℕ) → total_below v test from + total ≡ total_below v test to → IsTotal v test from to total
  total-is test from to total is = record { is = is; few = omega (arith, sum_below-most _ to (MOST_NODES * MOST_KEYS) (λ p _. few p)) }
    where
      few : (p : ℕ) → total_of v.nodes v.keys (test (numbers_at v.tables p)) ≤ MOST_NODES * MOST_KEYS
      few p =
          let here = test (numbers_at v.tables p) in
          omega (arith, sum_below-most (λ r. count_passing v.keys (here r)) v.nodes MOST_KEYS (λ r _. omega (arith, count_le v.keys (here r))))

  -- where no node has forgotten, nothing is left over
  pub none_left : (table : List ℕ) → ((r : ℕ) → r < v.nodes → slice_index v.bases r ≡ 0) → total_of v.nodes v.keys (is_left v table) ≡ 0
  none_left table none = sum_below-same v.nodes _ (λ r. sum_below v.keys (λ k. 0)) (λ r in_r. sum_below-same v.keys _ _ (λ k _.
      ap {B = ℕ} (λ b. cond b 1 0) (none_upto (cell table v.nodes r k) (slice_index v.bases r) (λ some. omega (arith, none r in_r)))))
      ∙ omega (arith, sum_below-most (λ r. sum_below v.keys (λ k. 0)) v.nodes 0 (λ r _. omega (arith, sum_below-most (λ k. 0) v.keys 0 (λ k _. omega arith))))

  -- the least of what the tables hold of a key, and its last number
  abbrev least_upto : ℕ → ℕ → ℕ → ℕ
  least_upto to r k = least_below to (λ p. cell (numbers_at v.tables p) v.nodes r k) (cell v.last v.nodes r k)

  pub counts-none : (from : ℕ) → CountsPiece v from from 0 0 v.last
  counts-none from = record {
    stale_is = total-is _ from from 0 (omega arith);
    leftover_is = total-is _ from from 0 (omega arith);
    least_is = record {
      size = grids.grid.whole;
      each = λ r k _ _.
          let le = least_below-le from (λ p. cell (numbers_at v.tables p) v.nodes r k) (cell v.last v.nodes r k) in
          record { upto = omega arith; is = omega arith };
    };
  }

  pub counts-joined : (from mid to sum rest sum' rest' x y : ℕ) (old new other : List ℕ) → CountsPiece v from mid sum rest old
      → sum' ≡ sum + x → rest' ≡ rest + y → total_below v (is_stale v) mid + x ≡ total_below v (is_stale v) to
      → total_below v (is_left v) mid + y ≡ total_below v (is_left v) to
      → ((r k : ℕ) → r < v.nodes → k < v.keys → min (least_upto mid r k) (cell other v.nodes r k) ≡ least_upto to r k)
      → ArePlanesChanged (λ r k a b. b ≡ min a (cell other v.nodes r k)) v.nodes v.keys old new → CountsPiece v from to sum' rest' new
  counts-joined from mid to sum rest sum' rest' x y old new other one sum_is rest_is stale left least changed = record {
    stale_is = total-is _ from to sum' (omega arith);
    leftover_is = total-is _ from to rest' (omega arith);
    least_is = record {
      size = changed.size ∙ one.least_is.size;
      each = λ r k in_r in_k.
          let first = one.least_is.each r k in_r in_k in let lowered = changed.each r k in_r in_k in
          record { upto = omega arith; is = omega (arith, least r k in_r in_k) };
    };
  }

  pub counts-more : (from at sum rest sum' rest' : ℕ) (old new here : List ℕ) → CountsPiece v from at sum rest old → here ≡ numbers_at v.tables at
      → sum' ≡ sum + total_of v.nodes v.keys (is_stale v here) → rest' ≡ rest + total_of v.nodes v.keys (is_left v here)
      → ArePlanesChanged (λ r k a b. b ≡ min a (cell here v.nodes r k)) v.nodes v.keys old new → CountsPiece v from (at + 1) sum' rest' new
  counts-more from at sum rest sum' rest' old new here before is sum_is rest_is changed =
      let next = λ (test : List ℕ → ℕ → ℕ → Bool).
      sum_next (λ p. total_of v.nodes v.keys (test (numbers_at v.tables p))) at _ _ refl (ap (λ h. total_of v.nodes v.keys (test h)) is) in
      counts-joined from at (at + 1) sum rest sum' rest' _ _ old new here before sum_is rest_is (next (is_stale v)) (next (is_left v))
      (λ r k _ _. ap (λ h. min (least_upto at r k) (cell h v.nodes r k)) is ∙ ap (λ n. least_upto n r k) {x = suc at} {y = at + 1} (omega arith)) changed
