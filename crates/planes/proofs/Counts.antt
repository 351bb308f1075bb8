-- Sums that a loop counts.
-- Serves the functions of `grids`, `owners` and `planes`, `Elementwise`, `Places`, `delta_plans` and `grids`.
use Rattle.planes.proofs.Common.{◌≡◌, ℕ, suc, ◌+◌, ◌-◌, ◌<◌, ◌≤◌, ◌==◌, ◌↔◌, Bool, true, false, cond, nat_lt, refl, ap, ◌∙◌, arith, IsTrue, le-ltb, eq-eqb, eqb-true, fold_below-join, sums, sum_below, sum_below-most, count_passing, Cells, count_above, HasNoneAbove}

pub one_le : (b : Bool) → cond b 1 0 ≤ 1
one_le true = omega arith
one_le false = omega arith

pub count_le : (n : ℕ) (test : ℕ → Bool) → sum_below n (λ r. cond (test r) 1 0) ≤ n
count_le n test = omega (arith, sum_below-most (λ r. cond (test r) 1 0) n 1 (λ r _. one_le (test r)))

pub sum_next : (f : ℕ → ℕ) (r count x : ℕ) → count ≡ sum_below r f → x ≡ f r → count + x ≡ sum_below (r + 1) f
sum_next f r count x is now = (λ i. is i + now i) ∙ ap (λ n. sum_below n f) {x = suc r} {y = r + 1} (omega arith)

pub number_next : (f : ℕ → ℕ) (r count x : ℕ) {y : ℕ} → count ≡ sum_below r f → x ≡ count + y → y ≡ f r → x ≡ sum_below (r + 1) f
number_next f r count x {y} is plus now = plus ∙ sum_next f r count y is now

pub sum_whole : (f : ℕ → ℕ) (r n count : ℕ) → count ≡ sum_below r f → n ≤ r → r ≤ n → count ≡ sum_below n f
sum_whole f r n count is le ge = is ∙ ap (λ m. sum_below m f) {x = r} {y = n} (omega arith)

-- a count ends at a bound that is written in another way
pub count_same : (test : ℕ → Bool) (bound to count now : ℕ) → count ≡ count_passing bound test → bound ≡ to → count ≡ now → now ≡ count_passing to test
count_same test bound to count now is at same = omega (arith, ap (λ n. count_passing n test) at)

-- one place more is counted
pub count_next : (test : ℕ → Bool) (bound to before passed now : ℕ) {more : ℕ} → before + passed ≡ count_passing bound test → bound + 1 ≡ to
    → now ≡ passed + more → more ≡ cond (test bound) 1 0 → before + now ≡ count_passing to test
count_next test bound to before passed now {more} is next plus one =
    omega (arith, sum_next (λ r. cond (test r) 1 0) bound (before + passed) more is one, ap (λ n. count_passing n test) next)

-- none is counted just where none passes
pub none-passes : (test : ℕ → Bool) (n size count : ℕ) → count ≡ count_passing n test → size ≡ n → IsTrue (count == 0) ↔ ((r : ℕ) → r < size → test r ≡ false)
none-passes test n size count is whole = (
  λ none r lt.
      let rest = fold_below-join sums (λ k. cond (test k) 1 0) (suc r) (n - suc r) in
      let all = ap {B = ℕ} (λ m. count_passing m test) {x = suc r + (n - suc r)} {y = n} (omega arith) in
      fails (test r) (omega (arith, eqb-true count 0 none)),
  λ none. eq-eqb count 0 (omega (arith, sum_below-most (λ r. cond (test r) 1 0) n 0 (λ r lt. rw (none r (omega arith)) (omega arith)))),
)
  where
    fails : (b : Bool) → 0 + cond b 1 0 ≡ 0 → b ≡ false
    fails true one = absurd (omega arith)
    fails false one = refl

module _ (cells : Cells) (keys : ℕ) (low : ℕ → ℕ) (owner total : ℕ) (is : total ≡ sum_below owner (λ r. count_above cells keys r (low r))) where
  -- the numbers of one owner more are counted
  pub owner_counted : (count mark : ℕ) → count ≡ count_above cells keys owner mark → mark ≡ low owner
      → total + count ≡ sum_below (owner + 1) (λ r. count_above cells keys r (low r))
  owner_counted count mark now same = sum_next _ owner total count is (now ∙ ap (count_above cells keys owner) same)

  -- or there are none
  pub owner_passed : (high : ℕ) → HasNoneAbove cells keys owner high → high ≤ low owner → total ≡ sum_below (owner + 1) (λ r. count_above cells keys r (low r))
  owner_passed high covered le =
      let none = sum_below-most (λ k. cond (nat_lt (low owner) (cells owner k)) 1 0) keys 0 (λ k lt.
      rw (le-ltb (low owner) (cells owner k) (omega (arith, covered k lt))) (omega arith)) in
      omega (arith, sum_next (λ r. count_above cells keys r (low r)) owner total 0 is (omega arith))
