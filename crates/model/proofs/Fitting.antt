-- The longest beginning of a list that fits into a budget, and what it leaves of it.
-- Serves `Picked`, `delta_plans` and `reconcile`.
use Rattle.model.proofs.Common.{◌≡◌, ℕ, zero, suc, ◌-◌, ◌<◌, ◌≤◌, true, false, cond, leb, List, [], ◌∷◌, ◌++◌, length, take, refl, sym, ap, ◌∙◌, arith, leb-true, leb-false, le-leb, lt-leb, sum_by-cons}
use Rattle.std.specs.List.{sum_by}
use Rattle.model.specs.inner.Fitting.{fitting, left_after}

module _ {X : Type 0} (size : X → ℕ) where
  -- the first of a list fits, or nothing of it does
  pub fitting-cons_true : (budget : ℕ) (x : X) (xs : List X) → leb (size x) budget ≡ true → fitting size budget (x ∷ xs) ≡ x ∷ fitting size (budget - size x) xs
  fitting-cons_true budget x xs e = ap (λ b. cond b (x ∷ fitting size (budget - size x) xs) []) e

  pub fitting-cons_false : (budget : ℕ) (x : X) (xs : List X) → leb (size x) budget ≡ false → fitting size budget (x ∷ xs) ≡ []
  fitting-cons_false budget x xs e = ap (λ b. cond b (x ∷ fitting size (budget - size x) xs) []) e

  pub left_after-cons_true : (budget : ℕ) (x : X) (xs : List X) → leb (size x) budget ≡ true → left_after size budget (x ∷ xs) ≡ left_after size (budget - size x) xs
  left_after-cons_true budget x xs e = ap (λ b. cond b (left_after size (budget - size x) xs) 0) e

  pub left_after-cons_false : (budget : ℕ) (x : X) (xs : List X) → leb (size x) budget ≡ false → left_after size budget (x ∷ xs) ≡ 0
  left_after-cons_false budget x xs e = ap (λ b. cond b (left_after size (budget - size x) xs) 0) e

  -- it is no longer than the list
  pub length-fitting-le : (budget : ℕ) (xs : List X) → length (fitting size budget xs) ≤ length xs
  length-fitting-le budget [] = omega arith
  length-fitting-le budget (x ∷ xs) =
      let rest = length-fitting-le (budget - size x) xs in
      elim (leb (size x) budget) as (λ b. length (cond b (x ∷ fitting size (budget - size x) xs) []) ≤ suc (length xs)) [ true ↦ omega (arith, rest) | false ↦ omega arith ]

  -- and begins it
  pub fitting-is_front : (budget : ℕ) (xs : List X) → fitting size budget xs ≡ take (length (fitting size budget xs)) xs
  fitting-is_front budget [] = refl
  fitting-is_front budget (x ∷ xs) =
      let rest = fitting-is_front (budget - size x) xs in
      elim (leb (size x) budget) as (λ b. cond b (x ∷ fitting size (budget - size x) xs) [] ≡ take (length (cond b (x ∷ fitting size (budget - size x) xs) [])) (x ∷ xs)) [ true ↦ ap (λ ys. x ∷ ys) rest | false ↦ refl ]

  -- of a front as much fits as is in the front
  pub fitting-take : (n budget : ℕ) (xs : List X) → fitting size budget (take n xs) ≡ take n (fitting size budget xs)
  fitting-take zero budget xs = refl
  fitting-take (suc n) budget [] = refl
  fitting-take (suc n) budget (x ∷ xs) =
      let rest = fitting-take n (budget - size x) xs in
      elim (leb (size x) budget) as (λ b. cond b (x ∷ fitting size (budget - size x) (take n xs)) [] ≡ take (suc n) (cond b (x ∷ fitting size (budget - size x) xs) [])) [ true ↦ ap (λ ys. x ∷ ys) rest | false ↦ refl ]

  -- what is together within the budget all fits
  pub fitting-all : (budget : ℕ) (xs : List X) → sum_by size xs ≤ budget → fitting size budget xs ≡ xs
  fitting-all budget [] within = refl
  fitting-all budget (x ∷ xs) within =
      let sum = sum_by-cons size x xs in
      fitting-cons_true budget x xs (le-leb (size x) budget (omega (arith, within, sum)))
      ∙ ap (λ ys. x ∷ ys) (fitting-all (budget - size x) xs (omega (arith, within, sum)))

  pub left_after-all : (budget : ℕ) (xs : List X) → sum_by size xs ≤ budget → left_after size budget xs ≡ budget - sum_by size xs
  left_after-all budget [] within = omega arith
  left_after-all budget (x ∷ xs) within =
      let sum = sum_by-cons size x xs in
      omega (arith, sum, within, left_after-cons_true budget x xs (le-leb (size x) budget (omega (arith, within, sum))), left_after-all (budget - size x) xs (omega (arith, within, sum)))

  -- what fits is together within the budget
  pub sum-fitting : (budget : ℕ) (xs : List X) → sum_by size (fitting size budget xs) ≤ budget
  sum-fitting budget [] = omega arith
  sum-fitting budget (x ∷ xs) =
      let rest = sum-fitting (budget - size x) xs in
      elim (leb (size x) budget) as (λ b. leb (size x) budget ≡ b → sum_by size (cond b (x ∷ fitting size (budget - size x) xs) []) ≤ budget) [
        | true ↦ λ e. omega (arith, rest, sum_by-cons size x (fitting size (budget - size x) xs), leb-true (size x) budget e)
        | false ↦ λ e. omega arith
      ] refl

  -- what is up to a place that fits is within the budget
  pub sum-within : (budget : ℕ) (xs : List X) (i : ℕ) → i < length (fitting size budget xs) → sum_by size (take (suc i) xs) ≤ budget
  sum-within budget [] i lt = absurd (omega arith)
  sum-within budget (x ∷ xs) zero lt = elim (leb (size x) budget) as (λ b. leb (size x) budget ≡ b → 0 < length (cond b (x ∷ fitting size (budget - size x) xs) []) → sum_by size (x ∷ []) ≤ budget) [
    | true ↦ λ e there. omega (arith, sum_by-cons size x [], leb-true (size x) budget e)
    | false ↦ λ e there. absurd (omega arith)
  ] refl lt
  sum-within budget (x ∷ xs) (suc i) lt = elim (leb (size x) budget) as (λ b. leb (size x) budget ≡ b → suc i < length (cond b (x ∷ fitting size (budget - size x) xs) []) → sum_by size (x ∷ take (suc i) xs) ≤ budget) [
    | true ↦ λ e there. omega (arith, sum_by-cons size x (take (suc i) xs), leb-true (size x) budget e, sum-within (budget - size x) xs i (omega arith))
    | false ↦ λ e there. absurd (omega arith)
  ] refl lt

  -- and what is up to one that doesn't fit is more
  pub sum-beyond : (budget : ℕ) (xs : List X) (i : ℕ) → length (fitting size budget xs) ≤ i → i < length xs → budget < sum_by size (take (suc i) xs)
  sum-beyond budget [] i le lt = absurd (omega arith)
  sum-beyond budget (x ∷ xs) zero le lt = elim (leb (size x) budget) as (λ b. leb (size x) budget ≡ b → length (cond b (x ∷ fitting size (budget - size x) xs) []) ≤ 0 → budget < sum_by size (x ∷ [])) [
    | true ↦ λ e beyond. absurd (omega arith)
    | false ↦ λ e beyond. omega (arith, sum_by-cons size x [], leb-false (size x) budget e)
  ] refl le
  sum-beyond budget (x ∷ xs) (suc i) le lt = elim (leb (size x) budget) as (λ b. leb (size x) budget ≡ b → length (cond b (x ∷ fitting size (budget - size x) xs) []) ≤ suc i → budget < sum_by size (x ∷ take (suc i) xs)) [
    | true ↦ λ e beyond. omega (arith, sum_by-cons size x (take (suc i) xs), leb-true (size x) budget e, sum-beyond (budget - size x) xs i (omega arith) (omega arith))
    | false ↦ λ e beyond. omega (arith, sum_by-cons size x (take (suc i) xs), leb-false (size x) budget e)
  ] refl le

  module _ (some : (x : X) → 1 ≤ size x) where
    -- each takes something, so with nothing left nothing fits
    pub fitting-zero : (xs : List X) → fitting size 0 xs ≡ []
    fitting-zero [] = refl
    fitting-zero (x ∷ xs) = fitting-cons_false 0 x xs (lt-leb (size x) 0 (some x))

    pub left_after-zero : (xs : List X) → left_after size 0 xs ≡ 0
    left_after-zero [] = refl
    left_after-zero (x ∷ xs) = left_after-cons_false 0 x xs (lt-leb (size x) 0 (some x))

    -- and no more fit than the budget says
    pub length-fitting-le-budget : (budget : ℕ) (xs : List X) → length (fitting size budget xs) ≤ budget
    length-fitting-le-budget budget [] = omega arith
    length-fitting-le-budget budget (x ∷ xs) =
        let rest = length-fitting-le-budget (budget - size x) xs in
        let one = some x in
        elim (leb (size x) budget) as (λ b. leb (size x) budget ≡ b → length (cond b (x ∷ fitting size (budget - size x) xs) []) ≤ budget) [
          | true ↦ λ e. omega (arith, rest, one, leb-true (size x) budget e)
          | false ↦ λ e. omega arith
        ] refl

    -- of two lists the second has what the first leaves
    pub fitting-append : (budget : ℕ) (xs ys : List X) → fitting size budget (xs ++ ys) ≡ fitting size budget xs ++ fitting size (left_after size budget xs) ys
    fitting-append budget [] ys = refl
    fitting-append budget (x ∷ xs) ys =
        let rest = fitting-append (budget - size x) xs ys in
        elim (leb (size x) budget) as (λ b. cond b (x ∷ fitting size (budget - size x) (xs ++ ys)) [] ≡ cond b (x ∷ fitting size (budget - size x) xs) [] ++ fitting size (cond b (left_after size (budget - size x) xs) 0) ys) [
          | true ↦ ap (λ zs. x ∷ zs) rest
          | false ↦ sym (fitting-zero ys)
        ]

    pub left_after-append : (budget : ℕ) (xs ys : List X) → left_after size budget (xs ++ ys) ≡ left_after size (left_after size budget xs) ys
    left_after-append budget [] ys = refl
    left_after-append budget (x ∷ xs) ys =
        let rest = left_after-append (budget - size x) xs ys in
        elim (leb (size x) budget) as (λ b. cond b (left_after size (budget - size x) (xs ++ ys)) 0 ≡ left_after size (cond b (left_after size (budget - size x) xs) 0) ys) [
          | true ↦ rest
          | false ↦ sym (left_after-zero ys)
        ]

-- where each takes one, a list takes its length
pub sum_by-ones : {X : Type 0} (size : X → ℕ) → ((x : X) → size x ≡ 1) → (xs : List X) → sum_by size xs ≡ length xs
sum_by-ones size one [] = refl
sum_by-ones size one (x ∷ xs) = omega (arith, sum_by-cons size x xs, one x, sum_by-ones size one xs)
