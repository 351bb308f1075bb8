-- Sums and greatest values below a bound.
-- Serves the crates above.
use Rattle.std.proofs.Common.{◌≡◌, ℕ, zero, suc, ◌+◌, ◌-◌, ◌*◌, ◌<◌, ◌≤◌, min, max, inl, inr, refl, sym, ap, ◌∙◌, arith}
use Rattle.std.proofs.Math.Nat.{add-mul}
use Rattle.std.proofs.lemmas.Bool.{cases_lt}
use Rattle.limits.specs.Sums.{sum_below, most_below}

pub one_more : (a keys : ℕ) → (a + 1) * keys ≡ a * keys + keys
one_more a keys = omega (arith, add-mul a 1 keys)

pub sum_below-le : (n : ℕ) (f g : ℕ → ℕ) → ((i : ℕ) → i < n → f i ≤ g i) → sum_below n f ≤ sum_below n g
sum_below-le zero f g le = omega arith
sum_below-le (suc n) f g le = omega (arith, sum_below-le n f g (λ i lt. le i (omega (arith, lt))), le n (omega arith))

pub sum_below-most : (f : ℕ → ℕ) (n most : ℕ) → ((k : ℕ) → k < n → f k ≤ most) → sum_below n f ≤ n * most
sum_below-most f zero most le = omega arith
sum_below-most f (suc n) most le = omega (arith, le n (omega arith), sum_below-most f n most (λ k lt. le k (omega arith)))

-- what f gives below a bound, taken together by an operation to which 0 is nothing and whose order bears on nothing
pub record IsFoldBelow (op : ℕ → ℕ → ℕ) (fold : ℕ → (ℕ → ℕ) → ℕ) : Type 0 where
  start : (f : ℕ → ℕ) → fold zero f ≡ 0
  more : (f : ℕ → ℕ) (n : ℕ) → fold (suc n) f ≡ op (fold n f) (f n)
  alone : (a : ℕ) → (op a 0 ≡ a) × (op 0 a ≡ a)
  crossed : (a b c d : ℕ) → op (op a b) (op c d) ≡ op (op a c) (op b d)

pub sums : IsFoldBelow (λ a b. a + b) sum_below
sums = record {
  start = λ f. refl;
  more = λ f n. refl;
  alone = λ a. (omega arith, omega arith);
  crossed = λ a b c d. omega arith;
}

pub greatest : IsFoldBelow max most_below
greatest = record {
  start = λ f. refl;
  more = λ f n. refl;
  alone = λ a. (omega arith, omega arith);
  crossed = λ a b c d. omega arith;
}

module _ {op : ℕ → ℕ → ℕ} {fold : ℕ → (ℕ → ℕ) → ℕ} (is : IsFoldBelow op fold) where
  grouped : (a b c : ℕ) → op a (op b c) ≡ op (op a b) c
  grouped a b c = ap (λ x. op x (op b c)) (sym (is.alone a).0) ∙ is.crossed a 0 b c ∙ ap (op (op a b)) (is.alone c).1

  pub fold_below-same : (f g : ℕ → ℕ) (n : ℕ) → ((k : ℕ) → k < n → f k ≡ g k) → fold n f ≡ fold n g
  fold_below-same f g zero same = is.start f ∙ sym (is.start g)
  fold_below-same f g (suc n) same =
      is.more f n
      ∙ (λ i. op (fold_below-same f g n (λ k lt. same k (omega arith)) i) (same n (omega arith) i))
      ∙ sym (is.more g n)

  -- where nothing is counted
  pub fold_below-none : (f : ℕ → ℕ) (n : ℕ) → ((k : ℕ) → f k ≡ 0) → fold n f ≡ 0
  fold_below-none f zero none = is.start f
  fold_below-none f (suc n) none = is.more f n ∙ ap (op (fold n f)) (none n) ∙ (is.alone (fold n f)).0 ∙ fold_below-none f n none

  -- the order of two folds bears on nothing
  pub fold_below-both : (f g : ℕ → ℕ) (n : ℕ) → fold n (λ k. op (f k) (g k)) ≡ op (fold n f) (fold n g)
  fold_below-both f g zero =
      is.start (λ k. op (f k) (g k)) ∙ sym (is.alone 0).0 ∙ (λ i. op (sym (is.start f) i) (sym (is.start g) i))
  fold_below-both f g (suc n) =
      is.more (λ k. op (f k) (g k)) n
      ∙ ap (λ m. op m (op (f n) (g n))) (fold_below-both f g n)
      ∙ is.crossed (fold n f) (fold n g) (f n) (g n)
      ∙ (λ i. op (sym (is.more f n) i) (sym (is.more g n) i))

  pub fold_below-swap : (f : ℕ → ℕ → ℕ) (n m : ℕ) → fold n (λ i. fold m (f i)) ≡ fold m (λ j. fold n (λ i. f i j))
  fold_below-swap f zero m =
      is.start (λ i. fold m (f i)) ∙ sym (fold_below-none (λ j. fold zero (λ i. f i j)) m (λ j. is.start (λ i. f i j)))
  fold_below-swap f (suc n) m =
      is.more (λ i. fold m (f i)) n
      ∙ ap (λ k. op k (fold m (f n))) (fold_below-swap f n m)
      ∙ sym (fold_below-both (λ j. fold n (λ i. f i j)) (f n) m)
      ∙ fold_below-same (λ j. op (fold n (λ i. f i j)) (f n j)) (λ j. fold (suc n) (λ i. f i j)) m (λ j lt. sym (is.more (λ i. f i j) n))

  -- one range behind another
  pub fold_below-join : (f : ℕ → ℕ) (a b : ℕ) → op (fold a f) (fold b (λ k. f (a + k))) ≡ fold (a + b) f
  fold_below-join f a zero =
      let same : a ≡ a + 0 = omega arith in
      ap (op (fold a f)) (is.start (λ k. f (a + k))) ∙ (is.alone (fold a f)).0 ∙ ap (λ n. fold n f) same
  fold_below-join f a (suc b) =
      let same : suc (a + b) ≡ a + suc b = omega arith in
      ap (op (fold a f)) (is.more (λ k. f (a + k)) b)
      ∙ grouped (fold a f) (fold b (λ k. f (a + k))) (f (a + b))
      ∙ ap (λ m. op m (f (a + b))) (fold_below-join f a b)
      ∙ sym (is.more f (a + b))
      ∙ ap (λ n. fold n f) same

  -- parts of one size, up to an end
  module _ (f : ℕ → ℕ) (n size : ℕ) where
    next : (i : ℕ) → suc i * size ≡ i * size + size
    next i = let same : i + 1 ≡ suc i = omega arith in ap (λ m. m * size) (sym same) ∙ one_more i size

    abbrev part : ℕ → ℕ
    part i = fold (min size (n - i * size)) (λ k. f (i * size + k))

    pub fold_below-parts : (i : ℕ) → fold i (λ j. fold (min size (n - j * size)) (λ k. f (j * size + k))) ≡ fold (min (i * size) n) f
    fold_below-parts zero = let none : 0 ≡ min (0 * size) n = omega arith in is.start part ∙ sym (is.start f) ∙ ap (λ m. fold m f) none
    fold_below-parts (suc i) =
        is.more part i
        ∙ ap (λ m. op m (part i)) (fold_below-parts i)
        ∙ elim (cases_lt n (i * size)) [
          | inl past ↦
              let none : min size (n - i * size) ≡ 0 = omega arith in
              let same : min (i * size) n ≡ min (suc i * size) n = omega (arith, next i) in
              ap (λ m. op (fold (min (i * size) n) f) (fold m (λ k. f (i * size + k)))) none
              ∙ ap (op (fold (min (i * size) n) f)) (is.start (λ k. f (i * size + k)))
              ∙ (is.alone (fold (min (i * size) n) f)).0
              ∙ ap (λ m. fold m f) same
          | inr within ↦
              let here : min (i * size) n ≡ i * size = omega arith in
              let then : i * size + min size (n - i * size) ≡ min (suc i * size) n = omega (arith, next i) in
              ap (λ m. op (fold m f) (part i)) here
              ∙ fold_below-join f (i * size) (min size (n - i * size))
              ∙ ap (λ m. fold m f) then
        ]

pub most_below-same : (f g : ℕ → ℕ) (n : ℕ) → ((k : ℕ) → k < n → f k ≡ g k) → most_below n f ≡ most_below n g
most_below-same = fold_below-same greatest

pub sum_below-plus : (n : ℕ) (f g : ℕ → ℕ) → sum_below n (λ i. f i + g i) ≡ sum_below n f + sum_below n g
sum_below-plus n f g = fold_below-both sums f g n

-- the same sum in two orders
pub sum_below-turned : (m n : ℕ) (f : ℕ → ℕ → ℕ) → sum_below m (λ i. sum_below n (λ j. f i j)) ≡ sum_below n (λ j. sum_below m (λ i. f i j))
sum_below-turned m n f = fold_below-swap sums f m n

pub sum_below-same : (n : ℕ) (f g : ℕ → ℕ) → ((i : ℕ) → i < n → f i ≡ g i) → sum_below n f ≡ sum_below n g
sum_below-same n f g = fold_below-same sums f g n
