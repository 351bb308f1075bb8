-- Sums over lists that change at one place, and how often an index stands in a list.
-- Serves most of the crate and `workers`.
use Rattle.board.proofs.Common.{◌≡◌, ℕ, zero, suc, ◌+◌, ◌<◌, ◌≤◌, ◌≢◌, Bool, List, [], ◌∷◌, ◌++◌, length, set, sym, refl, ap, ◌∙◌, subst, inl, inr, arith, cond, if◌then◌else◌, All, cases_eq, eq-eqb, ne_eqb, cases_lt, All-nil, All-cons, All-head, All-tail, some, some-injective, some-ne-none, get_elem?}
use Rattle.board.specs.Weights.{total, only, times}
use Rattle.board.specs.SeatView.{without}

module _ {A : Type 0} (g : A → ℕ) where
  pub total-append : (l m : List A) → total g (l ++ m) ≡ total g l + total g m
  total-append [] m = omega arith
  total-append (x ∷ xs) m = omega (arith, total-append xs m)

  pub total-set : (l : List A) (j : ℕ) (v w : A) → get_elem? l j ≡ some v → total g (set l j w) + g v ≡ total g l + g w
  total-set [] j v w e = absurd (some-ne-none v (sym e))
  total-set (x ∷ xs) zero v w e = omega (arith, ap g (some-injective x v e))
  total-set (x ∷ xs) (suc j) v w e = omega (arith, total-set xs j v w e)

  pub term_le : (l : List A) (j : ℕ) (v : A) → get_elem? l j ≡ some v → g v ≤ total g l
  term_le [] j v e = absurd (some-ne-none v (sym e))
  term_le (x ∷ xs) zero v e = omega (arith, ap g (some-injective x v e))
  term_le (x ∷ xs) (suc j) v e = omega (arith, term_le xs j v e)

  pub terms_le : (l : List A) (j k : ℕ) (v u : A) → k ≢ j → get_elem? l j ≡ some v → get_elem? l k ≡ some u → g v + g u ≤ total g l
  terms_le [] j k v u n e d = absurd (some-ne-none v (sym e))
  terms_le (x ∷ xs) zero zero v u n e d = absurd (n refl)
  terms_le (x ∷ xs) zero (suc k) v u n e d = omega (arith, ap g (some-injective x v e), term_le xs k u d)
  terms_le (x ∷ xs) (suc j) zero v u n e d = omega (arith, ap g (some-injective x u d), term_le xs j v e)
  terms_le (x ∷ xs) (suc j) (suc k) v u n e d = omega (arith, terms_le xs j k v u (λ h. n (ap suc h)) e d)

  -- where a sum is positive, a term is
  pub positive_term : (l : List A) → 0 < total g l → (k : ℕ) × (v : A) × (get_elem? l k ≡ some v) × (0 < g v)
  positive_term [] h = absurd (omega arith)
  positive_term (x ∷ xs) h = elim (cases_lt 0 (g x)) [
    | inl here ↦ (0, x, refl, here)
    | inr none ↦ let rest = positive_term xs (omega arith) in (suc rest.0, rest.1, rest.2, rest.3)
  ]

  pub total_zero : (l : List A) → ((k : ℕ) (v : A) → get_elem? l k ≡ some v → g v ≡ 0) → total g l ≡ 0
  total_zero [] none = refl
  total_zero (x ∷ xs) none = omega (arith, none 0 x refl, total_zero xs (λ k v e. none (suc k) v e))

-- where one element has the whole weight, and elements without weight count nothing, it has the whole count
pub total_whole : {A : Type 0} (f g : A → ℕ) (l : List A) (j : ℕ) (v : A) → get_elem? l j ≡ some v → total f l ≡ f v → ((k : ℕ) (u : A) → get_elem? l k ≡ some u → f u ≡ 0 → g u ≡ 0) → total g l ≡ g v
total_whole f g [] j v e whole none = absurd (some-ne-none v (sym e))
total_whole f g (x ∷ xs) zero v e whole none =
    let same = some-injective x v e in
    let rest : total f xs ≡ 0 = omega (arith, whole, ap f same) in
    omega (arith, ap g same, total_zero g xs (λ k u d. none (suc k) u d (omega (arith, rest, term_le f xs k u d))))
total_whole f g (x ∷ xs) (suc j) v e whole none =
    let at_least = term_le f xs j v e in
    omega (arith, none 0 x refl (omega (arith, whole, at_least)), total_whole f g xs j v e (omega (arith, whole, at_least)) (λ k u d. none (suc k) u d))

-- a sum of sums
pub total_sum : {A : Type 0} (f g h : A → ℕ) (l : List A) → ((v : A) → h v ≡ f v + g v) → total h l ≡ total f l + total g l
total_sum f g h [] each = refl
total_sum f g h (x ∷ xs) each = omega (arith, each x, total_sum f g h xs each)

pub total_same : {A : Type 0} (f g : A → ℕ) (l : List A) → ((v : A) → f v ≡ g v) → total f l ≡ total g l
total_same f g [] each = refl
total_same f g (x ∷ xs) each = omega (arith, each x, total_same f g xs each)

pub only-same : (k : ℕ) → only k k ≡ 1
only-same k = ap (λ b. cond b 1 0) (eq-eqb k k refl)

pub only-other : (k x : ℕ) → x ≢ k → only k x ≡ 0
only-other k x n = ap (λ b. cond b 1 0) (ne_eqb x k n)

pub only_at : (k x : ℕ) → 0 < only k x → x ≡ k
only_at k x h = elim (cases_eq x k) [
  | inl same ↦ same
  | inr other ↦ absurd (omega (arith, h, only-other k x other))
]

pub only-swap : (k x : ℕ) → only k x ≡ only x k
only-swap k x = elim (cases_eq x k) [
  | inl same ↦ ap (λ n. only n x) (sym same) ∙ ap (only x) same
  | inr other ↦ only-other k x other ∙ sym (only-other x k (λ e. other (sym e)))
]

pub times-without : (i j : ℕ) (xs : List ℕ) → 0 < times i xs → times j (without i xs) + only j i ≡ times j xs
times-without i j [] h = absurd (omega arith)
times-without i j (x ∷ xs) h = elim (cases_eq x i) [
  | inl same ↦ omega (arith, ap (λ (b : Bool). times j (if b then xs else x ∷ without i xs)) (eq-eqb x i same), ap (only j) same)
  | inr other ↦ omega (arith, ap (λ (b : Bool). times j (if b then xs else x ∷ without i xs)) (ne_eqb x i other), times-without i j xs (omega (arith, h, only-other i x other)))
]

-- the weight of the numbers below a bound
abbrev pub upto : (ℕ → ℕ) → ℕ → ℕ
upto f zero = 0
upto f (suc n) = upto f n + f n

pub upto-sum : (f g h : ℕ → ℕ) (n : ℕ) → ((i : ℕ) → h i ≡ f i + g i) → upto h n ≡ upto f n + upto g n
upto-sum f g h zero each = refl
upto-sum f g h (suc n) each = omega (arith, each n, upto-sum f g h n each)

pub upto-none : (f : ℕ → ℕ) (n : ℕ) → ((i : ℕ) → i < n → f i ≡ 0) → upto f n ≡ 0
upto-none f zero none = refl
upto-none f (suc n) none = omega (arith, none n (omega arith), upto-none f n (λ i h. none i (omega arith)))

pub upto-one : (x n : ℕ) → x < n → upto (λ i. only i x) n ≡ 1
upto-one x zero h = absurd (omega arith)
upto-one x (suc n) h = elim (cases_eq x n) [
  | inl same ↦ omega (arith, ap (only n) same, only-same n, upto-none (λ i. only i x) n (λ i less. only-other i x (λ e. omega (arith, e, same, less))))
  | inr other ↦ omega (arith, only-other n x other, upto-one x n (omega (arith, other)))
]

pub upto_most : (f : ℕ → ℕ) (n : ℕ) → ((i : ℕ) → f i ≤ 1) → upto f n ≤ n
upto_most f zero each = omega arith
upto_most f (suc n) each = omega (arith, each n, upto_most f n each)

pub upto_full : (f : ℕ → ℕ) (n i : ℕ) → ((i : ℕ) → f i ≤ 1) → upto f n ≡ n → i < n → f i ≡ 1
upto_full f zero i each full h = absurd (omega arith)
upto_full f (suc n) i each full h = elim (cases_eq i n) [
  | inl same ↦ ap f same ∙ omega (arith, each n, upto_most f n each, full)
  | inr other ↦ upto_full f n i each (omega (arith, each n, upto_most f n each, full)) (omega (arith, h, other))
]

-- a list of numbers below a bound is as long as they stand in it
pub length-upto : (xs : List ℕ) (n : ℕ) → ((i : ℕ) → n ≤ i → times i xs ≡ 0) → length xs ≡ upto (λ i. times i xs) n
length-upto [] n none = sym (upto-none (λ i. 0) n (λ i h. refl))
length-upto (x ∷ xs) n none =
    let below : x < n = elim (cases_lt x n) [
      | inl less ↦ less
      | inr more ↦ absurd (omega (arith, none x more, only-same x))
    ] in
    omega (arith, upto-one x n below, upto-sum (λ i. only i x) (λ i. times i xs) (λ i. times i (x ∷ xs)) n (λ i. refl), length-upto xs n (λ i h. omega (arith, none i h)))

-- and lists of them
pub lengths-upto : {A : Type 0} (lists : A → List ℕ) (l : List A) (n : ℕ) → ((i : ℕ) → n ≤ i → total (λ v. times i (lists v)) l ≡ 0) → total (λ v. length (lists v)) l ≡ upto (λ i. total (λ v. times i (lists v)) l) n
lengths-upto lists [] n none = sym (upto-none (λ i. 0) n (λ i h. refl))
lengths-upto lists (x ∷ xs) n none =
    omega (
      arith,
      length-upto (lists x) n (λ i h. omega (arith, none i h)),
      lengths-upto lists xs n (λ i h. omega (arith, none i h)),
      upto-sum (λ i. times i (lists x)) (λ i. total (λ v. times i (lists v)) xs) (λ i. total (λ v. times i (lists v)) (x ∷ xs)) n (λ i. refl),
    )

-- a sum of terms that are 1 at most is the length of the list exactly where each is 1
pub total_most : (f : ℕ → ℕ) (xs : List ℕ) → ((i : ℕ) → f i ≤ 1) → total f xs ≤ length xs
total_most f [] each = omega arith
total_most f (x ∷ xs) each = omega (arith, each x, total_most f xs each)

pub full_each : (f : ℕ → ℕ) (xs : List ℕ) → ((i : ℕ) → f i ≤ 1) → total f xs ≡ length xs → All (λ j. f j ≡ 1) xs
full_each f [] each full = All-nil (λ j. f j ≡ 1)
full_each f (x ∷ xs) each full = All-cons (λ j. f j ≡ 1) x xs (omega (arith, full, each x, total_most f xs each)) (full_each f xs each (omega (arith, full, each x, total_most f xs each)))

pub each_full : (f : ℕ → ℕ) (xs : List ℕ) → All (λ j. f j ≡ 1) xs → total f xs ≡ length xs
each_full f [] all = refl
each_full f (x ∷ xs) all = omega (arith, All-head (λ j. f j ≡ 1) x xs all, each_full f xs (All-tail (λ j. f j ≡ 1) x xs all))

pub all_times : (P : ℕ → Type 0) (xs : List ℕ) (i : ℕ) → All P xs → 0 < times i xs → P i
all_times P [] i all h = absurd (omega arith)
all_times P (x ∷ xs) i all h = elim (cases_eq x i) [
  | inl here ↦ subst P here (All-head P x xs all)
  | inr other ↦ all_times P xs i (All-tail P x xs all) (omega (arith, h, only-other i x other))
]

pub times_all : (P : ℕ → Type 0) (xs : List ℕ) → ((i : ℕ) → 0 < times i xs → P i) → All P xs
times_all P [] each = All-nil P
times_all P (x ∷ xs) each = All-cons P x xs (each x (omega (arith, only-same x))) (times_all P xs (λ i h. each i (omega (arith, h))))
