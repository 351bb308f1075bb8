-- Candidates stand at different places, and the rotation turns different owners to different turns.
-- Serves `Levels`, `delta_plans` and `reconcile`.
use Rattle.model.proofs.Common.{◌≡◌, ℕ, zero, suc, ◌+◌, ◌-◌, ◌%◌, ◌<◌, ◌≤◌, Bool, true, false, cond, ◌&&◌, eqb, List, [], ◌∷◌, length, get_or, ◌⊎◌, inl, inr, refl, sym, ap, ◌∙◌, subst, arith, count_by, filter, IsPermutation, Less, Equal, tied_itself, mod-eq_of_lt, add-mod_right, cases_lt, eq-eqb, eqb-true, sum_by-IsPermutation, Item}
use Rattle.model.specs.Table.{place_cmp}
use Rattle.model.specs.inner.Items.{no_item, place_of, IsRising}
use Rattle.model.proofs.Order.{place_total}
use Rattle.model.proofs.Rising.{rising_at, rising_tail}
use Rattle.model.specs.Order.{rotated}
use Rattle.model.proofs.Counts.{count_by-cons_true, count_by-cons_false, count_by-stretch}

-- whether an item stands at the place
abbrev stands_at : ℕ → ℕ → Item → Bool
stands_at owner key i = eqb i.owner owner && eqb i.entry.key key

counted : (p : Item → Bool) (xs : List Item) (k : ℕ) (d : Item) → k < length xs → p (get_or xs k d) ≡ true → 1 ≤ count_by p xs
counted p [] k d lt e = absurd (omega arith)
counted p (x ∷ xs) zero d lt e = omega (arith, count_by-cons_true p x xs e)
counted p (x ∷ xs) (suc k) d lt e =
    elim (p x) as (λ b. p x ≡ b → 1 ≤ count_by p (x ∷ xs)) [
      | true ↦ λ is. omega (arith, count_by-cons_true p x xs is)
      | false ↦ λ is. omega (arith, count_by-cons_false p x xs is, counted p xs k d (omega arith) e)
    ] refl

counted_twice : (p : Item → Bool) (xs : List Item) (j k : ℕ) (d : Item) → j < k → k < length xs → p (get_or xs j d) ≡ true → p (get_or xs k d) ≡ true → 2 ≤ count_by p xs
counted_twice p [] j k d lt in_range a b = absurd (omega arith)
counted_twice p (x ∷ xs) j zero d lt in_range a b = absurd (omega arith)
counted_twice p (x ∷ xs) zero (suc k) d lt in_range a b = omega (arith, count_by-cons_true p x xs a, counted p xs k d (omega arith) b)
counted_twice p (x ∷ xs) (suc j) (suc k) d lt in_range a b =
    elim (p x) as (λ c. p x ≡ c → 2 ≤ count_by p (x ∷ xs)) [
      | true ↦ λ is. omega (arith, count_by-cons_true p x xs is, counted_twice p xs j k d (omega arith) (omega arith) a b)
      | false ↦ λ is. omega (arith, count_by-cons_false p x xs is, counted_twice p xs j k d (omega arith) (omega arith) a b)
    ] refl

count_by-filter-le : (p q : Item → Bool) (xs : List Item) → count_by p (filter q xs) ≤ count_by p xs
count_by-filter-le p q [] = omega arith
count_by-filter-le p q (x ∷ xs) =
    let rest = count_by-filter-le p q xs in
    elim (q x) as (λ b. count_by p (cond b (x ∷ filter q xs) (filter q xs)) ≤ count_by p (x ∷ xs)) [
      | true ↦ elim (p x) as (λ b. p x ≡ b → count_by p (x ∷ filter q xs) ≤ count_by p (x ∷ xs)) [
        | true ↦ λ is. omega (arith, rest, count_by-cons_true p x (filter q xs) is, count_by-cons_true p x xs is)
        | false ↦ λ is. omega (arith, rest, count_by-cons_false p x (filter q xs) is, count_by-cons_false p x xs is)
      ] refl
      | false ↦ elim (p x) as (λ b. p x ≡ b → count_by p (filter q xs) ≤ count_by p (x ∷ xs)) [
        | true ↦ λ is. omega (arith, rest, count_by-cons_true p x xs is)
        | false ↦ λ is. omega (arith, rest, count_by-cons_false p x xs is)
      ] refl
    ]

-- behind an item of a rising list none stands at its place
none_behind : (owner key : ℕ) (x : Item) (xs : List Item) → IsRising (x ∷ xs) → stands_at owner key x ≡ true → (i : ℕ) (d : Item) → i < length xs → stands_at owner key (get_or xs i d) ≡ false
none_behind owner key x xs rising here i d lt =
    elim (stands_at owner key (get_or xs i d)) as (λ b. stands_at owner key (get_or xs i d) ≡ b → b ≡ false) [
      | true ↦ λ is. absurd (clash (both_places x here) (both_places (get_or xs i d) is))
      | false ↦ λ is. refl
    ] refl
  where
    both_places : (y : Item) → stands_at owner key y ≡ true → (y.owner ≡ owner) × (y.entry.key ≡ key)
    both_places y e = elim (eqb y.owner owner) as (λ b. eqb y.owner owner ≡ b → (b && eqb y.entry.key key) ≡ true → (y.owner ≡ owner) × (y.entry.key ≡ key)) [
      | true ↦ λ o k. (eqb-true y.owner owner o, eqb-true y.entry.key key k)
      | false ↦ λ o k. cc
    ] refl e

    clash : (x.owner ≡ owner) × (x.entry.key ≡ key) → ((get_or xs i d).owner ≡ owner) × ((get_or xs i d).entry.key ≡ key) → ⊥
    clash a b =
        let same : place_of (get_or xs i d) ≡ place_of x = λ j. ((b.0 ∙ sym a.0) j, (b.1 ∙ sym a.1) j) in
        let less = rising_at (x ∷ xs) 0 (suc i) x d rising (omega arith) (omega arith) in
        let tied : place_cmp (place_of x) (place_of (get_or xs i d)) ≡ Equal = subst (λ p. place_cmp (place_of x) p ≡ Equal) (sym same) (tied_itself place_total (place_of x)) in
        let impossible : Less ≡ Equal = sym less ∙ tied in cc

-- at most one item of a rising list stands at a place
one_at_place : (owner key : ℕ) (xs : List Item) → IsRising xs → count_by (stands_at owner key) xs ≤ 1
one_at_place owner key [] rising = omega arith
one_at_place owner key (x ∷ xs) rising =
    elim (stands_at owner key x) as (λ b. stands_at owner key x ≡ b → count_by (stands_at owner key) (x ∷ xs) ≤ 1) [
      | true ↦ λ is. let none : count_by (stands_at owner key) xs ≡ 0 = count_by-stretch (stands_at owner key) xs 0 0 (omega arith) (omega arith) (λ i d from to. absurd (omega arith)) (λ i d lt outside. none_behind owner key x xs rising is i d lt) in
          omega (arith, none, count_by-cons_true (stands_at owner key) x xs is)
      | false ↦ λ is. omega (arith, one_at_place owner key xs (rising_tail x xs rising), count_by-cons_false (stands_at owner key) x xs is)
    ] refl

-- two items of candidates in any order that stand at one place are one
pub same_place : (q : Item → Bool) (xs sorted : List Item) → IsRising xs → IsPermutation (filter q xs) sorted → (j k : ℕ) → j < length sorted → k < length sorted → (get_or sorted j no_item).owner ≡ (get_or sorted k no_item).owner → (get_or sorted j no_item).entry.key ≡ (get_or sorted k no_item).entry.key → j ≡ k
same_place q xs sorted rising same j k in_j in_k owners keys =
    elim (cases_lt j k) [
      | inl before ↦ absurd (twice j k before in_k refl refl (sym owners) (sym keys))
      | inr not_before ↦ elim (cases_lt k j) [
        | inl behind ↦ absurd (twice k j behind in_j refl refl owners keys)
        | inr not_behind ↦ omega arith
      ]
    ]
  where
    twice : (a b : ℕ) → a < b → b < length sorted → (get_or sorted a no_item).owner ≡ (get_or sorted a no_item).owner → (get_or sorted a no_item).entry.key ≡ (get_or sorted a no_item).entry.key → (get_or sorted b no_item).owner ≡ (get_or sorted a no_item).owner → (get_or sorted b no_item).entry.key ≡ (get_or sorted a no_item).entry.key → ⊥
    twice a b lt in_b ao ak bo bk =
        let o = (get_or sorted a no_item).owner in
        let key = (get_or sorted a no_item).entry.key in
        let here : stands_at o key (get_or sorted a no_item) ≡ true = rw (eq-eqb o o refl, eq-eqb key key refl) refl in
        let there : stands_at o key (get_or sorted b no_item) ≡ true = rw (eq-eqb (get_or sorted b no_item).owner o bo, eq-eqb (get_or sorted b no_item).entry.key key bk) refl in
        let moved : count_by (stands_at o key) sorted ≡ count_by (stands_at o key) (filter q xs) = sum_by-IsPermutation (λ i. cond (stands_at o key i) 1 0) (filter q xs) sorted same in
        omega (arith, counted_twice (stands_at o key) sorted a b no_item lt in_b here there, moved, count_by-filter-le (stands_at o key) q xs, one_at_place o key xs rising)

-- what the rotation turns
pub rotated-is : (ns s o : ℕ) → s < ns → o < ns → ((s ≤ o) × (rotated ns s o ≡ o - s)) ⊎ ((o < s) × (rotated ns s o ≡ o + ns - s))
rotated-is ns s o in_s in_o = elim (cases_lt o s) [
  | inl before ↦ inr (before, mod-eq_of_lt {n = o + ns - s} {m = ns} (omega arith))
  | inr from ↦ inl (from, ap (λ n. n % ns) {x = o + ns - s} {y = (o - s) + ns} (omega arith) ∙ add-mod_right (o - s) ns ∙ mod-eq_of_lt {n = o - s} {m = ns} (omega arith))
]

pub rotated-injective : (ns s o p : ℕ) → s < ns → o < ns → p < ns → rotated ns s o ≡ rotated ns s p → o ≡ p
rotated-injective ns s o p in_s in_o in_p e = elim (rotated-is ns s o in_s in_o) [
  | inl a ↦ elim (rotated-is ns s p in_s in_p) [ inl b ↦ omega (arith, a.0, a.1, b.0, b.1, e) | inr b ↦ absurd (omega (arith, a.0, a.1, b.0, b.1, e)) ]
  | inr a ↦ elim (rotated-is ns s p in_s in_p) [ inl b ↦ absurd (omega (arith, a.0, a.1, b.0, b.1, e)) | inr b ↦ omega (arith, a.0, a.1, b.0, b.1, e) ]
]
