-- What the definition picks of candidates, where they stand sorted: the first of them.
-- Serves `Places`, `Sending`, `Sent` and `version_lags`.
use Rattle.model.proofs.Common.{◌≡◌, ℕ, zero, suc, ◌+◌, ◌-◌, ◌<◌, ◌≤◌, Bool, true, false, cond, eqb, leb, List, [], ◌∷◌, length, get_or, take, drop, Option, Some, None, ◌⊎◌, inl, inr, refl, sym, ap, ◌∙◌, subst, arith, count_by, IsPermutation, filter_map, range_with_len, cons_option, IsSorted, Ordering, Less, Equal, Greater, is_lt, ordering_reverse, IsTotalOrder, tied_itself, cases_lt, eq-eqb, eqb-true, le-leb, lt-leb, get_or_default, sum_by-cons, sorted_far, ranks_by, sum_by-IsPermutation, length_permutation, Contains-permutation, IsPermutation-sym}
use Rattle.std.specs.Prelude.{find, Contains}
use Rattle.std.specs.List.{sum_by}
use Rattle.model.specs.Picks.{before_count, at_place, first_places, size_through, fits, sent, cut_count}
use Rattle.model.specs.inner.Fitting.{fitting}
use Rattle.model.proofs.Counts.{count_by-stretch, count_by-not}
use Rattle.model.proofs.Fitting.{length-fitting-le, fitting-is_front, sum-within, sum-beyond}

-- what a search finds passes the test and stands in the list
pub find_passes : {X : Type 0} (p : X → Bool) (xs : List X) (x : X) → find p xs ≡ Some x → p x ≡ true
find_passes p [] x e = cc
find_passes p (y ∷ ys) x e = elim (p y) as (λ b. p y ≡ b → cond b (Some y) (find p ys) ≡ Some x → p x ≡ true) [
  | true ↦ λ is here. subst (λ z. p z ≡ true) (same y x here) is
  | false ↦ λ is later. find_passes p ys x later
] refl e
  where
    same : {X : Type 0} (y x : X) → Some y ≡ Some x → y ≡ x
    same y x e = cc

pub find_stands : {X : Type 0} (p : X → Bool) (xs : List X) (x : X) → find p xs ≡ Some x → Contains xs x
find_stands p [] x e = cc
find_stands p (y ∷ ys) x e = elim (p y) as (λ b. cond b (Some y) (find p ys) ≡ Some x → Contains (y ∷ ys) x) [
  | true ↦ λ here. let same : y ≡ x = cc in (0, omega arith, same)
  | false ↦ λ later. let rest = find_stands p ys x later in (suc rest.0, omega (arith, rest.1), rest.2)
] e

-- where a search finds nothing, nothing passes
pub find_none : {X : Type 0} (p : X → Bool) (xs : List X) → find p xs ≡ None → (k : ℕ) (d : X) → k < length xs → p (get_or xs k d) ≡ false
find_none p [] e k d lt = absurd (omega arith)
find_none p (y ∷ ys) e zero d lt = elim (p y) as (λ b. p y ≡ b → cond b (Some y) (find p ys) ≡ None → p y ≡ false) [ true ↦ λ is here. cc | false ↦ λ is later. is ] refl e
find_none p (y ∷ ys) e (suc k) d lt = find_none p ys (elim (p y) as (λ b. cond b (Some y) (find p ys) ≡ None → find p ys ≡ None) [ true ↦ λ here. cc | false ↦ λ later. later ] e) k d (omega arith)

-- an element at an index, or none past the end
abbrev pub item_from : {X : Type 0} → List X → ℕ → Option X
item_from [] n = None
item_from (x ∷ xs) zero = Some x
item_from (x ∷ xs) (suc n) = item_from xs n

item_from-in_range : {X : Type 0} (xs : List X) (n : ℕ) (d : X) → n < length xs → item_from xs n ≡ Some (get_or xs n d)
item_from-in_range [] n d lt = absurd (omega arith)
item_from-in_range (x ∷ xs) zero d lt = refl
item_from-in_range (x ∷ xs) (suc n) d lt = item_from-in_range xs n d (omega arith)

item_from-past : {X : Type 0} (xs : List X) (n : ℕ) → length xs ≤ n → item_from xs n ≡ None
item_from-past [] n le = refl
item_from-past (x ∷ xs) zero le = absurd (omega arith)
item_from-past (x ∷ xs) (suc n) le = item_from-past xs n (omega arith)

-- to look up index after index is to take the front
nothing_more : {X : Type 0} (at : ℕ → Option X) (a n : ℕ) → ((m : ℕ) → at (a + m) ≡ None) → filter_map at (range_with_len a n) ≡ []
nothing_more at a zero none = refl
nothing_more at a (suc n) none =
    ap (λ o. cons_option o (filter_map at (range_with_len (a + 1) n))) (ap at {x = a} {y = a + 0} (omega arith) ∙ none 0)
    ∙ nothing_more at (a + 1) n (λ m. ap at {x = a + 1 + m} {y = a + (m + 1)} (omega arith) ∙ none (m + 1))

take_by_places : {X : Type 0} (xs : List X) (at : ℕ → Option X) (a n : ℕ) → ((m : ℕ) → at (a + m) ≡ item_from xs m) → filter_map at (range_with_len a n) ≡ take n xs
take_by_places xs at a zero places = refl
take_by_places [] at a (suc n) places = nothing_more at a (suc n) places
take_by_places (x ∷ xs) at a (suc n) places =
    ap (λ o. cons_option o (filter_map at (range_with_len (a + 1) n))) (ap at {x = a} {y = a + 0} (omega arith) ∙ places 0)
    ∙ ap (λ ys. x ∷ ys) (take_by_places xs at (a + 1) n (λ m. ap at {x = a + 1 + m} {y = a + suc m} (omega arith) ∙ places (suc m)))

-- a sum to which nothing behind a front adds
sum_by-front : {X : Type 0} (p : X → Bool) (size : X → ℕ) (xs : List X) (n : ℕ) → n ≤ length xs → ((i : ℕ) (d : X) → i < n → p (get_or xs i d) ≡ false) → ((i : ℕ) (d : X) → n ≤ i → i < length xs → p (get_or xs i d) ≡ true) → sum_by (λ x. cond (p x) 0 (size x)) xs ≡ sum_by size (take n xs)
sum_by-front p size [] zero le through beyond = refl
sum_by-front p size [] (suc n) le through beyond = absurd (omega arith)
sum_by-front p size (x ∷ xs) zero le through beyond =
    sum_by-cons (λ y. cond (p y) 0 (size y)) x xs
    ∙ ap (λ b. cond b 0 (size x) + sum_by (λ y. cond (p y) 0 (size y)) xs) (beyond 0 x (omega arith) (omega arith))
    ∙ ap (λ n. 0 + n) (sum_by-front p size xs zero (omega arith) (λ i d lt. absurd (omega arith)) (λ i d from lt. beyond (suc i) d (omega arith) (omega arith)))
    ∙ omega arith
sum_by-front p size (x ∷ xs) (suc n) le through beyond =
    sum_by-cons (λ y. cond (p y) 0 (size y)) x xs
    ∙ ap (λ b. cond b 0 (size x) + sum_by (λ y. cond (p y) 0 (size y)) xs) (through 0 x (omega arith))
    ∙ ap (λ m. size x + m) (sum_by-front p size xs n (omega arith) (λ i d lt. through (suc i) d (omega arith)) (λ i d from lt. beyond (suc i) d (omega arith) (omega arith)))
    ∙ sym (sum_by-cons size x (take n xs))

module _ {X : Type 0} (order : X → X → Ordering) (total : IsTotalOrder order) (candidates sorted : List X) (none : X) (same : IsPermutation candidates sorted) (rises : IsSorted order sorted) (apart : (j k : ℕ) → j < length sorted → k < length sorted → order (get_or sorted j none) (get_or sorted k none) ≡ Equal → j ≡ k) where
  -- of two the earlier comes before
  earlier : (j k : ℕ) → j < k → k < length sorted → order (get_or sorted j none) (get_or sorted k none) ≡ Less
  earlier j k lt in_range =
      let later_not_less = sorted_far (λ a b. is_lt (order a b)) (ranks_by total (λ (x : X). x)) sorted rises j k none (omega arith) in_range in
      elim (order (get_or sorted j none) (get_or sorted k none)) as (λ r. order (get_or sorted j none) (get_or sorted k none) ≡ r → r ≡ Less) [
        | Less ↦ λ e. refl
        | Equal ↦ λ e. absurd (omega (arith, apart j k (omega arith) in_range e))
        | Greater ↦ λ e. let turned : order (get_or sorted k none) (get_or sorted j none) ≡ Less = total.antisymm (get_or sorted k none) (get_or sorted j none) ∙ ap ordering_reverse e in
            let less : is_lt (order (get_or sorted k none) (get_or sorted j none)) ≡ true = ap is_lt turned in cc
      ] refl

  -- so many come before the one at index j
  count_at : (j : ℕ) → j < length sorted → before_count order candidates (get_or sorted j none) ≡ j
  count_at j lt =
      sym (sum_by-IsPermutation (λ d. cond (is_lt (order d (get_or sorted j none))) 1 0) candidates sorted same)
      ∙ count_by-stretch (λ d. is_lt (order d (get_or sorted j none))) sorted 0 j (omega arith) (omega arith) holds fails
      ∙ omega arith
    where
      holds : (i : ℕ) (d : X) → 0 ≤ i → i < j → is_lt (order (get_or sorted i d) (get_or sorted j none)) ≡ true
      holds i d from to = ap (λ x. is_lt (order x (get_or sorted j none))) (get_or_default sorted i d none (omega arith)) ∙ ap is_lt (earlier i j to lt)

      fails : (i : ℕ) (d : X) → i < length sorted → (i < 0) ⊎ (j ≤ i) → is_lt (order (get_or sorted i d) (get_or sorted j none)) ≡ false
      fails i d in_range (inl early) = absurd (omega arith)
      fails i d in_range (inr late) =
          ap (λ x. is_lt (order x (get_or sorted j none))) (get_or_default sorted i d none in_range)
          ∙ elim (cases_lt j i) [
            | inl behind ↦ ap is_lt (total.antisymm (get_or sorted i none) (get_or sorted j none) ∙ ap ordering_reverse (earlier j i behind in_range))
            | inr not_behind ↦ let here : i ≡ j = omega arith in ap is_lt (ap (λ k. order (get_or sorted k none) (get_or sorted j none)) here ∙ tied_itself total (get_or sorted j none))
          ]

  -- a candidate stands at an index of the sorted list
  index_of : (x : X) → Contains candidates x → (j : ℕ) × (j < length sorted) × (get_or sorted j none ≡ x)
  index_of x stands = let there = Contains-permutation candidates sorted x same stands in (there.0, there.1, get_or_default sorted there.0 none x there.1 ∙ there.2)

  place_found : (m : ℕ) (x : X) → at_place order candidates m ≡ Some x → (m < length sorted) × (x ≡ get_or sorted m none)
  place_found m x e =
      let there = index_of x (find_stands (λ c. eqb (before_count order candidates c) m) candidates x e) in
      let counted : before_count order candidates x ≡ m = eqb-true (before_count order candidates x) m (find_passes (λ c. eqb (before_count order candidates c) m) candidates x e) in
      let index : there.0 ≡ m = sym (count_at there.0 there.1) ∙ ap (before_count order candidates) there.2 ∙ counted in
      (subst (λ n. n < length sorted) index there.1, sym there.2 ∙ ap (λ n. get_or sorted n none) index)

  -- the definition's place m is index m
  at_place-is : (m : ℕ) → at_place order candidates m ≡ item_from sorted m
  at_place-is m =
      elim (at_place order candidates m) as (λ o. at_place order candidates m ≡ o → o ≡ item_from sorted m) [
        | Some x ↦ λ e. let found = place_found m x e in ap Some found.1 ∙ sym (item_from-in_range sorted m none found.0)
        | None ↦ λ e. elim (cases_lt m (length sorted)) [
          | inl lt ↦ absurd (missed e lt)
          | inr past ↦ sym (item_from-past sorted m past)
        ]
      ] refl
    where
      missed : at_place order candidates m ≡ None → m < length sorted → ⊥
      missed e lt =
          let x = get_or sorted m none in
          let stands = Contains-permutation sorted candidates x (IsPermutation-sym candidates sorted same) (m, lt, get_or_default sorted m x none lt) in
          let fails : eqb (before_count order candidates (get_or candidates stands.0 x)) m ≡ false = find_none (λ c. eqb (before_count order candidates c) m) candidates e stands.0 x stands.1 in
          let passes : eqb (before_count order candidates (get_or candidates stands.0 x)) m ≡ true = eq-eqb (before_count order candidates (get_or candidates stands.0 x)) m (ap (before_count order candidates) stands.2 ∙ count_at m lt) in
          Rattle.std.proofs.lemmas.Bool.both_ways _ fails passes

  pub first_places-is : (n : ℕ) → first_places order candidates n ≡ take n sorted
  first_places-is n = take_by_places sorted (at_place order candidates) 0 n (λ m. ap (at_place order candidates) {x = 0 + m} {y = m} (omega arith) ∙ at_place-is m)

  module _ (size : X → ℕ) where
    -- the sizes up to the one at index j are those of the first j + 1
    size_through-at : (j : ℕ) → j < length sorted → size_through order candidates size (get_or sorted j none) ≡ sum_by size (take (suc j) sorted)
    size_through-at j lt =
        sym (sum_by-IsPermutation (λ d. cond (is_lt (order (get_or sorted j none) d)) 0 (size d)) candidates sorted same)
        ∙ sum_by-front (λ d. is_lt (order (get_or sorted j none) d)) size sorted (suc j) (omega arith) through beyond
      where
        through : (i : ℕ) (d : X) → i < suc j → is_lt (order (get_or sorted j none) (get_or sorted i d)) ≡ false
        through i d to =
            ap (λ x. is_lt (order (get_or sorted j none) x)) (get_or_default sorted i d none (omega arith))
            ∙ elim (cases_lt i j) [
              | inl before ↦ ap is_lt (total.antisymm (get_or sorted j none) (get_or sorted i none) ∙ ap ordering_reverse (earlier i j before lt))
              | inr not_before ↦ let here : i ≡ j = omega arith in ap is_lt (ap (λ k. order (get_or sorted j none) (get_or sorted k none)) here ∙ tied_itself total (get_or sorted j none))
            ]

        beyond : (i : ℕ) (d : X) → suc j ≤ i → i < length sorted → is_lt (order (get_or sorted j none) (get_or sorted i d)) ≡ true
        beyond i d from in_range =
            ap (λ x. is_lt (order (get_or sorted j none) x)) (get_or_default sorted i d none in_range)
            ∙ ap is_lt (earlier j i (omega arith) in_range)

    -- as many fit as the longest beginning that fits has
    pub fits-count : (budget : ℕ) → count_by (fits order candidates size budget) candidates ≡ length (fitting size budget sorted)
    fits-count budget =
        sym (sum_by-IsPermutation (λ c. cond (fits order candidates size budget c) 1 0) candidates sorted same)
        ∙ count_by-stretch (fits order candidates size budget) sorted 0 (length (fitting size budget sorted)) (omega arith) (length-fitting-le size budget sorted) holds fails
        ∙ omega arith
      where
        at : (i : ℕ) (d : X) → i < length sorted → fits order candidates size budget (get_or sorted i d) ≡ leb (sum_by size (take (suc i) sorted)) budget
        at i d lt = ap (fits order candidates size budget) (get_or_default sorted i d none lt) ∙ ap (λ n. leb n budget) (size_through-at i lt)

        holds : (i : ℕ) (d : X) → 0 ≤ i → i < length (fitting size budget sorted) → fits order candidates size budget (get_or sorted i d) ≡ true
        holds i d from to = at i d (omega (arith, length-fitting-le size budget sorted)) ∙ le-leb (sum_by size (take (suc i) sorted)) budget (sum-within size budget sorted i to)

        fails : (i : ℕ) (d : X) → i < length sorted → (i < 0) ⊎ (length (fitting size budget sorted) ≤ i) → fits order candidates size budget (get_or sorted i d) ≡ false
        fails i d lt (inl early) = absurd (omega arith)
        fails i d lt (inr late) = at i d lt ∙ lt-leb (sum_by size (take (suc i) sorted)) budget (sum-beyond size budget sorted i late lt)

    pub sent-is : (budget : ℕ) → sent order candidates size budget ≡ fitting size budget sorted
    sent-is budget =
        ap (first_places order candidates) (fits-count budget)
        ∙ first_places-is (length (fitting size budget sorted))
        ∙ sym (fitting-is_front size budget sorted)

    pub cut_count-is : (budget : ℕ) → cut_count order candidates size budget ≡ length sorted - length (fitting size budget sorted)
    cut_count-is budget = omega (arith, fits-count budget, count_by-not (fits order candidates size budget) candidates, length_permutation candidates sorted same)
