-- What a budget lets through of candidates in a strict total order: those with few enough before them.
-- Serves `DeltaLaws`, `Levels`, `StateDeltas` and `delta_plans`.
use Rattle.model.proofs.Common.{◌≡◌, ℕ, zero, suc, ◌+◌, ◌<◌, ◌≤◌, Bool, true, false, cond, not, eqb, List, [], ◌∷◌, length, get_or, Option, Some, None, inl, inr, refl, sym, ap, ◌∙◌, subst, arith, count_by, filter_map, range_with_len, cons_option, Ordering, Less, Equal, Greater, is_lt, ordering_reverse, IsTotalOrder, tied_itself, both_ways, eq-eqb, eqb-true, le-leb, get_or_default, sum_by-cons}
use Rattle.std.specs.Prelude.{find, Contains}
use Rattle.std.specs.List.{sum_by}
use Rattle.model.specs.Picks.{before_count, at_place, first_places, size_through, fits, sent, cut_count}
use Rattle.model.proofs.Counts.{count_by-cons_true, count_by-cons_false, count_by-stretch, count_by-not}
use Rattle.model.proofs.Picked.{find_passes, find_stands, find_none}

-- a weaker test passes no fewer, and more where it alone passes one
pub count_by-le : {X : Type 0} (p q : X → Bool) (xs : List X) → ((x : X) → p x ≡ true → q x ≡ true) → count_by p xs ≤ count_by q xs
count_by-le p q [] weaker = omega arith
count_by-le p q (x ∷ xs) weaker =
    let rest = count_by-le p q xs weaker in
    elim (p x) as (λ b. p x ≡ b → count_by p (x ∷ xs) ≤ count_by q (x ∷ xs)) [
      | true ↦ λ is. omega (arith, rest, count_by-cons_true p x xs is, count_by-cons_true q x xs (weaker x is))
      | false ↦ λ is. elim (q x) as (λ b. q x ≡ b → count_by p (x ∷ xs) ≤ count_by q (x ∷ xs)) [
        | true ↦ λ also. omega (arith, rest, count_by-cons_false p x xs is, count_by-cons_true q x xs also)
        | false ↦ λ nor. omega (arith, rest, count_by-cons_false p x xs is, count_by-cons_false q x xs nor)
      ] refl
    ] refl

pub count_by-lt : {X : Type 0} (p q : X → Bool) (xs : List X) → ((x : X) → p x ≡ true → q x ≡ true) → (y : X) → Contains xs y → p y ≡ false → q y ≡ true → count_by p xs < count_by q xs
count_by-lt p q [] weaker y (k, lt, is) fails passes = absurd (omega arith)
count_by-lt p q (x ∷ xs) weaker y (zero, lt, is) fails passes =
    omega (arith, count_by-le p q xs weaker, count_by-cons_false p x xs (subst (λ z. p z ≡ false) (sym is) fails), count_by-cons_true q x xs (subst (λ z. q z ≡ true) (sym is) passes))
count_by-lt p q (x ∷ xs) weaker y (suc k, lt, is) fails passes =
    let rest = count_by-lt p q xs weaker y (k, omega arith, is) fails passes in
    elim (p x) as (λ b. p x ≡ b → count_by p (x ∷ xs) < count_by q (x ∷ xs)) [
      | true ↦ λ yes'. omega (arith, rest, count_by-cons_true p x xs yes', count_by-cons_true q x xs (weaker x yes'))
      | false ↦ λ no'. elim (q x) as (λ b. q x ≡ b → count_by p (x ∷ xs) < count_by q (x ∷ xs)) [
        | true ↦ λ also. omega (arith, rest, count_by-cons_false p x xs no', count_by-cons_true q x xs also)
        | false ↦ λ nor. omega (arith, rest, count_by-cons_false p x xs no', count_by-cons_false q x xs nor)
      ] refl
    ] refl

pub count_by-lt-length : {X : Type 0} (p : X → Bool) (xs : List X) (y : X) → Contains xs y → p y ≡ false → count_by p xs < length xs
count_by-lt-length p [] y (k, lt, is) fails = absurd (omega arith)
count_by-lt-length p (x ∷ xs) y (zero, lt, is) fails =
    omega (arith, Rattle.std.proofs.lemmas.List.Sums.count_by-le-length p xs, count_by-cons_false p x xs (subst (λ z. p z ≡ false) (sym is) fails))
count_by-lt-length p (x ∷ xs) y (suc k, lt, is) fails =
    let rest = count_by-lt-length p xs y (k, omega arith, is) fails in
    elim (p x) as (λ b. p x ≡ b → count_by p (x ∷ xs) < length (x ∷ xs)) [
      | true ↦ λ yes'. omega (arith, rest, count_by-cons_true p x xs yes')
      | false ↦ λ no'. omega (arith, rest, count_by-cons_false p x xs no')
    ] refl

-- what is left out of a sum makes it no greater
sum_by-part : {X : Type 0} (p : X → Bool) (size : X → ℕ) (xs : List X) → sum_by (λ x. cond (p x) 0 (size x)) xs ≤ sum_by size xs
sum_by-part p size [] = omega arith
sum_by-part p size (x ∷ xs) =
    let rest = sum_by-part p size xs in
    let whole = sum_by-cons size x xs in
    let part = sum_by-cons (λ y. cond (p y) 0 (size y)) x xs in
    elim (p x) as (λ b. sum_by (λ y. cond (p y) 0 (size y)) (x ∷ xs) ≡ cond b 0 (size x) + sum_by (λ y. cond (p y) 0 (size y)) xs → sum_by (λ y. cond (p y) 0 (size y)) (x ∷ xs) ≤ sum_by size (x ∷ xs)) [
      | true ↦ λ e. omega (arith, rest, whole, e)
      | false ↦ λ e. omega (arith, rest, whole, e)
    ] part

-- what a search finds where something passes
found : {X : Type 0} (p : X → Bool) (xs : List X) (x : X) → Contains xs x → p x ≡ true → (y : X) × (find p xs ≡ Some y)
found {X} p xs x stands passes = elim (find p xs) as (λ o. find p xs ≡ o → (y : X) × (o ≡ Some y)) [
  | Some y ↦ λ e. (y, refl)
  | None ↦ λ e. absurd (both_ways (p x) (subst (λ z. p z ≡ false) stands.2 (find_none p xs e stands.0 x stands.1)) passes)
] refl

-- what is looked up at n places from a on
abbrev held : {X : Type 0} → (ℕ → Option X) → ℕ → ℕ → List X
held at a n = filter_map at (range_with_len a n)

-- an element that stands at one of the places from a up to b
abbrev Stands : {X : Type 0} → (ℕ → Option X) → ℕ → ℕ → X → Type 0
Stands at a b x = (m : ℕ) × (a ≤ m) × (m < b) × (at m ≡ Some x)

-- what is looked up stands at one of them
looked_up : {X : Type 0} (at : ℕ → Option X) (a n : ℕ) (x : X) → Contains (held at a n) x → Stands at a (a + n) x
looked_up at a zero x (k, lt, is) = absurd (omega arith)
looked_up {X} at a (suc n) x stands =
    elim (at a) as (λ o. at a ≡ o → Contains (cons_option o (held at (a + 1) n)) x → Stands at a (a + suc n) x) [
      | None ↦ λ e there. later (looked_up at (a + 1) n x there)
      | Some y ↦ λ e there. first_or_later y e there.0 there.1 there.2 (λ k lt is. looked_up at (a + 1) n x (k, lt, is))
    ] refl stands
  where
    later : Stands at (a + 1) (a + 1 + n) x → Stands at a (a + suc n) x
    later rest = (rest.0, omega (arith, rest.1), omega (arith, rest.2), rest.3)

    first_or_later : (y : X) → at a ≡ Some y → (k : ℕ) → k < length (y ∷ held at (a + 1) n) → get_or (y ∷ held at (a + 1) n) k x ≡ x → ((i : ℕ) → i < length (held at (a + 1) n) → get_or (held at (a + 1) n) i x ≡ x → Stands at (a + 1) (a + 1 + n) x) → Stands at a (a + suc n) x
    first_or_later y e zero lt is rest = (a, omega arith, omega arith, e ∙ ap Some is)
    first_or_later y e (suc k) lt is rest = later (rest k (omega arith) is)

-- and what stands at one of them is looked up
looks_up : {X : Type 0} (at : ℕ → Option X) (a n m : ℕ) (x : X) → a ≤ m → m < a + n → at m ≡ Some x → Contains (held at a n) x
looks_up at a zero m x from to is = absurd (omega arith)
looks_up {X} at a (suc n) m x from to is = elim (Rattle.std.proofs.lemmas.Bool.cases_lt a m) [
  | inl later ↦ behind (at a) (looks_up at (a + 1) n m x (omega arith) (omega arith) is)
  | inr here ↦
      let same : at a ≡ Some x = ap at {x = a} {y = m} (omega arith) ∙ is in
      subst (λ o. Contains (cons_option o (held at (a + 1) n)) x) (sym same) (0, omega arith, refl)
]
  where
    behind : (o : Option X) → Contains (held at (a + 1) n) x → Contains (cons_option o (held at (a + 1) n)) x
    behind None there = there
    behind (Some y) (k, lt, e) = (suc k, omega arith, e)

-- two elements that stand at places from a on, the first at the smaller one
abbrev Rise : {X : Type 0} → (ℕ → Option X) → ℕ → X → X → Type 0
Rise at a x y = (m : ℕ) × (l : ℕ) × (a ≤ m) × (m < l) × (at m ≡ Some x) × (at l ≡ Some y)

-- of two that are looked up the earlier stands at the smaller place
places_rise : {X : Type 0} (at : ℕ → Option X) (a n j k : ℕ) (d : X) → j < k → k < length (held at a n) → Rise at a (get_or (held at a n) j d) (get_or (held at a n) k d)
places_rise at a zero j k d lt in_range = absurd (omega arith)
places_rise {X} at a (suc n) j k d lt in_range =
    elim (at a) as (λ o. at a ≡ o → k < length (cons_option o (held at (a + 1) n)) → Rise at a (get_or (cons_option o (held at (a + 1) n)) j d) (get_or (cons_option o (held at (a + 1) n)) k d)) [
      | None ↦ λ e short. later _ _ (places_rise at (a + 1) n j k d lt short)
      | Some y ↦ λ e short. behind y e j k lt short (λ j' k' lt' short'. places_rise at (a + 1) n j' k' d lt' short')
    ] refl in_range
  where
    later : (x y : X) → Rise at (a + 1) x y → Rise at a x y
    later x y rest = (rest.0, rest.1, omega (arith, rest.2), rest.3, rest.4, rest.5)

    behind : (y : X) → at a ≡ Some y → (j k : ℕ) → j < k → k < length (y ∷ held at (a + 1) n) → ((j k : ℕ) → j < k → k < length (held at (a + 1) n) → Rise at (a + 1) (get_or (held at (a + 1) n) j d) (get_or (held at (a + 1) n) k d)) → Rise at a (get_or (y ∷ held at (a + 1) n) j d) (get_or (y ∷ held at (a + 1) n) k d)
    behind y e j zero lt short rest = absurd (omega arith)
    behind y e zero (suc k) lt short rest =
        let there = looked_up at (a + 1) n (get_or (held at (a + 1) n) k d) (k, omega arith, get_or_default (held at (a + 1) n) k _ d (omega arith)) in
        (a, there.0, omega arith, omega (arith, there.1), e, there.3)
    behind y e (suc j) (suc k) lt short rest = later _ _ (rest j k (omega arith) (omega arith))

module _ {X : Type 0} (order : X → X → Ordering) (total : IsTotalOrder order) (cs : List X) where
  less : (x : X) (r : Ordering) → is_lt r ≡ true → r ≡ Less
  less x Less e = refl
  less x Equal e = cc
  less x Greater e = cc

  -- a candidate that comes before another has fewer before it
  pub before_count-lt : (c d : X) → Contains cs c → order c d ≡ Less → before_count order cs c < before_count order cs d
  before_count-lt c d stands e =
      count_by-lt (λ x. is_lt (order x c)) (λ x. is_lt (order x d)) cs
      (λ x before. ap is_lt (total.trans x c d (less x (order x c) before) e)) c stands (ap is_lt (tied_itself total c)) (ap is_lt e)

  -- what stands at one of the first places is a candidate with few enough before it
  pub Contains-first_places : (n : ℕ) (x : X) → Contains (first_places order cs n) x → Contains cs x × (before_count order cs x < n)
  Contains-first_places n x stands =
      let place = looked_up (at_place order cs) 0 n x stands in
      let is = eqb-true (before_count order cs x) place.0 (find_passes (λ c. eqb (before_count order cs c) place.0) cs x place.3) in
      (find_stands (λ c. eqb (before_count order cs c) place.0) cs x place.3, omega (arith, place.2, is))

  -- what stands earlier has fewer before it
  pub before_count-places : (n j k : ℕ) (d : X) → j < k → k < length (first_places order cs n) → before_count order cs (get_or (first_places order cs n) j d) < before_count order cs (get_or (first_places order cs n) k d)
  before_count-places n j k d lt in_range =
      let places = places_rise (at_place order cs) 0 n j k d lt in_range in
      let x = get_or (first_places order cs n) j d in
      let y = get_or (first_places order cs n) k d in
      let first = eqb-true (before_count order cs x) places.0 (find_passes (λ c. eqb (before_count order cs c) places.0) cs x places.4) in
      let second = eqb-true (before_count order cs y) places.1 (find_passes (λ c. eqb (before_count order cs c) places.1) cs y places.5) in
      omega (arith, first, second, places.3)

  -- each has fewer before it than there are candidates
  pub before_count-lt-length : (x : X) → Contains cs x → before_count order cs x < length cs
  before_count-lt-length x stands = count_by-lt-length (λ y. is_lt (order y x)) cs x stands (ap is_lt (tied_itself total x))

  -- a budget for all of them cuts none
  pub cut_count-none : (size : X → ℕ) (budget : ℕ) → sum_by size cs ≤ budget → cut_count order cs size budget ≡ 0
  cut_count-none size budget le =
      count_by-stretch (λ c. not (fits order cs size budget c)) cs 0 0 (omega arith) (omega arith) (λ i d from to. absurd (omega arith))
      (λ i d lt outside. ap not (le-leb (size_through order cs size (get_or cs i d)) budget (omega (arith, le, sum_by-part (λ x. is_lt (order (get_or cs i d) x)) size cs))))

  module _ (strict : (c d : X) → Contains cs c → Contains cs d → order c d ≡ Equal → c ≡ d) where
    -- two candidates with as many before them are one
    before_count-same : (c d : X) → Contains cs c → Contains cs d → before_count order cs c ≡ before_count order cs d → c ≡ d
    before_count-same c d in_c in_d e = elim (order c d) as (λ r. order c d ≡ r → c ≡ d) [
      | Less ↦ λ is. absurd (omega (arith, before_count-lt c d in_c is, e))
      | Equal ↦ λ is. strict c d in_c in_d is
      | Greater ↦ λ is. absurd (omega (arith, before_count-lt d c in_d (total.antisymm d c ∙ ap ordering_reverse is), e))
    ] refl

    -- a candidate with few enough before it stands at one of the first places
    pub first_places-Contains : (n : ℕ) (x : X) → Contains cs x → before_count order cs x < n → Contains (first_places order cs n) x
    first_places-Contains n x stands few =
        let m = before_count order cs x in
        let there = found (λ c. eqb (before_count order cs c) m) cs x stands (eq-eqb m m refl) in
        let counted = eqb-true (before_count order cs there.0) m (find_passes (λ c. eqb (before_count order cs c) m) cs there.0 there.1) in
        let same = before_count-same there.0 x (find_stands (λ c. eqb (before_count order cs c) m) cs there.0 there.1) stands counted in
        looks_up (at_place order cs) 0 n m x (omega arith) (omega arith) (there.1 ∙ ap Some same)

    -- and so does what comes before one that does
    pub first_places-before : (n : ℕ) (c d : X) → Contains cs c → Contains (first_places order cs n) d → order c d ≡ Less → Contains (first_places order cs n) c
    first_places-before n c d stands there e =
        let last = Contains-first_places n d there in
        first_places-Contains n c stands (omega (arith, last.1, before_count-lt c d stands e))

    -- where none is cut each is sent
    pub uncut-Contains : (size : X → ℕ) (budget : ℕ) → cut_count order cs size budget ≡ 0 → (x : X) → Contains cs x → Contains (sent order cs size budget) x
    uncut-Contains size budget none x stands =
        first_places-Contains (count_by (fits order cs size budget) cs) x stands
        (omega (arith, none, count_by-not (fits order cs size budget) cs, before_count-lt-length x stands))
