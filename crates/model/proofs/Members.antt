-- Lists in which no two items share a place: two with the same items have them in another order.
-- Serves `Lacking`, `Received`, `StateDeltas`, `delta_plans`, `reconcile` and `run_laws`.
use Rattle.model.proofs.Common.{◌≡◌, zero, suc, ◌-◌, ◌<◌, Bool, true, false, cond, not, List, [], ◌∷◌, ◌++◌, length, map, get_or, inl, inr, refl, sym, ap, ◌∙◌, subst, arith, filter, IsPermutation, AllPairs, is_eq, tied_itself, cases_lt, both_ways, not-true, get_or-map, length-map, get_or_append_left, get_or-append_right, length-append, All-contains, All-filter, All-contains_itself, Contains-get_or, filter_passes, AllPairs-filter, IsPermutation-refl, IsPermutation-sym, IsPermutation-trans, IsPermutation-cons, IsPermutation-filter_both, Item}
use Rattle.std.specs.Prelude.{Contains}
use Rattle.model.specs.inner.Items.{place_of}
use Rattle.model.specs.inner.Applied.{stands_at}
use Rattle.model.proofs.Order.{place_total}
use Rattle.model.proofs.TableLaws.{tied-stands_at}
use Rattle.model.proofs.Items.{IsApart, items_at-apart}

-- what passes is kept, and what is kept stood there and passes
pub Contains-filter : {X : Type 0} (p : X → Bool) (xs : List X) (x : X) → Contains xs x → p x ≡ true → Contains (filter p xs) x
Contains-filter p [] x (k, lt, is) passes = absurd (omega arith)
Contains-filter p (y ∷ xs) x (zero, lt, is) passes =
    subst (λ b. Contains (cond b (y ∷ filter p xs) (filter p xs)) x) (sym (ap p is ∙ passes)) (0, omega arith, is)
Contains-filter p (y ∷ xs) x (suc k, lt, is) passes =
    let rest = Contains-filter p xs x (k, omega arith, is) passes in
    elim (p y) as (λ b. Contains (cond b (y ∷ filter p xs) (filter p xs)) x) [
      | true ↦ (suc rest.0, omega (arith, rest.1), rest.2)
      | false ↦ rest
    ]

pub Contains-kept : {X : Type 0} (p : X → Bool) (xs : List X) (x : X) → Contains (filter p xs) x → Contains xs x × (p x ≡ true)
Contains-kept p xs x there = (All-contains (Contains xs) (filter p xs) x (All-filter p (Contains xs) xs (All-contains_itself xs)) there, All-contains (λ y. p y ≡ true) (filter p xs) x (filter_passes p xs) there)

pub Contains-map : {X Y : Type 0} (f : X → Y) (xs : List X) (x : X) → Contains xs x → Contains (map f xs) (f x)
Contains-map f xs x (k, lt, is) = (k, omega (arith, length-map xs f), get_or-map f xs k x (f x) lt ∙ ap f is)

-- pairs of two lists put together
pub AllPairs-append : {X : Type 0} (R : X → X → Type 0) (xs ys : List X) → AllPairs R xs → AllPairs R ys → ((x y : X) → Contains xs x → Contains ys y → R x y) → AllPairs R (xs ++ ys)
AllPairs-append R xs ys before behind across i j d lt in_range =
    let long = length-append xs ys in
    elim (cases_lt j (length xs)) [
      | inl early ↦ rw (get_or_append_left xs ys d i (omega arith), get_or_append_left xs ys d j early) (before i j d lt early)
      | inr late ↦ elim (cases_lt i (length xs)) [
        | inl first ↦
            rw (get_or_append_left xs ys d i first, get_or-append_right xs ys (length xs) j d refl late)
            (across (get_or xs i d) (get_or ys (j - length xs) d) (Contains-get_or xs i d first) (Contains-get_or ys (j - length xs) d (omega arith)))
        | inr second ↦
            rw (get_or-append_right xs ys (length xs) i d refl second, get_or-append_right xs ys (length xs) j d refl late)
            (behind (i - length xs) (j - length xs) d (omega arith) (omega arith))
      ]
    ]

pub AllPairs-map : {X Y : Type 0} (R : Y → Y → Type 0) (f : X → Y) (xs : List X) → AllPairs (λ x y. R (f x) (f y)) xs → AllPairs R (map f xs)
AllPairs-map R f [] pairs i j d lt in_range = absurd (omega arith)
AllPairs-map R f (x ∷ xs) pairs i j d lt in_range =
    let short : j < length (x ∷ xs) = omega (arith, in_range, length-map (x ∷ xs) f) in
    rw (get_or-map f (x ∷ xs) i x d (omega arith), get_or-map f (x ∷ xs) j x d short) (pairs i j x lt short)

-- an item stands at its own place
stands_at-itself : (i : Item) → stands_at i.owner i.entry.key i ≡ true
stands_at-itself i = sym (tied-stands_at i.owner i.entry.key i) ∙ ap is_eq (tied_itself place_total (place_of i))

abbrev elsewhere : Item → Item → Bool
elsewhere x i = not (stands_at x.owner x.entry.key i)

elsewhere-false : (x i : Item) → stands_at x.owner x.entry.key i ≡ false → elsewhere x i ≡ true
elsewhere-false x i e = ap not e

pub same_members : (xs ys : List Item) → IsApart xs → IsApart ys → ((i : Item) → Contains xs i → Contains ys i) → ((i : Item) → Contains ys i → Contains xs i) → IsPermutation xs ys
same_members [] [] apart_xs apart_ys to from = IsPermutation-refl []
same_members [] (y ∷ ys) apart_xs apart_ys to from = let there = from y (0, omega arith, refl) in absurd (omega (arith, there.1))
same_members (x ∷ xs) ys apart_xs apart_ys to from =
    IsPermutation-trans (x ∷ xs) (x ∷ filter (elsewhere x) ys) ys
    (IsPermutation-cons x xs (filter (elsewhere x) ys)
    (same_members xs (filter (elsewhere x) ys) (λ j k d lt in_range. apart_xs (suc j) (suc k) d (omega arith) (omega arith)) (AllPairs-filter (λ (i j : Item). stands_at i.owner i.entry.key j ≡ false) (elsewhere x) ys apart_ys) there back))
    (IsPermutation-sym ys (x ∷ filter (elsewhere x) ys) (subst (λ zs. IsPermutation ys (zs ++ filter (elsewhere x) ys)) (items_at-apart ys x apart_ys (to x (0, omega arith, refl))) (IsPermutation-filter_both (stands_at x.owner x.entry.key) (elsewhere x) (λ _. refl) ys)))
  where
    there : (i : Item) → Contains xs i → Contains (filter (elsewhere x) ys) i
    there i (k, lt, is) =
        Contains-filter (elsewhere x) ys i (to i (suc k, omega arith, is))
        (elsewhere-false x i (subst (λ (j : Item). stands_at x.owner x.entry.key j ≡ false) is (apart_xs 0 (suc k) i (omega arith) (omega arith))))

    back : (i : Item) → Contains (filter (elsewhere x) ys) i → Contains xs i
    back i kept = let stood = Contains-kept (elsewhere x) ys i kept in behind (from i stood.0) stood.1
      where
        behind : Contains (x ∷ xs) i → elsewhere x i ≡ true → Contains xs i
        behind (zero, lt, is) other = absurd (both_ways _ (not-true _ other) (subst (λ (j : Item). stands_at x.owner x.entry.key j ≡ true) is (stands_at-itself x)))
        behind (suc k, lt, is) other = (k, omega arith, is)
