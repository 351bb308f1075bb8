-- Laws of the list of a table's items, and of lists in which no two items share a place.
-- Serves `Lacking`, `Members`, `Proper`, `Received`, `StateDeltas`, `delta_plans`, `reconcile` and `run_laws`.
use Rattle.model.proofs.Common.{◌≡◌, ℕ, zero, suc, ◌<◌, true, false, cond, List, [], ◌∷◌, length, map, get_or, Some, None, All, refl, sym, ap, ◌∙◌, subst, arith, T, Less, Equal, Greater, is_eq, eq_by_cmp, tied_itself, AllPairs, is_sorted, entries, entries_sorted, get-entries, below_all, both_ways, All-head, All-tail, Entry, Item, first, second, less, same_Some}
use Rattle.std.specs.List.{Contains}
use Rattle.std.specs.FinMap.{find}
use Rattle.model.specs.Table.{Place, place_cmp, Table, entry_at, item_of, items_of, IsProper}
use Rattle.model.specs.inner.Items.{place_of, pair_of, pairs, IsRising}
use Rattle.model.specs.inner.Applied.{stands_at, items_at}
use Rattle.model.proofs.Order.{place_total, place_turned}
use Rattle.model.proofs.Rising.{rising_at}
use Rattle.model.proofs.TableLaws.{place_tied, tied-stands_at, items_at-none}

-- an entry of a list in order is what is found at its place
found_there : (es : List (Place × Entry)) (k : ℕ) (d : Place × Entry) → T (is_sorted place_cmp es) → k < length es → find place_cmp (get_or es k d).0 es ≡ Some (get_or es k d).1
found_there [] k d sorted lt = absurd (omega arith)
found_there (e ∷ es) zero d sorted lt = ap (λ r. cond (is_eq r) (Some e.1) (find place_cmp e.0 es)) (tied_itself place_total e.0)
found_there (e ∷ es) (suc k) d sorted lt =
    ap (λ r. cond (is_eq r) (Some e.1) (find place_cmp (get_or es k d).0 es)) (place_turned e.0 (get_or es k d).0 Less (below es k (first _ _ sorted) (omega arith)))
    ∙ found_there es k d (second _ _ sorted) (omega arith)
  where
    below : (fs : List (Place × Entry)) (j : ℕ) → T (below_all place_cmp e.0 fs) → j < length fs → place_cmp e.0 (get_or fs j d).0 ≡ Less
    below [] j h lt = absurd (omega arith)
    below (f ∷ fs) zero h lt = less _ (first _ _ h)
    below (f ∷ fs) (suc j) h lt = below fs j (second _ _ h) (omega arith)

pairs-map : (es : List (Place × Entry)) → All (λ e. e.1.key ≡ e.0.1) es → pairs (map item_of es) ≡ es
pairs-map [] keyed = refl
pairs-map (e ∷ es) keyed = λ i. (((e.0.0, All-head (λ f. f.1.key ≡ f.0.1) e es keyed i), e.1)) ∷ pairs-map es (All-tail (λ f. f.1.key ≡ f.0.1) e es keyed) i

-- the items of a proper table, each at its place, are its entries
pub pairs-items_of : (t : Table) → IsProper t → pairs (items_of t) ≡ entries t.held
pairs-items_of t proper = pairs-map (entries t.held) (λ k d lt.
    (proper.in_place (get_or (entries t.held) k d).0.0 (get_or (entries t.held) k d).0.1 (get_or (entries t.held) k d).1 (get-entries t.held (get_or (entries t.held) k d).0 ∙ found_there (entries t.held) k d (entries_sorted t.held) lt)).keyed)

-- they rise by owner and then by key
pub rising-items_of : (t : Table) → IsProper t → IsRising (items_of t)
rising-items_of t proper = subst (λ es. T (is_sorted place_cmp es)) (sym (pairs-items_of t proper)) (entries_sorted t.held)

-- and no two of them share a place
pub apart-items_of : (t : Table) → IsProper t → AllPairs (λ i j. place_cmp (place_of i) (place_of j) ≡ Less) (items_of t)
apart-items_of t proper i j d before lt = rising_at (items_of t) i j d d (rising-items_of t proper) before lt

-- each item is what is held at its place
pub entry_at-items_of : (t : Table) (i : Item) → IsProper t → Contains (items_of t) i → entry_at t i.owner i.entry.key ≡ Some i.entry
entry_at-items_of t i proper (k, lt, is) =
    get-entries t.held (place_of i)
    ∙ ap (find place_cmp (place_of i)) (sym (pairs-items_of t proper))
    ∙ subst (λ (x : Item). find place_cmp (place_of x) (pairs (items_of t)) ≡ Some x.entry) is (found_item (items_of t) k i (rising-items_of t proper) lt)
  where
    found_item : (xs : List Item) (k : ℕ) (d : Item) → IsRising xs → k < length xs → find place_cmp (place_of (get_or xs k d)) (pairs xs) ≡ Some (get_or xs k d).entry
    found_item xs k d rising lt =
        subst (λ (e : Place × Entry). find place_cmp e.0 (pairs xs) ≡ Some e.1) (Rattle.std.proofs.lemmas.List.get_or-map pair_of xs k d (pair_of d) lt)
        (found_there (pairs xs) k (pair_of d) rising (omega (arith, Rattle.std.proofs.lemmas.List.length-map xs pair_of)))

-- and what is held is an item
pub Contains-items_of : (t : Table) (owner key : ℕ) (e : Entry) → entry_at t owner key ≡ Some e → Contains (items_of t) (record { owner = owner; entry = e })
Contains-items_of t owner key e held = among (entries t.held) (sym (get-entries t.held (owner, key)) ∙ held)
  where
    among : (es : List (Place × Entry)) → find place_cmp (owner, key) es ≡ Some e → Contains (map item_of es) (record { owner = owner; entry = e })
    among [] found = absurd (nothing found)
      where
        nothing : None ≡ Some e → ⊥
        nothing h = cc
    among (f ∷ fs) found = let rest = among fs in elim (eq_by_cmp place_cmp (owner, key) f.0) as (λ b. eq_by_cmp place_cmp (owner, key) f.0 ≡ b → cond b (Some f.1) (find place_cmp (owner, key) fs) ≡ Some e → Contains (map item_of (f ∷ fs)) (record { owner = owner; entry = e })) [
      | true ↦ λ tie here. (0, omega arith, λ n. record { owner = (sym (ap (λ (p : Place). p.0) (place_tied (owner, key) f.0 tie))) n; entry = same_Some f.1 e here n })
      | false ↦ λ _ later. let at = rest later in (suc at.0, omega (arith, at.1), at.2)
    ] refl found

-- no two items stand at one place
abbrev pub IsApart : List Item → Type 0
IsApart added = AllPairs (λ i j. stands_at i.owner i.entry.key j ≡ false) added

-- in such a list an item is the only one of its place
pub items_at-apart : (added : List Item) (i : Item) → IsApart added → Contains added i → items_at i.owner i.entry.key added ≡ i ∷ []
items_at-apart [] i apart (k, lt, is) = absurd (omega arith)
items_at-apart (x ∷ xs) i apart (zero, lt, is) =
    let alone = items_at-none xs i.owner i.entry.key (λ j d lt'. subst (λ (y : Item). stands_at y.owner y.entry.key (get_or xs j d) ≡ false) is (apart 0 (suc j) d (omega arith) (omega arith))) in
    ap (λ b. cond b (x ∷ items_at i.owner i.entry.key xs) (items_at i.owner i.entry.key xs)) (subst (λ (y : Item). stands_at y.owner y.entry.key x ≡ true) is (itself x))
    ∙ ap (λ ys. x ∷ ys) alone ∙ ap (λ y. y ∷ []) is
  where
    itself : (y : Item) → stands_at y.owner y.entry.key y ≡ true
    itself y = sym (tied-stands_at y.owner y.entry.key y) ∙ ap is_eq (tied_itself place_total (place_of y))
items_at-apart (x ∷ xs) i apart (suc k, lt, is) =
    let before : stands_at x.owner x.entry.key i ≡ false = subst (λ (y : Item). stands_at x.owner x.entry.key y ≡ false) is (apart 0 (suc k) i (omega arith) (omega arith)) in
    ap (λ b. cond b (x ∷ items_at i.owner i.entry.key xs) (items_at i.owner i.entry.key xs)) (turned before)
    ∙ items_at-apart xs i (λ a b d lt' lt''. apart (suc a) (suc b) d (omega arith) (omega arith)) (k, omega arith, is)
  where
    turned : stands_at x.owner x.entry.key i ≡ false → stands_at i.owner i.entry.key x ≡ false
    turned before =
        sym (tied-stands_at i.owner i.entry.key x)
        ∙ elim (place_cmp (place_of i) (place_of x)) as (λ r. place_cmp (place_of i) (place_of x) ≡ r → is_eq r ≡ false) [
          | Less ↦ λ _. refl
          | Equal ↦ λ is. absurd (both_ways false refl (sym before ∙ sym (tied-stands_at x.owner x.entry.key i) ∙ ap is_eq (place_turned (place_of i) (place_of x) Equal is)))
          | Greater ↦ λ _. refl
        ] refl
