-- A table's entries that a digest doesn't know, owner by owner, are the candidates in another order.
-- Serves `candidates`, `push_newer`, `Answering` and `Found`.
use Rattle.reconcile.proofs.Common.{◌≡◌, ◌≢◌, ℕ, ◌+◌, ◌<◌, Bool, true, false, cond, not, ◌&&◌, eqb, List, [], ◌∷◌, ◌++◌, length, map, take, get_or, All, Some, inl, inr, refl, sym, ap, ◌∙◌, subst, arith, filter, Contains, IsPermutation, AllPairs, Less, Equal, nat_cmp, ordering_then, is_eq, IsTotalOrder, nat_cmp_total, on_total, then_total, tied_itself, cases_lt, eq-eqb, ne_eqb, eqb-true, and_parts, and_from, both_ways, not-true, append_assoc, map-append, take_more, All-contains, All-head, All-tail, All-map, Contains-get_or, Contains-append_left, Contains-append_right, Contains-append_cases, filter-append, AllPairs-filter, Entry, Item, Mark, absent, mark_of, mark_held, is_before, IsBefore, IsUpTo, before-true, before-yes, before-no, up_to-then, Table, entry_at, greatest_mark, items_of, IsProper, AreAbove, stands_at, nat_cmp-less, nat_cmp-equal, IsApart, apart-items_of, entry_at-items_of, Contains-items_of, tied-stands_at, mark_at-up_to_greatest, items_above, Contains-filter, Contains-kept, Contains-map, AllPairs-append, AllPairs-map, same_members}
use Rattle.reconcile.specs.Digests.{DigestView, told_mark_at, told_mark}
use Rattle.reconcile.specs.inner.Newer.{AreNewer, item_with, newer_items, version_order, IsCandidate, AreCandidates}

pub version_total : IsTotalOrder version_order
version_total = then_total (on_total (λ (i : Item). i.owner) nat_cmp_total) (then_total (on_total (λ (i : Item). i.entry.version) nat_cmp_total) (on_total (λ (i : Item). i.entry.key) nat_cmp_total))

module _ (t : Table) (told : DigestView) (owner : ℕ) where
  -- where one mark is told of all keys of an owner, the entries above it aren't known
  pub newer-above : (mark : Mark) (entries : List Entry) → ((key : ℕ) → told_mark_at told owner key ≡ mark) → AreAbove t owner mark entries → AreNewer t told owner entries
  newer-above mark entries same above = record {
    rising = above.rising;
    held = λ e there. (above.held e there).0;
    all = λ key e held newer. above.all key e held (subst (λ m. IsBefore m (mark_of e)) (same key) newer);
  }

  -- all entries of an owner have those among them that aren't known
  pub newer-row : (entries : List Entry) → IsProper t → AreAbove t owner absent entries → AreNewer t told owner entries
  newer-row entries proper above = record {
    rising = above.rising;
    held = λ e there. (above.held e there).0;
    all = λ key e held newer. above.all key e held (record { generation = omega arith; version = λ _. (proper.in_place owner key e held).written });
  }

-- none is above the greatest mark
pub above-none : (t : Table) (owner : ℕ) (mark : Mark) → IsProper t → IsUpTo (greatest_mark t owner) mark → AreAbove t owner mark []
above-none t owner mark proper most = record {
  rising = λ i j d lt in_range. absurd (omega arith);
  held = λ e (k, lt, is). absurd (omega arith);
  all = λ key e held newer.
      let known = subst (λ h. IsUpTo (mark_held h) (greatest_mark t owner)) held (mark_at-up_to_greatest t owner key (proper.in_place owner key e held).key_below) in
      absurd (both_ways (is_before mark (mark_of e)) (before-no mark (mark_of e) (up_to-then (mark_of e) (greatest_mark t owner) mark known most)) (before-yes mark (mark_of e) newer));
}

filter-all : (p : Item → Bool) (xs : List Item) → All (λ x. p x ≡ true) xs → filter p xs ≡ xs
filter-all p [] each = refl
filter-all p (x ∷ xs) each = ap (λ b. cond b (x ∷ filter p xs) (filter p xs)) (All-head (λ y. p y ≡ true) x xs each) ∙ ap (λ ys. x ∷ ys) (filter-all p xs (All-tail (λ y. p y ≡ true) x xs each))

-- entries above what is told are all newer
pub newer_items-above : (t : Table) (told : DigestView) (owner : ℕ) (mark : Mark) (entries : List Entry) → ((key : ℕ) → told_mark_at told owner key ≡ mark) → AreAbove t owner mark entries → newer_items told owner entries ≡ map (item_with owner) entries
newer_items-above t told owner mark entries same above =
    filter-all (λ (i : Item). is_before (told_mark told i) (mark_of i.entry)) (map (item_with owner) entries)
    (All-map (λ (i : Item). is_before (told_mark told i) (mark_of i.entry) ≡ true) (item_with owner) entries
    (λ k d lt. let e = get_or entries k d in
    before-yes (told_mark_at told owner e.key) (mark_of e) (subst (λ m. IsBefore m (mark_of e)) (sym (same e.key)) (above.held e (Contains-get_or entries k d lt)).1)))

-- the keys of a proper table's entries are in range
pub row-keys : (t : Table) (owner : ℕ) (mark : Mark) (entries : List Entry) → IsProper t → AreAbove t owner mark entries → All (λ (e : Entry). e.key < t.keys) entries
row-keys t owner mark entries proper above k d lt =
    let e = get_or entries k d in
    (proper.in_place owner e.key e (above.held e (Contains-get_or entries k d lt)).0).key_below

-- one more entry is looked at
pub newer_items-more : (told : DigestView) (owner : ℕ) (entries : List Entry) (n : ℕ) (before : List Item) (d : Entry) (newer : Bool) → n < length entries → is_before (told_mark_at told owner (get_or entries n d).key) (mark_of (get_or entries n d)) ≡ newer
    → (before ++ newer_items told owner (take n entries)) ++ cond newer (item_with owner (get_or entries n d) ∷ []) [] ≡ before ++ newer_items told owner (take (n + 1) entries)
newer_items-more told owner entries n before d newer lt is =
    let e = get_or entries n d in
    append_assoc before (newer_items told owner (take n entries)) (cond newer (item_with owner e ∷ []) [])
    ∙ ap (λ b. before ++ (newer_items told owner (take n entries) ++ cond b (item_with owner e ∷ []) [])) (sym is)
    ∙ ap (λ is. before ++ is) (sym (filter-append (λ (i : Item). is_before (told_mark told i) (mark_of i.entry)) (map (item_with owner) (take n entries)) (item_with owner e ∷ [])))
    ∙ ap (λ is. before ++ filter (λ (i : Item). is_before (told_mark told i) (mark_of i.entry)) is) (sym (map-append (item_with owner) (take n entries) (e ∷ [])))
    ∙ ap (λ es. before ++ newer_items told owner es) (sym (take_more entries n d lt))

module _ (t : Table) (told : DigestView) (receiver : ℕ) where
  -- the receiver's own are none
  pub candidates-own : (bound : ℕ) (items : List Item) → bound ≡ receiver → AreCandidates t told receiver bound items → AreCandidates t told receiver (bound + 1) items
  candidates-own bound items own so_far = record {
    rising = so_far.rising;
    each = λ i there. let one = so_far.each i there in (one.0, omega (arith, one.1));
    all = λ i is lt. elim (cases_lt i.owner bound) [
      | inl below ↦ so_far.all i is below
      | inr last ↦ absurd (is.other (omega (arith, own)))
    ];
  }

  module _ (bound : ℕ) (items : List Item) (entries : List Entry) (other : bound ≢ receiver) (so_far : AreCandidates t told receiver bound items) (newer : AreNewer t told bound entries) where
    abbrev is_newer : Item → Bool
    is_newer i = is_before (told_mark told i) (mark_of i.entry)

    abbrev IsHere : Item → Type 0
    IsHere i = (entry_at t bound i.entry.key ≡ Some i.entry) × (i.owner ≡ bound)

    here : (i : Item) → Contains (newer_items told bound entries) i → IsHere i × (is_newer i ≡ true)
    here i there =
        let kept = Contains-kept is_newer (map (item_with bound) entries) i there in
        (All-contains IsHere (map (item_with bound) entries) i (All-map IsHere (item_with bound) entries (λ k d lt. (newer.held (get_or entries k d) (Contains-get_or entries k d lt), refl))) kept.0, kept.1)

    candidate_here : (i : Item) → Contains (newer_items told bound entries) i → IsCandidate t told receiver i × (i.owner < bound + 1)
    candidate_here i there =
        let one = here i there in (
          record {
            held = subst (λ o. entry_at t o i.entry.key ≡ Some i.entry) (sym one.0.1) one.0.0;
            newer = before-true (told_mark told i) (mark_of i.entry) one.1;
            other = λ e. other (sym one.0.1 ∙ e);
          },
          omega (arith, one.0.1),
        )

    rising_here : AllPairs (λ i j. version_order i j ≡ Less) (newer_items told bound entries)
    rising_here =
        AllPairs-filter (λ i j. version_order i j ≡ Less) is_newer (map (item_with bound) entries)
        (AllPairs-map (λ i j. version_order i j ≡ Less) (item_with bound) entries
        (λ i j d lt in_range. ap (λ o. ordering_then o (ordering_then (nat_cmp (get_or entries i d).version (get_or entries j d).version) (nat_cmp (get_or entries i d).key (get_or entries j d).key))) (nat_cmp-equal bound bound refl) ∙ newer.rising i j d lt in_range))

    -- the next owner's come behind
    pub candidates-more : AreCandidates t told receiver (bound + 1) (items ++ newer_items told bound entries)
    candidates-more = record {
      rising = AllPairs-append (λ i j. version_order i j ≡ Less) items (newer_items told bound entries) so_far.rising rising_here
          (λ i j before behind. ap (λ o. ordering_then o (ordering_then (nat_cmp i.entry.version j.entry.version) (nat_cmp i.entry.key j.entry.key))) (nat_cmp-less i.owner j.owner (omega (arith, (so_far.each i before).1, (here j behind).0.1))));
      each = λ i there. elim (Contains-append_cases items (newer_items told bound entries) i there) [
        | inl before ↦ let one = so_far.each i before in (one.0, omega (arith, one.1))
        | inr behind ↦ candidate_here i behind
      ];
      all = λ i is lt. elim (cases_lt i.owner bound) [
        | inl below ↦ Contains-append_left items (newer_items told bound entries) i (so_far.all i is below)
        | inr last ↦ Contains-append_right items (newer_items told bound entries) i (among i is (omega arith))
      ];
    }
      where
        among : (i : Item) → IsCandidate t told receiver i → i.owner ≡ bound → Contains (newer_items told bound entries) i
        among i is at =
            let same : item_with bound i.entry ≡ i = λ n. record { owner = sym at n; entry = i.entry } in
            Contains-filter is_newer (map (item_with bound) entries) i
            (subst (Contains (map (item_with bound) entries)) same (Contains-map (item_with bound) entries i.entry (newer.all i.entry.key i.entry (subst (λ o. entry_at t o i.entry.key ≡ Some i.entry) at is.held) (subst (λ o. IsBefore (told_mark_at told o i.entry.key) (mark_of i.entry)) at is.newer))))
            (before-yes (told_mark told i) (mark_of i.entry) is.newer)

  -- all of them are the definition's, in another order
  module _ (items : List Item) (proper : IsProper t) (are : AreCandidates t told receiver t.nodes items) where
    abbrev unknown : Item → Bool
    unknown i = not (eqb i.owner receiver) && is_before (told_mark told i) (mark_of i.entry)

    defined_apart : IsApart (items_above (told_mark told) receiver (items_of t))
    defined_apart = AllPairs-filter (λ (i j : Item). stands_at i.owner i.entry.key j ≡ false) unknown (items_of t)
        (λ i j d lt in_range. sym (tied-stands_at (get_or (items_of t) i d).owner (get_or (items_of t) i d).entry.key (get_or (items_of t) j d)) ∙ ap is_eq (apart-items_of t proper i j d lt in_range))

    found_apart : IsApart items
    found_apart i j d lt in_range =
        let x = get_or items i d in
        let y = get_or items j d in
        elim (stands_at x.owner x.entry.key y) as (λ b. stands_at x.owner x.entry.key y ≡ b → b ≡ false) [
          | true ↦ λ one. absurd (clash x y (are.rising i j d lt in_range) (are.each x (Contains-get_or items i d (omega arith))).0.held (are.each y (Contains-get_or items j d in_range)).0.held (and_parts (eqb y.owner x.owner) (eqb y.entry.key x.entry.key) one))
          | false ↦ λ _. refl
        ] refl
      where
        some_same : (d e : Entry) → Some d ≡ Some e → d ≡ e
        some_same d e is = cc

        clash : (x y : Item) → version_order x y ≡ Less → entry_at t x.owner x.entry.key ≡ Some x.entry → entry_at t y.owner y.entry.key ≡ Some y.entry → (eqb y.owner x.owner ≡ true) × (eqb y.entry.key x.entry.key ≡ true) → ⊥
        clash x y less held_x held_y (owners, keys) =
            let owner_is = eqb-true y.owner x.owner owners in
            let key_is = eqb-true y.entry.key x.entry.key keys in
            let entry_is = some_same y.entry x.entry (sym held_y ∙ (λ n. entry_at t (owner_is n) (key_is n)) ∙ held_x) in
            let same : y ≡ x = λ n. record { owner = owner_is n; entry = entry_is n } in
            let tied = subst (λ (z : Item). version_order x z ≡ Less) same less in
            let impossible : Less ≡ Equal = sym tied ∙ tied_itself version_total x in cc

    pub candidates-permuted : IsPermutation (items_above (told_mark told) receiver (items_of t)) items
    candidates-permuted = same_members (items_above (told_mark told) receiver (items_of t)) items defined_apart found_apart to from
      where
        to : (i : Item) → Contains (items_above (told_mark told) receiver (items_of t)) i → Contains items i
        to i there =
            let kept = Contains-kept unknown (items_of t) i there in
            let parts = and_parts (not (eqb i.owner receiver)) (is_before (told_mark told i) (mark_of i.entry)) kept.1 in
            let held = entry_at-items_of t i proper kept.0 in
            are.all i (record {
              held = held;
              newer = before-true (told_mark told i) (mark_of i.entry) parts.1;
              other = λ e. absurd (both_ways (eqb i.owner receiver) (not-true _ parts.0) (eq-eqb i.owner receiver e));
            }) (proper.in_place i.owner i.entry.key i.entry held).owner_below

        from : (i : Item) → Contains items i → Contains (items_above (told_mark told) receiver (items_of t)) i
        from i there =
            let one = (are.each i there).0 in
            Contains-filter unknown (items_of t) i (Contains-items_of t i.owner i.entry.key i.entry one.held)
            (and_from (not (eqb i.owner receiver)) (is_before (told_mark told i) (mark_of i.entry)) (ap not (ne_eqb i.owner receiver one.other)) (before-yes (told_mark told i) (mark_of i.entry) one.newer))
