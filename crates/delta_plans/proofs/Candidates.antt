-- The items of a table are those of its places, so a sum over them is one over all places; candidates by their numbers,
-- and sums over these.
-- Serves `DeltaMarks`, `SentSets` and `version_tables`.
use Rattle.delta_plans.proofs.Common.{◌≡◌, ◌≢◌, ℕ, suc, ◌<◌, Bool, true, cond, eqb, List, [], ◌∷◌, get_or, Some, None, refl, sym, ap, ◌∙◌, subst, arith, nat_tests, filter, Contains, Contains-get_or, ◌&&◌, sum_by, is_eq, sum_by-cons, Item, Mode, candidates, Table, entry_at, items_of, IsProper, stands_at, items_at, items_at-none, items_at-apart, IsApart, entry_at-items_of, Contains-items_of, apart-items_of, tied-stands_at, sum_below, sum_below-same, number_here, number_there, sum_over, ltb, inl, inr, cases_lt, le-ltb, both_ways, same_Some, Entry, generation_held, IsInPlace, Contains-filter, Contains-kept, rank_among, owner_count, IsHistory, write_numbered, Cells, count_above, versions-rise, number-of_version, Offers, is_lacked, item_number, offered_sum, rank_above}
use Rattle.delta_plans.proofs.WeightLaws.{sum_below-changed, sum_below-none, sum_below-one, where_true}

-- a sum over those that pass a test
sum_by-filter : {X : Type 0} (p : X → Bool) (f : X → ℕ) (xs : List X) → sum_by f (filter p xs) ≡ sum_by (λ x. cond (p x) (f x) 0) xs
sum_by-filter p f [] = refl
sum_by-filter p f (x ∷ xs) =
    let rest = sum_by-filter p f xs in let whole = sum_by-cons (λ y. cond (p y) (f y) 0) x xs in let kept = sum_by-cons f x (filter p xs) in
    grind (arith, nat_tests)

-- a sum over items within bounds, place by place
abbrev sum_at : (Item → ℕ) → List Item → ℕ → ℕ → ℕ
sum_at f xs owner key = sum_by (λ i. cond (stands_at owner key i) (f i) 0) xs

by_places : (nodes keys : ℕ) (f : Item → ℕ) (xs : List Item) → ((i : Item) → Contains xs i → (i.owner < nodes) × (i.entry.key < keys))
    → sum_by f xs ≡ sum_below nodes (λ owner. sum_below keys (sum_at f xs owner))
by_places nodes keys f [] within = sym (sum_below-none nodes _ (λ owner lt. sum_below-none keys _ (λ key lt'. refl)))
by_places nodes keys f (x ∷ xs) within =
    let rest = by_places nodes keys f xs (λ i (k, lt, is). within i (suc k, omega (arith, lt), is)) in let place = within x (0, omega arith, refl) in
    let one = λ (owner key : ℕ). sum_by-cons (λ i. cond (stands_at owner key i) (f i) 0) x xs in
    let row = sum_below-changed keys x.entry.key (f x) (sum_at f xs x.owner) (sum_at f (x ∷ xs) x.owner) place.1
    (λ key lt other. grind (arith, nat_tests, one x.owner key)) (grind (arith, nat_tests, one x.owner x.entry.key)) in
    let others = λ (owner : ℕ) (lt : owner < nodes) (other : owner ≢ x.owner).
    sum_below-same keys (sum_at f (x ∷ xs) owner) (sum_at f xs owner) (λ key lt'. grind (arith, nat_tests, one owner key)) in
    omega (arith, sum_by-cons f x xs, rest, sum_below-changed nodes x.owner (f x) _ (λ owner. sum_below keys (sum_at f (x ∷ xs) owner)) place.0 others row)

module _ (t : Table) (proper : IsProper t) where
  pub table_apart : IsApart (items_of t)
  table_apart i j d lt in_range = sym (tied-stands_at (get_or (items_of t) i d).owner (get_or (items_of t) i d).entry.key (get_or (items_of t) j d))
      ∙ ap is_eq (apart-items_of t proper i j d lt in_range)

  -- a sum over the items of a place
  at_place : (f : Item → ℕ) (owner key : ℕ) → sum_at f (items_of t) owner key ≡ number_there f t owner key
  at_place f owner key = sym (sum_by-filter (stands_at owner key) f (items_of t))
      ∙ elim (entry_at t owner key) as (λ o. entry_at t owner key ≡ o → sum_by f (items_at owner key (items_of t)) ≡ number_here f owner o) [
        | None ↦ λ none. ap (sum_by f) (items_at-none (items_of t) owner key (λ k d lt.
            grind (arith, nat_tests, entry_at-items_of t (get_or (items_of t) k d) proper (Contains-get_or (items_of t) k d lt))))
        | Some e ↦ λ held.
            let i : Item = record { owner = owner; entry = e } in
            let alone = items_at-apart (items_of t) i table_apart (Contains-items_of t owner key e held) in
            ap (sum_by f) (subst (λ k. items_at owner k (items_of t) ≡ i ∷ []) (proper.in_place owner key e held).keyed alone) ∙ omega arith
      ] refl

  -- a sum over a table's items
  pub items_sum : (f : Item → ℕ) → sum_by f (items_of t) ≡ sum_over f t
  items_sum f = by_places t.nodes t.keys f (items_of t) (λ i there.
      let place = proper.in_place i.owner i.entry.key i.entry (entry_at-items_of t i proper there) in
      (place.owner_below, place.key_below)) ∙ sum_below-same t.nodes _ _ (λ owner lt. sum_below-same t.keys _ _ (λ key lt'. at_place f owner key))

-- what a proper table offers another one, told by numbers of its owners' writes
pub record IsOffered (mode : Mode) (from to : Table) (lists : ℕ → List Entry) (cells : Cells) (low : ℕ → ℕ) : Type 0 where
  pub proper : IsProper from
  pub histories : (owner : ℕ) → IsHistory (lists owner)
  pub offers : Offers mode from to lists cells low

module _ {mode : Mode} {from to : Table} {lists : ℕ → List Entry} {cells : Cells} {low : ℕ → ℕ} (given : IsOffered mode from to lists cells low) where
  abbrev cs : List Item
  cs = candidates mode from to

  candidate-held : (c : Item) → Contains cs c → (entry_at from c.owner c.entry.key ≡ Some c.entry) × (is_lacked mode to c ≡ true)
  candidate-held c there =
      let kept = Contains-kept (is_lacked mode to) (items_of from) c there in
      (entry_at-items_of from c given.proper kept.0, kept.1)

  -- a candidate's owner and key are of the sender's
  pub candidate-place : (c : Item) → Contains cs c → IsInPlace from.nodes from.keys c.owner c.entry.key c.entry
  candidate-place c there = given.proper.in_place c.owner c.entry.key c.entry (candidate-held c there).0

  -- it is the write of its number, which is above the owner's mark
  pub candidate-number : (c : Item) → Contains cs c
      → (low c.owner < item_number cells c) × (write_numbered (lists c.owner) (item_number cells c) ≡ Some c.entry)
  candidate-number c there = let held = candidate-held c there in elim (cases_lt (low c.owner) (item_number cells c)) [
    | inl above ↦
        let place = candidate-place c there in let offered = given.offers.above c.owner c.entry.key place.owner_below place.key_below above in
        (above, offered.2 ∙ ap Some (same_Some offered.0 c.entry (sym offered.1 ∙ held.0)))
    | inr not_above ↦ absurd (both_ways (is_lacked mode to c) (given.offers.below c.owner c.entry.key c.entry held.0 (omega (arith, not_above))) held.1)
  ]

  -- each number above its owner's mark is that of a candidate
  pub candidate-at : (owner key : ℕ) → owner < from.nodes → key < from.keys → low owner < cells owner key
      → (e : Entry) × (entry_at from owner key ≡ Some e) × Contains cs (record { owner = owner; entry = e })
  candidate-at owner key in_nodes in_keys lt =
      let found = given.offers.above owner key in_nodes in_keys lt in
      (found.0, found.1, Contains-filter (is_lacked mode to) (items_of from) _ (Contains-items_of from owner key found.0 found.1) found.3)

  -- two candidates of one owner
  module _ (c d : Item) (in_c : Contains cs c) (in_d : Contains cs d) (owners : c.owner ≡ d.owner) where
    other_number : write_numbered (lists c.owner) (item_number cells d) ≡ Some d.entry
    other_number = subst (λ o. write_numbered (lists o) (item_number cells d) ≡ Some d.entry) (sym owners) (candidate-number d in_d).1

    alike : c.entry.generation ≡ d.entry.generation
    alike = given.proper.copies c.owner c.entry.key c.entry (candidate-held c in_c).0 ∙ ap (generation_held from) owners
        ∙ sym (given.proper.copies d.owner d.entry.key d.entry (candidate-held d in_d).0)

    pub one_item : item_number cells c ≡ item_number cells d → c ≡ d
    one_item same =
        let entries : c.entry ≡ d.entry = same_Some c.entry d.entry
        (sym (candidate-number c in_c).1 ∙ ap (write_numbered (lists c.owner)) same ∙ other_number) in
        λ i. record { owner = owners i; entry = entries i }

    -- versions rise with the numbers
    pub older : item_number cells c < item_number cells d → c.entry.version < d.entry.version
    older = versions-rise (lists c.owner) (given.histories c.owner) (item_number cells c) (item_number cells d) c.entry d.entry
        (candidate-number c in_c).1 other_number alike

    newer : c.entry.version < d.entry.version → item_number cells c < item_number cells d
    newer = number-of_version (lists c.owner) (given.histories c.owner) (item_number cells c) (item_number cells d) c.entry d.entry
        (candidate-number c in_c).1 other_number alike

  -- what a candidate's place tells of it sums up over the places of numbers above the marks
  pub offered-sum : (f : Item → ℕ) (g : ℕ → ℕ → ℕ) → ((c : Item) → Contains cs c → f c ≡ g c.owner c.entry.key) → sum_by f cs ≡ offered_sum from cells low g
  offered-sum f g told = sum_by-filter (is_lacked mode to) f (items_of from) ∙ items_sum from given.proper (λ i. cond (is_lacked mode to i) (f i) 0)
      ∙ sum_below-same from.nodes _ _ (λ owner in_nodes. sum_below-same from.keys _ _ (λ key in_keys. elim (cases_lt (low owner) (cells owner key)) [
        | inl above ↦
            let there = candidate-at owner key in_nodes in_keys above in let i : Item = record { owner = owner; entry = there.0 } in
            let here = ap (number_here (λ i. cond (is_lacked mode to i) (f i) 0) owner) there.1 in
            let is = told i there.2 ∙ ap (g owner) (given.proper.in_place owner key there.0 there.1).keyed in
            grind (arith, nat_tests, here, is, (candidate-held i there.2).1)
        | inr not_above ↦
            elim (entry_at from owner key) as (λ o. entry_at from owner key ≡ o → number_here (λ i. cond (is_lacked mode to i) (f i) 0) owner o ≡ 0) [
              | None ↦ λ _. refl
              | Some e ↦ λ held. ap (λ b. cond b (f (record { owner = owner; entry = e })) 0) (given.offers.below owner key e held (omega (arith, not_above)))
            ] refl ∙ ap (λ b. cond b (g owner key) 0) (sym (le-ltb (low owner) (cells owner key) (omega (arith, not_above))))
      ]))

  module _ (c : Item) (in_c : Contains cs c) where
    -- a number of one owner's places alone
    of_owner : (g : ℕ → ℕ) → offered_sum from cells low (λ owner key. cond (eqb owner c.owner) (g key) 0)
        ≡ sum_below from.keys (λ key. cond (ltb (low c.owner) (cells c.owner key)) (g key) 0)
    of_owner g = sum_below-one from.nodes c.owner _ (candidate-place c in_c).owner_below
        (λ owner lt other. sum_below-none from.keys _ (λ key lt'. grind (arith, nat_tests))) ∙ sum_below-same from.keys _ _ (λ key lt. grind (arith, nat_tests))

    -- how many candidates its owner has
    pub owner_count-is : owner_count cs c ≡ count_above cells from.keys c.owner (low c.owner)
    owner_count-is = offered-sum (λ d. cond (eqb d.owner c.owner) 1 0) (λ owner key. cond (eqb owner c.owner) 1 0) (λ d in_d. refl) ∙ of_owner (λ _. 1)

    -- and how many of them come before it by version
    pub rank_among-is : rank_among cs c ≡ rank_above cells from.keys c.owner (low c.owner) (item_number cells c)
    rank_among-is = offered-sum (λ d. where_true (eqb d.owner c.owner && ltb d.entry.version c.entry.version) 1)
        (λ owner key. where_true (eqb owner c.owner) (where_true (ltb (cells c.owner key) (item_number cells c)) 1))
        (λ d in_d. grind (arith, nat_tests, λ (same : d.owner ≡ c.owner). ap (λ o. cells o d.entry.key) same, older d c in_d in_c, newer d c in_d in_c))
        ∙ of_owner (λ key. where_true (ltb (cells c.owner key) (item_number cells c)) 1)
