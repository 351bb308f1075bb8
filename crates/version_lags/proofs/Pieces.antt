-- How long a table's copy has been behind, and whether it is left over, by the number of what it holds.
-- Serves `Parts` and `Whole`.
use Rattle.version_lags.proofs.Common.{◌≡◌, ℕ, nat_tests, ◌<◌, false, ◌&&◌, List, [], length, Some, if◌then◌else◌, inl, inr, sym, ap, ◌∙◌, subst, arith, nat_lt, nat_le, cases_eq, eq-eqb, ne_eqb, Entry, mark_held, Table, entry_at, table_of_node, OwnerListView, entries_of, list_of_owner, lists_in, no_writes, write_numbered, list_read, HistoriesView, StandsAmong, StandsBeside, generation_at, staleness_of, staleness_at, is_left_over, leftover_at, stale_count, base_of, IsNumberAt, number_staleness, IsLastNumber, StandTogether, MayBeCounted}
use Rattle.version_lags.proofs.Lagging.{last_fresh, stale_by_number, left_over-by_number, own_is_last, key_held}

-- what is 0, or above how many writes are of earlier generations, is of no earlier one
pub none_upto : (c base : ℕ) → (0 < c → base < c) → (nat_lt 0 c && nat_le c base) ≡ false
none_upto c base above = grind (arith, nat_tests)

module _ (tables : List Table) (h : HistoriesView) (are : StandTogether tables h) where
  abbrev lists : List OwnerListView
  lists = h.lists

  pub stands : (r : ℕ) → r < length lists → StandsAmong h (table_of_node tables r)
  stands r lt = are.standing r (omega (arith, are.one_list_each))

  node : (r : ℕ) → r < length lists → (table_of_node tables r).node ≡ r
  node r lt = (are.cluster.tables r (omega (arith, are.one_list_each))).node

  beside : (r : ℕ) → r < length lists → StandsBeside (table_of_node tables r) (list_of_owner lists r)
  beside r lt = subst (λ o. StandsBeside (table_of_node tables r) (list_of_owner lists o)) (node r lt) (stands r lt).own

  -- each key that an owner wrote is one of the keys
  pub key_within : (r m : ℕ) (e : Entry) → r < length lists → write_numbered (entries_of (list_of_owner lists r)) m ≡ Some e
      → base_of (list_of_owner lists r) < m → e.key < h.keys
  key_within r m e lt is current =
      let keys = (stands r lt).keys in
      omega (arith, key_held (list_of_owner lists r) (are.writes r) (table_of_node tables r) (stands r lt).proper (beside r lt) m e is current)

module _ (tables : List Table) (h : HistoriesView) (are : MayBeCounted tables h) (p r k c : ℕ) (in_p : p < length h.lists) (in_r : r < length h.lists)
    (at : IsNumberAt h.lists (table_of_node tables p) r k c) where
  abbrev list : OwnerListView
  list = list_of_owner h.lists r

  -- an owner's own number is its last one
  at_own : p ≡ r → IsLastNumber list k c
  at_own same =
      let t = table_of_node tables r in let own = subst (λ q. IsNumberAt h.lists (table_of_node tables q) r k c) same at in
      own_is_last list (are.together.writes r) t (stands tables h are.together r in_r).proper (beside tables h are.together r in_r) k c
      (ap (λ o. entry_at t o k) (node tables h are.together r in_r) ∙ own.held) own.written

  generation : generation_at tables r ≡ list.generation
  generation = (beside tables h are.together r in_r).generation

  -- a copy has been behind for as long as its number
  pub place_staleness : staleness_at h.rounds tables (lists_in h.lists) p r k ≡ number_staleness h.rounds list k c
  place_staleness = elim (cases_eq p r) [
    | inl same ↦
        let fresh = last_fresh list (are.together.writes r) (are.written.in_order r) h.rounds k c c (at_own same) (omega arith) at.written in
        rw (eq-eqb p r same) (sym fresh)
    | inr other ↦
        let read = list_read h.lists r no_writes [] in_r in
        rw (ne_eqb p r other) (λ i. staleness_of h.rounds (generation i) (read i) k (mark_held (at.held i)))
  ]

  pub place_stale : (last : ℕ) → IsLastNumber list k last
      → stale_count (staleness_at h.rounds tables (lists_in h.lists) p r k) ≡ (if nat_lt c last then 1 else 0)
  place_stale last is = ap stale_count place_staleness ∙ stale_by_number list (are.together.writes r) (are.written.in_order r) h.rounds k last c is at.written

  -- of a node's own part nothing is left over
  pub place_left : leftover_at tables p r k ≡ (if nat_lt 0 c && nat_le c (base_of list) then 1 else 0)
  place_left = elim (cases_eq p r) [
    | inl same ↦ rw (eq-eqb p r same, none_upto c (base_of list) (λ some. ((at_own same).there 0 some).1.current))
    | inr other ↦
        let left = (λ i. is_left_over (generation i) (at.held i)) ∙ left_over-by_number list (are.together.writes r) c at.written in
        rw (ne_eqb p r other) (ap {B = ℕ} (λ b. if b then 1 else 0) left)
  ]
