-- Copies that hold what their owners' own tables do, where these miss nothing.
-- Serves `current_nodes` and `figures_of_node`.
use Rattle.staleness.proofs.Common.{◌≡◌, ◌↔◌, ℕ, suc, ◌+◌, ◌<◌, ◌&&◌, Bool, true, false, eqb, List, [], ◌∷◌, ◌++◌, length, get_or, if◌then◌else◌, max, None, Some, IsTrue, inl, inr, refl, sym, ap, ◌∙◌, subst, arith, add-one, length-append, get_or_append_left, get_or-append_seam, cases_eq, and_parts, eq-eqb, eqb-true, le-ltb, Decides, pointwise, slice_eq-Decides, fold_below-same, fold_below-none, sums, greatest, Entry, Figures, absent, mark_held, Table, entry_at, IsProper, IsTableOf, table_of_node, is_left_over, stale_count, rounds_behind, staleness_of, staleness_at, leftover_at, copy_figures, writes_of_owner, Write, AreAbove}
use Rattle.bench_types.specs.contracts.entries.EntryPartialEq.TheImpl.{eq-value}
use Rattle.staleness.specs.inner.Totals.{nothing, total_below, IsCurrent, AreCurrent, AreCountable}

-- one node more
pub current_more : (round : ℕ) (tables : List Table) (lists : List (List Write)) (n : ℕ) (current : List Bool) (b : Bool)
    → AreCurrent round tables lists n current → IsTrue b ↔ IsCurrent round (table_of_node tables n) (writes_of_owner lists n)
    → AreCurrent round tables lists (n + 1) (current ++ b ∷ [])
current_more round tables lists n current b before last = record {
  count = omega (arith, length-append current (b ∷ []), before.count);
  each = λ r d lt. elim (cases_eq r n) [
    | inl is ↦
        let there : get_or (current ++ b ∷ []) r d ≡ b = ap (λ k. get_or (current ++ b ∷ []) k d) (is ∙ sym before.count) ∙ get_or-append_seam current b [] d in
        subst (λ x. IsTrue x ↔ IsCurrent round (table_of_node tables r) (writes_of_owner lists r)) (sym there) (subst (λ k. IsTrue b ↔ IsCurrent round (table_of_node tables k) (writes_of_owner lists k)) (sym is) last)
    | inr differs ↦
        let lower : r < n = omega (arith, lt, differs) in
        subst (λ x. IsTrue x ↔ IsCurrent round (table_of_node tables r) (writes_of_owner lists r)) (sym (get_or_append_left current (b ∷ []) d r (omega (arith, lower, before.count)))) (before.each r d lower)
  ];
}

abbrev counted : Bool → ℕ
counted b = if b then 1 else 0

chosen : (b : Bool) (n : ℕ) → n ≡ 0 → (if b then 0 else n) ≡ 0
chosen true n none = refl
chosen false n none = none

-- entries that compare as equal are the same
entry_eq : (a b : Entry) → Decides (eq-value.it a b) (a ≡ b)
entry_eq a b = (
  λ h.
      let (key, above_key) = and_parts (eqb a.key b.key) (eqb a.generation b.generation && (eqb a.version b.version && (eqb a.value b.value && eqb a.born b.born))) h in
      let (generation, above_generation) = and_parts (eqb a.generation b.generation) (eqb a.version b.version && (eqb a.value b.value && eqb a.born b.born)) above_key in
      let (version, above_version) = and_parts (eqb a.version b.version) (eqb a.value b.value && eqb a.born b.born) above_generation in
      let (value, born) = and_parts (eqb a.value b.value) (eqb a.born b.born) above_version in
      λ i. record {
        key = eqb-true a.key b.key key i;
        generation = eqb-true a.generation b.generation generation i;
        version = eqb-true a.version b.version version i;
        value = eqb-true a.value b.value value i;
        born = eqb-true a.born b.born born i;
      },
  λ is. subst (λ e. eq-value.it a e ≡ true) is (rw (eq-eqb a.key a.key refl, eq-eqb a.generation a.generation refl, eq-eqb a.version a.version refl, eq-eqb a.value a.value refl, eq-eqb a.born a.born refl)),
)

pub same_rows : (copy own : List Entry) (r : Bool) → r ≡ pointwise eq-value.it copy own → r ≡ true → copy ≡ own
same_rows copy own r is told = (slice_eq-Decides entry_eq copy own r is).0 told

-- tables that hold the same entries of an owner hold the same of each of its keys
same_entry : (s t : Table) (owner : ℕ) (entries : List Entry) → IsProper s → IsProper t → AreAbove s owner absent entries → AreAbove t owner absent entries → (key : ℕ) → entry_at s owner key ≡ entry_at t owner key
same_entry s t owner entries s_proper t_proper of_s of_t key =
    elim (entry_at s owner key) as (λ o. entry_at s owner key ≡ o → o ≡ entry_at t owner key) [
      | Some e ↦ λ held. sym (also s t s_proper of_s of_t e held)
      | None ↦ λ none. elim (entry_at t owner key) as (λ o. entry_at t owner key ≡ o → None ≡ o) [
        | Some e ↦ λ held. sym none ∙ also t s t_proper of_t of_s e held
        | None ↦ λ _. refl
      ] refl
    ] refl
  where
    also : (a b : Table) → IsProper a → AreAbove a owner absent entries → AreAbove b owner absent entries → (e : Entry) → entry_at a owner key ≡ Some e → entry_at b owner key ≡ Some e
    also a b proper of_a of_b e held =
        let place = proper.in_place owner key e held in
        subst (λ k. entry_at b owner k ≡ Some e) place.keyed (of_b.held e (of_a.all key e held (record { generation = omega arith; version = λ _. place.written }))).0

module _
    (round : ℕ) (tables : List Table) (lists : List (List Write)) (countable : AreCountable round tables lists) (p r : ℕ) (p_below : p < length tables) (r_below : r < length tables)
    (p_proper : IsProper (table_of_node tables p)) (r_proper : IsProper (table_of_node tables r)) (entries : List Entry)
    (copy : AreAbove (table_of_node tables p) r absent entries) (own : AreAbove (table_of_node tables r) r absent entries)
    (current : IsCurrent round (table_of_node tables r) (writes_of_owner lists r)) where
  abbrev t : Table
  t = table_of_node tables r

  of_p : IsTableOf (length tables) (table_of_node tables 0).keys p (table_of_node tables p)
  of_p = countable.cluster.tables p p_below

  of_r : IsTableOf (length tables) (table_of_node tables 0).keys r t
  of_r = countable.cluster.tables r r_below

  same : (key : ℕ) → entry_at (table_of_node tables p) r key ≡ entry_at t r key
  same key = same_entry (table_of_node tables p) t r entries p_proper r_proper copy own key

  fresh : (key : ℕ) → key < (table_of_node tables p).keys → staleness_at round tables lists p r key ≡ None
  fresh key lt =
      let held : staleness_of round t.generation (writes_of_owner lists r) key (mark_held (entry_at (table_of_node tables p) r key)) ≡ None =
      ap (λ h. staleness_of round t.generation (writes_of_owner lists r) key (mark_held h)) (same key ∙ ap (λ n. entry_at t n key) (sym of_r.node))
      ∙ current key (omega (arith, lt, of_p.keys, of_r.keys)) in
      elim (eqb p r) as (λ b. (if b then None else staleness_of round t.generation (writes_of_owner lists r) key (mark_held (entry_at (table_of_node tables p) r key))) ≡ None) [ true ↦ refl | false ↦ held ]

  none_over : (key : ℕ) → leftover_at tables p r key ≡ 0
  none_over key =
      let same_owner = same key ∙ ap (λ n. entry_at t n key) (sym of_r.node) in
      let over : is_left_over t.generation (entry_at (table_of_node tables p) r key) ≡ false =
      ap (is_left_over t.generation) same_owner
      ∙ elim (entry_at t t.node key) as (λ o. entry_at t t.node key ≡ o → is_left_over t.generation o ≡ false) [
        | None ↦ λ _. refl
        | Some e ↦ λ held. le-ltb e.generation t.generation (omega (arith, r_proper.own key e held))
      ] refl in
      chosen (eqb p r) (counted (is_left_over t.generation (entry_at (table_of_node tables p) r key))) (ap counted over)

  pub copy_has_nothing : copy_figures round tables lists p r ≡ nothing
  copy_has_nothing =
      let keys = (table_of_node tables p).keys in
      λ j. record {
        stale = (fold_below-same sums (λ k. stale_count (staleness_at round tables lists p r k)) (λ _. 0) keys (λ k lt. ap stale_count (fresh k lt)) ∙ fold_below-none sums (λ _. 0) keys (λ _. refl)) j;
        greatest = (fold_below-same greatest (λ k. rounds_behind (staleness_at round tables lists p r k)) (λ _. 0) keys (λ k lt. ap rounds_behind (fresh k lt)) ∙ fold_below-none greatest (λ _. 0) keys (λ _. refl)) j;
        leftover = fold_below-none sums (leftover_at tables p r) keys none_over j;
      }

  gone : (x : ℕ) → x + 0 ≡ x
  gone x = omega arith

  most : (x : ℕ) → max x 0 ≡ x
  most x = omega arith

  -- the total stays
  pub total_skipped : (total : Figures) → total ≡ total_below r (copy_figures round tables lists p) → total ≡ total_below (r + 1) (copy_figures round tables lists p)
  total_skipped total is =
      let f = copy_figures round tables lists p in
      let more : total_below (suc r) f ≡ total_below r f = λ j. record {
        stale = (ap (λ (x : Figures). (total_below r f).stale + x.stale) copy_has_nothing ∙ gone (total_below r f).stale) j;
        greatest = (ap (λ (x : Figures). max (total_below r f).greatest x.greatest) copy_has_nothing ∙ most (total_below r f).greatest) j;
        leftover = (ap (λ (x : Figures). (total_below r f).leftover + x.leftover) copy_has_nothing ∙ gone (total_below r f).leftover) j;
      } in
      is ∙ sym more ∙ ap (λ n. total_below n f) (sym (add-one r))
