-- The rows of all owners as one map: its look-ups, how many entries it has, and what an entry that comes into one
-- row does to it.
-- Serves `node_table` and `version_tables`.
use Rattle.model.proofs.Common.{◌≡◌, ◌≢◌, ℕ, zero, suc, ◌+◌, ◌<◌, cond, ◌==◌, ◌&&◌, List, [], ◌∷◌, ◌++◌, length, map, get_or, Some, None, is_some, All, inl, inr, refl, sym, ap, ◌∙◌, subst, arith, eq_by_cmp, AllPairs, get, insert, from_entries, len, get-from_entries, get-insert, len-insert, len-empty, same_map, cases_eq, eq-eqb, ne_eqb, and_left, All-head, All-tail, sum_by-cons, Entry}
use Rattle.std.specs.Prelude.{sum_by}
use Rattle.std.specs.FinMap.{find}
use Rattle.model.specs.Table.{Place, place_cmp}
use Rattle.model.specs.calls.Held.{placed, placed_from, held_by_lists}
use Rattle.model.specs.inner.Held.{entry_in, HaveTwoKeys}
use Rattle.model.proofs.Order.{place_total, place_same}
use Rattle.model.proofs.TableLaws.{tied-stands_at}

placed_tied : (owner key first : ℕ) (e : Entry) → eq_by_cmp place_cmp (owner, key) (first, e.key) ≡ (first == owner) && (e.key == key)
placed_tied owner key first e = tied-stands_at owner key (record { owner = first; entry = e })

-- another owner's entries are passed over
find-others : (owner key first : ℕ) (es : List Entry) (rest : List (Place × Entry)) → first ≢ owner → find place_cmp (owner, key) (map (placed first) es ++ rest) ≡ find place_cmp (owner, key) rest
find-others owner key first [] rest other = refl
find-others owner key first (e ∷ es) rest other =
    ap (λ b. cond b (Some e) (find place_cmp (owner, key) (map (placed first) es ++ rest))) (placed_tied owner key first e ∙ and_left (first == owner) (e.key == key) (ne_eqb first owner other))
    ∙ find-others owner key first es rest other

find-past : (owner key first : ℕ) (rows : List (List Entry)) → owner < first → find place_cmp (owner, key) (placed_from first rows) ≡ None
find-past owner key first [] past = refl
find-past owner key first (row ∷ rows) past = find-others owner key first row (placed_from (suc first) rows) (omega arith) ∙ find-past owner key (suc first) rows (omega arith)

find-own : (owner key : ℕ) (es : List Entry) (rest : List (Place × Entry)) → find place_cmp (owner, key) rest ≡ None → find place_cmp (owner, key) (map (placed owner) es ++ rest) ≡ entry_in es key
find-own owner key [] rest none = none
find-own owner key (e ∷ es) rest none =
    ap (λ b. cond b (Some e) (find place_cmp (owner, key) (map (placed owner) es ++ rest))) (placed_tied owner key owner e ∙ ap (λ b. b && (e.key == key)) (eq-eqb owner owner refl))
    ∙ ap (cond (e.key == key) (Some e)) (find-own owner key es rest none)

find-placed : (rows : List (List Entry)) (first index owner key : ℕ) → first + index ≡ owner → find place_cmp (owner, key) (placed_from first rows) ≡ entry_in (get_or rows index []) key
find-placed [] first index owner key is = refl
find-placed (row ∷ rows) first zero owner key is =
    let same : owner ≡ first = omega arith in
    subst (λ f. find place_cmp (owner, key) (map (placed f) row ++ placed_from (suc first) rows) ≡ entry_in row key) same
    (find-own owner key row (placed_from (suc first) rows) (find-past owner key (suc first) rows (omega arith)))
find-placed (row ∷ rows) first (suc index) owner key is =
    find-others owner key first row (placed_from (suc first) rows) (omega arith) ∙ find-placed rows (suc first) index owner key (omega arith)

-- what is held at a place is the key's entry in the owner's row
pub get-held_by_lists : (rows : List (List Entry)) (owner key : ℕ) → get (held_by_lists rows) (owner, key) ≡ entry_in (get_or rows owner []) key
unfolding held_by_lists
get-held_by_lists rows owner key = get-from_entries place_total (placed_from 0 rows) (owner, key) ∙ find-placed rows 0 owner owner key (omega arith)

pub entry_in-none : (es : List Entry) (key : ℕ) → All (λ e. e.key ≢ key) es → entry_in es key ≡ None
entry_in-none [] key absent = refl
entry_in-none (e ∷ es) key absent = ap (λ b. cond b (Some e) (entry_in es key)) (ne_eqb e.key key (absent 0 e (omega arith))) ∙ entry_in-none es key (All-tail (λ e. e.key ≢ key) e es absent)

len-row : (first : ℕ) (es : List Entry) (rows : List (List Entry)) → AllPairs HaveTwoKeys es → len (from_entries {R = place_cmp} (map (placed first) es ++ placed_from (suc first) rows)) ≡ length es + len (from_entries {R = place_cmp} (placed_from (suc first) rows))
len-row first [] rows apart = omega arith
len-row first (e ∷ es) rows apart =
    let others = from_entries {R = place_cmp} (map (placed first) es ++ placed_from (suc first) rows) in
    let absent : get others (first, e.key) ≡ None =
    get-from_entries place_total (map (placed first) es ++ placed_from (suc first) rows) (first, e.key)
    ∙ find-own first e.key es (placed_from (suc first) rows) (find-past first e.key (suc first) rows (omega arith))
    ∙ entry_in-none es e.key (λ k d lt same. apart 0 (suc k) d (omega arith) (omega arith) (sym same)) in
    let one_more = len-insert place_total others (first, e.key) e ∙ ap (λ o. cond (is_some o) (len others) (len others + 1)) absent in
    let behind = len-row first es rows (λ i j d lt in_range. apart (suc i) (suc j) d (omega arith) (omega arith)) in
    omega (arith, one_more, behind)

len-placed : (first : ℕ) (rows : List (List Entry)) → All (AllPairs HaveTwoKeys) rows → len (from_entries {R = place_cmp} (placed_from first rows)) ≡ sum_by length rows
len-placed first [] apart = len-empty place_cmp Entry
len-placed first (row ∷ rows) apart =
    omega (arith, len-row first row rows (All-head (AllPairs HaveTwoKeys) row rows apart), len-placed (suc first) rows (All-tail (AllPairs HaveTwoKeys) row rows apart), sum_by-cons length row rows)

-- there are as many as all rows have
pub len-held_by_lists : (rows : List (List Entry)) → All (AllPairs HaveTwoKeys) rows → len (held_by_lists rows) ≡ sum_by length rows
unfolding held_by_lists
len-held_by_lists rows apart = len-placed 0 rows apart

-- an entry that comes into one row comes in at its place
module _ (before after : List (List Entry)) (owner : ℕ) (e : Entry) (same : (other : ℕ) → other ≢ owner → get_or after other [] ≡ get_or before other []) (here : entry_in (get_or after owner []) e.key ≡ Some e) (others : (key : ℕ) → key ≢ e.key → entry_in (get_or after owner []) key ≡ entry_in (get_or before owner []) key) where
  looked : (o key : ℕ) → entry_in (get_or after o []) key ≡ cond ((owner == o) && (e.key == key)) (Some e) (entry_in (get_or before o []) key)
  looked o key = elim (cases_eq o owner) [
    | inr other ↦ ap (λ row. entry_in row key) (same o other) ∙ sym (ap (λ b. cond b (Some e) (entry_in (get_or before o []) key)) (and_left (owner == o) (e.key == key) (ne_eqb owner o (λ is. other (sym is)))))
    | inl own ↦ subst (λ p. entry_in (get_or after p []) key ≡ cond ((owner == p) && (e.key == key)) (Some e) (entry_in (get_or before p []) key)) (sym own) (
        subst (λ b. entry_in (get_or after owner []) key ≡ cond (b && (e.key == key)) (Some e) (entry_in (get_or before owner []) key)) (sym (eq-eqb owner owner refl)) (elim (cases_eq key e.key) [
          | inl is ↦ subst (λ k. entry_in (get_or after owner []) k ≡ cond (e.key == k) (Some e) (entry_in (get_or before owner []) k)) (sym is) (here ∙ sym (ap (λ b. cond b (Some e) (entry_in (get_or before owner []) e.key)) (eq-eqb e.key e.key refl)))
          | inr differs ↦ others key differs ∙ sym (ap (λ b. cond b (Some e) (entry_in (get_or before owner []) key)) (ne_eqb e.key key (λ is. differs (sym is))))
        ]))
  ]

  pub held_by_lists-put : held_by_lists after ≡ insert (held_by_lists before) (owner, e.key) e
  held_by_lists-put = same_map place_total place_same _ _ (λ q.
      get-held_by_lists after q.0 q.1 ∙ looked q.0 q.1
      ∙ ap (cond ((owner == q.0) && (e.key == q.1)) (Some e)) (sym (get-held_by_lists before q.0 q.1))
      ∙ ap (λ b. cond b (Some e) (get (held_by_lists before) q)) (sym (placed_tied q.0 q.1 owner e))
      ∙ sym (get-insert place_total (held_by_lists before) (owner, e.key) e q))
