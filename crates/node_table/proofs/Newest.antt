-- An entry that is newer than all others of its row: they close up, and it comes behind them.
-- Serves `keep_others` and `put_in`.
use Rattle.node_table.proofs.Common.{◌≡◌, ◌≢◌, ℕ, zero, suc, ◌+◌, ◌-◌, ◌<◌, ◌≤◌, Bool, false, cond, not, List, [], ◌∷◌, ◌++◌, length, get_or, set, All, ◌⊎◌, inl, inr, refl, sym, ap, ◌∙◌, subst, arith, is_lt, nat_cmp, ordering_then, AllPairs, filter, remove, cases_eq, eq-eqb, ne_eqb, get_or_default, length-set, take-set, drop-set-lt, length-remove, length-insert, insert_end, All-cons, All-nil, All-tail, FiltersInPlace, FiltersInPlace-more_no, Entry, HaveTwoKeys, nat_cmp-greater, place_less}
use Rattle.node_table.specs.inner.Layouts.{has_other_key, IsRow, IsIndexOf, IsRankOf, IsPut}
use Rattle.node_table.proofs.InRow.{rank_place, row_fits, room_for_key, all-remove, put_at_rank, row_remove, absent_remove, put_over}

-- an element that doesn't pass may be written all the same
pub written_over : {X : Type 0} (p : X → Bool) (xs ys : List X) (k i : ℕ) (x : X) → FiltersInPlace p xs ys k i → i < length ys → p x ≡ false → x ≡ get_or ys i x → FiltersInPlace p xs (set ys k x) k (i + 1)
written_over p xs ys k i x f lt fails read =
    let g = FiltersInPlace-more_no f lt fails read in
    record {
      front = take-set ys k x ∙ g.front;
      rest = drop-set-lt (i + 1) ys k x (omega (arith, f.behind)) ∙ g.rest;
      behind = g.behind;
      within = g.within;
      long = length-set ys k x ∙ g.long;
    }

none_taken : (row : List Entry) (key : ℕ) → All (λ e. e.key ≢ key) row → filter (has_other_key key) row ≡ row
none_taken [] key absent = refl
none_taken (x ∷ xs) key absent =
    ap (λ b. cond (not b) (x ∷ filter (has_other_key key) xs) (filter (has_other_key key) xs)) (ne_eqb x.key key (absent 0 x (omega arith)))
    ∙ ap (λ ys. x ∷ ys) (none_taken xs key (All-tail (λ e. e.key ≢ key) x xs absent))

-- the entries of other keys are all, or all but one
abbrev Taken : List Entry → ℕ → Type 0
Taken row key = (All (λ e. e.key ≢ key) row × (filter (has_other_key key) row ≡ row)) ⊎ ((index : ℕ) × IsIndexOf row key index × (index < length row) × (filter (has_other_key key) row ≡ remove row index))

taken : (row : List Entry) (key : ℕ) → AllPairs HaveTwoKeys row → Taken row key
taken [] key apart = inl (All-nil (λ (e : Entry). e.key ≢ key), refl)
taken (x ∷ xs) key apart = elim (cases_eq x.key key) [
  | inl own ↦
      let absent : All (λ (e : Entry). e.key ≢ key) xs = λ k d lt same. apart 0 (suc k) d (omega arith) (omega arith) (own ∙ sym same) in
      inr (
        0,
        record { within = omega arith; here = λ d lt. own; before = λ k d lt. absurd (omega arith) },
        omega arith,
        ap (λ b. cond (not b) (x ∷ filter (has_other_key key) xs) (filter (has_other_key key) xs)) (eq-eqb x.key key own) ∙ none_taken xs key absent,
      )
  | inr other ↦
      let keeps = ap (λ b. cond (not b) (x ∷ filter (has_other_key key) xs) (filter (has_other_key key) xs)) (ne_eqb x.key key other) in
      later other keeps (taken xs key (λ i j d lt in_range. apart (suc i) (suc j) d (omega arith) (omega arith)))
]
  where
    later : x.key ≢ key → filter (has_other_key key) (x ∷ xs) ≡ x ∷ filter (has_other_key key) xs → Taken xs key → Taken (x ∷ xs) key
    later other keeps (inl (absent, same)) = inl (All-cons (λ (e : Entry). e.key ≢ key) x xs other absent, keeps ∙ ap (λ ys. x ∷ ys) same)
    later other keeps (inr (index, found, lt, same)) = inr (
      suc index,
      record {
        within = omega arith;
        here = λ d below. found.here d lt;
        before = λ k d below. first k d below;
      },
      omega arith,
      keeps ∙ ap (λ ys. x ∷ ys) same,
    )
      where
        first : (k : ℕ) (d : Entry) → k < suc index → (get_or (x ∷ xs) k d).key ≢ key
        first zero d below = other
        first (suc k) d below = found.before k d (omega arith)

-- behind entries of lower versions is an entry's rank
last_rank : (row : List Entry) (entry : Entry) → All (λ e. e.version < entry.version) row → IsRankOf row entry (length row)
last_rank row entry lower = record {
  within = omega arith;
  front = λ d some. ap (λ r. is_lt (ordering_then r (nat_cmp entry.key (get_or row (length row - 1) d).key))) (nat_cmp-greater entry.version (get_or row (length row - 1) d).version (lower (length row - 1) d (omega arith)));
  behind = λ k d le lt. absurd (omega arith);
}

module _ (keys : ℕ) (row : List Entry) (entry : Entry) (is_row : IsRow keys row) (lower : All (λ e. e.version < entry.version) row) (below : entry.key < keys) (written : 1 ≤ entry.version) where
  at_end : (rest : List Entry) → IsRow keys rest → All (λ e. e.key ≢ entry.key) rest → All (λ e. e.version < entry.version) rest → IsPut keys entry rest (rest ++ entry ∷ [])
  at_end rest rest_is absent rest_lower = subst (IsPut keys entry rest) (insert_end rest entry) (put_at_rank keys rest entry (length rest) rest_is absent (last_rank rest entry rest_lower) below written)

  lower_remove : (index : ℕ) → index < length row → All (λ e. e.version < entry.version) (remove row index)
  lower_remove index lt = all-remove (λ e. e.version < entry.version) row index lt lower

  -- the entry put behind those of other keys
  pub put_newest : IsPut keys entry row (filter (has_other_key entry.key) row ++ entry ∷ [])
  put_newest = elim (taken row entry.key is_row.apart) [
    | inl (absent, same) ↦ subst (λ xs. IsPut keys entry row (xs ++ entry ∷ [])) (sym same) (at_end row is_row absent lower)
    | inr (index, found, lt, same) ↦
        let put = at_end (remove row index) (row_remove keys row entry.key index is_row found lt) (absent_remove keys row entry.key index is_row found lt) (lower_remove index lt) in
        subst (λ xs. IsPut keys entry row (xs ++ entry ∷ [])) (sym same)
        (put_over keys row entry.key index is_row found lt entry (remove row index ++ entry ∷ []) refl (omega (arith, length-remove row index lt, ap length (insert_end (remove row index) entry), length-insert (remove row index) (length (remove row index)) entry (omega arith))) put)
  ]

  -- there is a slot for it
  pub newest_fits : length (filter (has_other_key entry.key) row) < keys
  newest_fits = elim (taken row entry.key is_row.apart) [
    | inl (absent, same) ↦ omega (arith, ap length same, room_for_key keys row entry is_row absent below)
    | inr (index, found, lt, same) ↦ omega (arith, ap length same, length-remove row index lt, row_fits keys row is_row.apart is_row.keys_below)
  ]

-- where the last version is lower all are
pub lower_from_last : (keys : ℕ) (row : List Entry) (version : ℕ) (d : Entry) → IsRow keys row → (get_or row (length row - 1) d).version < version → All (λ e. e.version < version) row
lower_from_last keys row version d is_row last k e lt =
    let last_is = ap (λ (x : Entry). x.version) (get_or_default row (length row - 1) d e (omega arith)) in
    elim (cases_eq k (length row - 1)) [
      | inl same ↦ omega (arith, last_is, ap (λ j. (get_or row j e).version) same)
      | inr other ↦ elim (place_less (rank_place (get_or row k e)) (rank_place (get_or row (length row - 1) e)) (is_row.rising k (length row - 1) e (omega arith) (omega arith))) [
        | inl less ↦ omega (arith, last_is, less)
        | inr tied ↦ omega (arith, last_is, tied.0)
      ]
    ]
