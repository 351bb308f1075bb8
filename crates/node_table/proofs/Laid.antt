-- Rows among the slots: how long they are, and what stays where one of them is written anew.
-- Serves most of the crate.
use Rattle.node_table.proofs.Common.{◌≡◌, ◌≢◌, ℕ, suc, ◌+◌, ◌<◌, ◌≤◌, cond, List, [], ◌∷◌, length, get_or, set, take, drop, Some, None, All, ◌⊎◌, inl, inr, refl, sym, ap, ◌∙◌, subst, arith, sum_by, AllPairs, mul-le-mul_right, mul-le-mul_left, cases_lt, cases_eq, eq-eqb, ne_eqb, length-take-le, length-drop, length-map, length-set, get_or_past, get_or-set_same, get_or-set_other, All-head, All-tail, sum_by-cons, sum_by-set, sum_by-le, Entry, MOST_NODES, MOST_KEYS}
use Rattle.std.proofs.lemmas.List.{get_or-map}
use Rattle.node_table.specs.declared.layouts.Row.{Row}
use Rattle.node_table.specs.inner.Layouts.{entries_in_row, rows_of, row_at, row_len, block_len, IsRow, IsInSlots, AreApart, AreLaid, IsPut, IsPlaced, IsRenewed, KeepOutside}
use Rattle.node_table.proofs.InRow.{row_fits}

pub length-entries_in_row : (keys : ℕ) (slots : List Entry) (r : Row) → IsInSlots keys slots r → length (entries_in_row slots r) ≡ r.len
length-entries_in_row keys slots r lies = length-take-le r.len (drop r.start slots) (omega (arith, lies.within, length-drop r.start slots))

pub len-le-keys : (keys : ℕ) (slots : List Entry) (r : Row) → IsInSlots keys slots r → r.len ≤ keys
len-le-keys keys slots r lies = omega (arith, length-entries_in_row keys slots r lies, row_fits keys (entries_in_row slots r) lies.row.apart lies.row.keys_below)

pub entries_in_row-empty : (slots : List Entry) (r : Row) → r.len ≡ 0 → entries_in_row slots r ≡ []
entries_in_row-empty slots r empty = ap (λ n. take n (drop r.start slots)) empty

pub row_at-get_or : (slots : List Entry) (rows : List Row) (owner : ℕ) (d : Row) → owner < length rows → row_at slots rows owner ≡ entries_in_row slots (get_or rows owner d)
row_at-get_or slots rows owner d lt = get_or-map (entries_in_row slots) rows owner d [] lt

pub row_at-past : (slots : List Entry) (rows : List Row) (owner : ℕ) → length rows ≤ owner → row_at slots rows owner ≡ []
row_at-past slots rows owner past = get_or_past (rows_of slots rows) owner [] (omega (arith, length-map rows (entries_in_row slots)))

-- all rows together
pub total-rows : (keys : ℕ) (slots : List Entry) (rows : List Row) → All (IsInSlots keys slots) rows → sum_by length (rows_of slots rows) ≡ sum_by row_len rows
total-rows keys slots [] each = refl
total-rows keys slots (r ∷ rs) each =
    omega (arith, sum_by-cons length (entries_in_row slots r) (rows_of slots rs), sum_by-cons row_len r rs, length-entries_in_row keys slots r (All-head (IsInSlots keys slots) r rs each), total-rows keys slots rs (All-tail (IsInSlots keys slots) r rs each))

pub total-le : (keys : ℕ) (slots : List Entry) (rows : List Row) → All (IsInSlots keys slots) rows → sum_by row_len rows ≤ Rattle.std.proofs.Common.◌*◌ (length rows) keys
total-le keys slots rows each = sum_by-le row_len keys rows (λ k d lt. len-le-keys keys slots (get_or rows k d) (each k d lt))

-- so no more than the limits let through
pub total-most : (nodes keys : ℕ) (slots : List Entry) (rows : List Row) → AreLaid nodes keys slots rows → nodes ≤ MOST_NODES → keys ≤ MOST_KEYS → sum_by row_len rows ≤ Rattle.std.proofs.Common.◌*◌ MOST_NODES MOST_KEYS
total-most nodes keys slots rows laid few_nodes few_keys =
    omega (arith, total-le keys slots rows laid.each, ap (λ n. Rattle.std.proofs.Common.◌*◌ n keys) laid.as_many, mul-le-mul_right keys few_nodes, mul-le-mul_left MOST_NODES few_keys)

-- there are no more slots than keys of all nodes
pub slots-le : (nodes keys : ℕ) (slots : List Entry) (rows : List Row) → AreLaid nodes keys slots rows → length slots ≤ Rattle.std.proofs.Common.◌*◌ nodes keys
slots-le nodes keys slots rows laid =
    let most = sum_by-le (block_len keys) keys rows (λ k d lt. at_most (get_or rows k d)) in
    subst (λ n. length slots ≤ Rattle.std.proofs.Common.◌*◌ n keys) laid.as_many (omega (arith, laid.filled, most))
  where
    at_most : (r : Row) → block_len keys r ≤ keys
    at_most r = elim (Rattle.std.proofs.Common.◌==◌ r.len 0) as (λ b. cond b 0 keys ≤ keys) [ Rattle.std.proofs.Common.true ↦ omega arith | Rattle.std.proofs.Common.false ↦ omega arith ]

turned : (keys : ℕ) (r s : Row) → AreApart keys r s → AreApart keys s r
turned keys r s apart some other = elim (apart other some) [ inl before ↦ inr before | inr behind ↦ inl behind ]

-- any two rows
pub apart_at : (nodes keys : ℕ) (slots : List Entry) (rows : List Row) (i j : ℕ) (d : Row) → AreLaid nodes keys slots rows → i < length rows → j < length rows → i ≢ j → AreApart keys (get_or rows i d) (get_or rows j d)
apart_at nodes keys slots rows i j d laid lt lt' other = elim (cases_lt i j) [
  | inl before ↦ laid.apart i j d before lt'
  | inr not_before ↦ turned keys (get_or rows j d) (get_or rows i d) (laid.apart j i d (omega arith) lt)
]

module _ (nodes keys : ℕ) (slots slots' : List Entry) (rows : List Row) (owner : ℕ) (r r' : Row) (laid : AreLaid nodes keys slots rows) (lt : owner < length rows) (is : (d : Row) → get_or rows owner d ≡ r) (longer : length slots ≤ length slots') (lies : IsInSlots keys slots' r') (kept : (k : ℕ) (d : Row) → k < length rows → k ≢ owner → entries_in_row slots' (get_or rows k d) ≡ entries_in_row slots (get_or rows k d)) (apart : (k : ℕ) (d : Row) → k < length rows → k ≢ owner → AreApart keys (get_or rows k d) r') (filled : length slots' + block_len keys r ≡ length slots + block_len keys r') where
  each_after : All (IsInSlots keys slots') (set rows owner r')
  each_after k d in_range =
      let len = length-set rows owner r' in
      elim (cases_eq k owner) [
        | inl own ↦ subst (λ j. IsInSlots keys slots' (get_or (set rows owner r') j d)) (sym own) (subst (IsInSlots keys slots') (sym (get_or-set_same rows owner r' d lt)) lies)
        | inr other ↦ subst (IsInSlots keys slots') (sym (get_or-set_other rows owner k r' d other)) (record {
          within = omega (arith, (laid.each k d (omega arith)).within);
          block = λ some. omega (arith, (laid.each k d (omega arith)).block some);
          row = subst (IsRow keys) (sym (kept k d (omega arith) other)) (laid.each k d (omega arith)).row;
        })
      ]

  own_is : (k : ℕ) (d : Row) → k ≡ owner → get_or (set rows owner r') k d ≡ r'
  own_is k d own = subst (λ j. get_or (set rows owner r') j d ≡ r') (sym own) (get_or-set_same rows owner r' d lt)

  pairs_after : AllPairs (AreApart keys) (set rows owner r')
  pairs_after i j d before in_range =
      let len = length-set rows owner r' in
      elim (cases_eq i owner) [
        | inl own ↦ subst (λ x. AreApart keys x (get_or (set rows owner r') j d)) (sym (own_is i d own)) (subst (AreApart keys r') (sym (get_or-set_other rows owner j r' d (omega arith))) (turned keys (get_or rows j d) r' (apart j d (omega arith) (omega arith))))
        | inr other ↦ subst (λ x. AreApart keys x (get_or (set rows owner r') j d)) (sym (get_or-set_other rows owner i r' d other)) (elim (cases_eq j owner) [
          | inl own ↦ subst (AreApart keys (get_or rows i d)) (sym (own_is j d own)) (apart i d (omega arith) other)
          | inr other' ↦ subst (AreApart keys (get_or rows i d)) (sym (get_or-set_other rows owner j r' d other')) (laid.apart i j d before (omega arith))
        ])
      ]

  pub laid_after : AreLaid nodes keys slots' (set rows owner r')
  laid_after = record {
    as_many = length-set rows owner r' ∙ laid.as_many;
    each = each_after;
    apart = pairs_after;
    filled = omega (arith, sum_by-set (block_len keys) rows owner r' r lt, ap (block_len keys) (is r), laid.filled);
  }

  pub own_after : row_at slots' (set rows owner r') owner ≡ entries_in_row slots' r'
  own_after = row_at-get_or slots' (set rows owner r') owner r (omega (arith, length-set rows owner r')) ∙ ap (entries_in_row slots') (get_or-set_same rows owner r' r lt)

  pub other_after : (o : ℕ) → o ≢ owner → row_at slots' (set rows owner r') o ≡ row_at slots rows o
  other_after o other =
      let len = length-set rows owner r' in
      elim (cases_lt o (length rows)) [
        | inl in_range ↦ row_at-get_or slots' (set rows owner r') o r (omega arith) ∙ ap (entries_in_row slots') (get_or-set_other rows owner o r' r other) ∙ kept o r in_range other ∙ sym (row_at-get_or slots rows o r in_range)
        | inr past ↦ row_at-past slots' (set rows owner r') o (omega arith) ∙ sym (row_at-past slots rows o past)
      ]

  own_before : row_at slots rows owner ≡ entries_in_row slots r
  own_before = row_at-get_or slots rows owner r lt ∙ ap (entries_in_row slots) (is r)

  pub placed_after : (entry : Entry) → IsPut keys entry (entries_in_row slots r) (entries_in_row slots' r') → IsPlaced keys owner entry slots slots' rows (set rows owner r')
  placed_after entry put =
      let lies_before = subst (IsInSlots keys slots) (is r) (laid.each owner r lt) in
      record {
        put = rw (own_before, own_after) put;
        others = other_after;
        counted = omega (arith, sum_by-set row_len rows owner r' r lt, ap row_len (is r), ap length own_before, ap length own_after, length-entries_in_row keys slots r lies_before, length-entries_in_row keys slots' r' lies);
      }

  pub renewed_after : (entry : Entry) → entries_in_row slots' r' ≡ entry ∷ [] → IsRenewed owner entry slots slots' rows (set rows owner r')
  renewed_after entry alone =
      let lies_before = subst (IsInSlots keys slots) (is r) (laid.each owner r lt) in
      record {
        alone = own_after ∙ alone;
        others = other_after;
        counted = omega (arith, sum_by-set row_len rows owner r' r lt, ap row_len (is r), ap length own_before, ap length alone, length-entries_in_row keys slots r lies_before, length-entries_in_row keys slots' r' lies);
      }

pub block_len-some : (keys : ℕ) (r : Row) → 0 < r.len → block_len keys r ≡ keys
block_len-some keys r some = ap (λ b. cond b 0 keys) (ne_eqb r.len 0 (omega arith))

pub block_len-none : (keys : ℕ) (r : Row) → r.len ≡ 0 → block_len keys r ≡ 0
block_len-none keys r none = ap (λ b. cond b 0 keys) (eq-eqb r.len 0 none)

-- a row that stays where it is, and changes within its block
module _ (nodes keys : ℕ) (slots slots' : List Entry) (rows : List Row) (owner : ℕ) (r r' : Row) (laid : AreLaid nodes keys slots rows) (lt : owner < length rows) (is : (d : Row) → get_or rows owner d ≡ r) (held : 0 < r.len) (start : r'.start ≡ r.start) (within : r'.len ≤ keys) (anew : IsRow keys (entries_in_row slots' r')) (some_anew : 0 < length (entries_in_row slots' r')) (len : length slots' ≡ length slots) (others : KeepOutside slots slots' r.start keys) where
  lies_before : IsInSlots keys slots r
  lies_before = subst (IsInSlots keys slots) (is r) (laid.each owner r lt)

  lies_in : IsInSlots keys slots' r'
  lies_in = record { within = omega (arith, lies_before.block held); block = λ some. omega (arith, lies_before.block held); row = anew }

  some_in : 0 < r'.len
  some_in = omega (arith, some_anew, length-entries_in_row keys slots' r' lies_in)

  apart_in : (k : ℕ) (d : Row) → k < length rows → k ≢ owner → AreApart keys (get_or rows k d) r
  apart_in k d in_range other = subst (AreApart keys (get_or rows k d)) (is d) (apart_at nodes keys slots rows k owner d laid in_range lt other)

  kept_in : (k : ℕ) (d : Row) → k < length rows → k ≢ owner → entries_in_row slots' (get_or rows k d) ≡ entries_in_row slots (get_or rows k d)
  kept_in k d in_range other = elim (cases_lt 0 (get_or rows k d).len) [
    | inr none ↦ entries_in_row-empty slots' (get_or rows k d) (omega arith) ∙ sym (entries_in_row-empty slots (get_or rows k d) (omega arith))
    | inl some ↦ others (get_or rows k d) (elim (apart_in k d in_range other some held) [
      | inl before ↦ inl (omega (arith, len-le-keys keys slots (get_or rows k d) (laid.each k d in_range)))
      | inr behind ↦ inr behind
    ])
  ]

  apart_anew : (k : ℕ) (d : Row) → k < length rows → k ≢ owner → AreApart keys (get_or rows k d) r'
  apart_anew k d in_range other some _ = elim (apart_in k d in_range other some held) [ inl before ↦ inl (omega arith) | inr behind ↦ inr (omega arith) ]

  filled_in : length slots' + block_len keys r ≡ length slots + block_len keys r'
  filled_in = omega (arith, block_len-some keys r held, block_len-some keys r' some_in)

  pub laid_put : AreLaid nodes keys slots' (set rows owner r')
  laid_put = laid_after nodes keys slots slots' rows owner r r' laid lt is (omega arith) lies_in kept_in apart_anew filled_in

  pub placed_put : (entry : Entry) → IsPut keys entry (entries_in_row slots r) (entries_in_row slots' r') → IsPlaced keys owner entry slots slots' rows (set rows owner r')
  placed_put = placed_after nodes keys slots slots' rows owner r r' laid lt is (omega arith) lies_in kept_in apart_anew filled_in

  pub renewed_put : (entry : Entry) → entries_in_row slots' r' ≡ entry ∷ [] → IsRenewed owner entry slots slots' rows (set rows owner r')
  renewed_put = renewed_after nodes keys slots slots' rows owner r r' laid lt is (omega arith) lies_in kept_in apart_anew filled_in
