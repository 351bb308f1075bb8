-- A layout of which one owner's row is left, at the front.
-- Serves `Layout::forget_all`, `Layout::forget_others` and `Empty`.
use Rattle.node_table.proofs.Common.{◌≡◌, ◌≢◌, ℕ, zero, suc, ◌<◌, ◌≤◌, List, [], length, get_or, set, take, replicate, All, inl, inr, refl, sym, ap, ◌∙◌, subst, arith, sum_by, AllPairs, cases_lt, cases_eq, length-set, length-replicate, get_or-set_same, get_or-set_other, get_or-replicate, sum_by-cons, sum_by-set, Entry, Mark, Table, without_others, entry_at, generation_held, greatest_version, held_by_lists, entry_in, same_table, entry_at-without_others_own, entry_at-without_others_other, greatest_mark-without_others_own, greatest_mark-without_others_other, get-held_by_lists}
use Rattle.node_table.specs.declared.layouts.Row.{Row}
use Rattle.node_table.specs.declared.layouts.Layout.{Layout}
use Rattle.node_table.specs.Entries.{AreGenerations, AreGreatest}
use Rattle.node_table.specs.inner.Layouts.{entries_in_row, rows_of, row_at, row_len, block_len, table_laid, IsRow, IsInSlots, AreApart, AreLaid, AreOthersKept}
use Rattle.node_table.proofs.Laid.{row_at-get_or, row_at-past, block_len-some}
use Rattle.node_table.proofs.InLayout.{entry_at-in}

abbrev pub empty_row : Row
empty_row = record { start = 0; len = 0 }

-- the rows of so many owners, of whom one has entries
abbrev pub one_row : ℕ → ℕ → ℕ → List Row
one_row nodes owner len = set (replicate nodes empty_row) owner (record { start = 0; len = len })

pub empty_is_row : (keys : ℕ) → IsRow keys []
empty_is_row keys = record {
  rising = λ i j d before in_range. absurd (omega arith);
  apart = λ i j d before in_range. absurd (omega arith);
  keys_below = λ k d in_range. absurd (omega arith);
  written = λ k d in_range. absurd (omega arith);
}

pub sum_none : {X : Type 0} (f : X → ℕ) (n : ℕ) (x : X) → f x ≡ 0 → sum_by f (replicate n x) ≡ 0
sum_none f zero x none = refl
sum_none f (suc n) x none = omega (arith, sum_by-cons f x (replicate n x), sum_none f n x none, none)

module _ (nodes keys owner : ℕ) (r : Row) (slots slots' : List Entry) (below : owner < nodes) (lies : IsInSlots keys slots r) (le : r.len ≤ keys) (front : take r.len slots' ≡ entries_in_row slots r) (len : length slots' ≡ block_len keys r) where
  one_row-own : (d : Row) → get_or (one_row nodes owner r.len) owner d ≡ record { start = 0; len = r.len }
  one_row-own d = get_or-set_same (replicate nodes empty_row) owner (record { start = 0; len = r.len }) d (omega (arith, length-replicate nodes empty_row))

  one_row-other : (k : ℕ) (d : Row) → k < nodes → k ≢ owner → get_or (one_row nodes owner r.len) k d ≡ empty_row
  one_row-other k d lt other = get_or-set_other (replicate nodes empty_row) owner k (record { start = 0; len = r.len }) d other ∙ get_or-replicate nodes k empty_row d lt

  length-one_row : length (one_row nodes owner r.len) ≡ nodes
  length-one_row = length-set (replicate nodes empty_row) owner (record { start = 0; len = r.len }) ∙ length-replicate nodes empty_row

  lies_own : IsInSlots keys slots' (record { start = 0; len = r.len })
  lies_own = elim (cases_lt 0 r.len) [
    | inl some ↦ record { within = omega (arith, len, block_len-some keys r some); block = λ _. omega (arith, len, block_len-some keys r some); row = subst (IsRow keys) (sym front) lies.row }
    | inr none ↦ record { within = omega (arith, len); block = λ some. absurd (omega arith); row = subst (IsRow keys) (sym front) lies.row }
  ]

  each : All (IsInSlots keys slots') (one_row nodes owner r.len)
  each k d in_range = elim (cases_eq k owner) [
    | inl own ↦ subst (λ j. IsInSlots keys slots' (get_or (one_row nodes owner r.len) j d)) (sym own) (subst (IsInSlots keys slots') (sym (one_row-own d)) lies_own)
    | inr other ↦ subst (IsInSlots keys slots') (sym (one_row-other k d (omega (arith, length-one_row)) other)) (record { within = omega arith; block = λ some. absurd (omega arith); row = empty_is_row keys })
  ]

  none_other : (k : ℕ) (d : Row) → k < nodes → k ≢ owner → (get_or (one_row nodes owner r.len) k d).len ≡ 0
  none_other k d lt other = ap (λ (x : Row). x.len) (one_row-other k d lt other)

  apart : AllPairs (AreApart keys) (one_row nodes owner r.len)
  apart i j d before in_range some some' = elim (cases_eq i owner) [
    | inl own ↦ absurd (omega (arith, none_other j d (omega (arith, length-one_row)) (omega arith)))
    | inr other ↦ absurd (omega (arith, none_other i d (omega (arith, length-one_row)) other))
  ]

  pub laid_one : AreLaid nodes keys slots' (one_row nodes owner r.len)
  laid_one = record {
    as_many = length-one_row;
    each = each;
    apart = apart;
    filled = omega (arith, len, sum_by-set (block_len keys) (replicate nodes empty_row) owner (record { start = 0; len = r.len }) empty_row (omega (arith, length-replicate nodes empty_row)), sum_none (block_len keys) nodes empty_row refl, ap (block_len keys) (get_or-replicate nodes owner empty_row empty_row below));
  }

  pub counted_one : r.len ≡ sum_by row_len (one_row nodes owner r.len)
  counted_one = omega (arith, sum_by-set row_len (replicate nodes empty_row) owner (record { start = 0; len = r.len }) empty_row (omega (arith, length-replicate nodes empty_row)), sum_none row_len nodes empty_row refl, ap row_len (get_or-replicate nodes owner empty_row empty_row below))

  pub row_at-one_own : row_at slots' (one_row nodes owner r.len) owner ≡ entries_in_row slots r
  row_at-one_own = row_at-get_or slots' (one_row nodes owner r.len) owner empty_row (omega (arith, length-one_row)) ∙ ap (entries_in_row slots') (one_row-own empty_row) ∙ front

  pub row_at-one_other : (k : ℕ) → k ≢ owner → row_at slots' (one_row nodes owner r.len) k ≡ []
  row_at-one_other k other = elim (cases_lt k nodes) [
    | inl lt ↦ row_at-get_or slots' (one_row nodes owner r.len) k empty_row (omega (arith, length-one_row)) ∙ ap (entries_in_row slots') (one_row-other k empty_row lt other)
    | inr past ↦ row_at-past slots' (one_row nodes owner r.len) k (omega (arith, length-one_row))
  ]

-- with one row left the table is that of its owner's entries
pub table_one : (l : Layout) (slots' : List Entry) (rows' : List Row) → row_at slots' rows' l.node ≡ row_at l.slots.items l.rows.items l.node → ((k : ℕ) → k ≢ l.node → row_at slots' rows' k ≡ []) → ◌≡◌ {A = Table} (record { node = l.node; nodes = l.nodes; keys = l.keys; generation = l.generation; held = held_by_lists (rows_of slots' rows') }) (without_others (table_laid l))
table_one l slots' rows' own others = same_table _ (without_others (table_laid l)) refl refl refl refl (λ owner key. get-held_by_lists (rows_of slots' rows') owner key ∙ elim (cases_eq owner l.node) [
  | inl is ↦ subst (λ o. entry_in (row_at slots' rows' o) key ≡ entry_at (without_others (table_laid l)) o key) (sym is)
      (ap (λ row. entry_in row key) own ∙ sym (entry_at-in l l.node key) ∙ sym (entry_at-without_others_own (table_laid l) key))
  | inr other ↦ ap (λ row. entry_in row key) (others owner other) ∙ sym (entry_at-without_others_other (table_laid l) owner key other)
])

abbrev version_of : Mark → ℕ
version_of m = m.version

abbrev generation_of : Mark → ℕ
generation_of m = m.generation

-- and its greatest versions
pub greatest_one : (t : Table) (own : ℕ) → t.node < t.nodes → own ≡ greatest_version t t.node → AreGreatest (without_others t) (set (replicate t.nodes 0) t.node own)
greatest_one t own below is = record {
  count = length-set (replicate t.nodes 0) t.node own ∙ length-none;
  greatest = λ o lt. elim (cases_eq o t.node) [
    | inl same ↦ subst (λ p. get_or (set (replicate t.nodes 0) t.node own) p 0 ≡ greatest_version (without_others t) p) (sym same)
        (get_or-set_same (replicate t.nodes 0) t.node own 0 (omega (arith, length-none)) ∙ is ∙ sym (ap version_of (greatest_mark-without_others_own t)))
    | inr other ↦ get_or-set_other (replicate t.nodes 0) t.node o own 0 other ∙ get_or-replicate t.nodes o 0 0 lt ∙ sym (ap version_of (greatest_mark-without_others_other t o other))
  ];
}
  where
    length-none : length {A = ℕ} (replicate t.nodes 0) ≡ t.nodes
    length-none = length-replicate {A = ℕ} t.nodes 0

-- and its generations, where the node's is 0
pub generations_none : (t : Table) (generations : List ℕ) → generation_held t t.node ≡ 0 → generations ≡ [] → AreGenerations (without_others t) generations
generations_none t generations zero_own none = subst (AreGenerations (without_others t)) (sym none) (record {
  count = inl refl;
  held = λ o lt. sym (elim (cases_eq o t.node) [
    | inl same ↦ subst (λ p. generation_held (without_others t) p ≡ 0) (sym same) (ap generation_of (greatest_mark-without_others_own t) ∙ zero_own)
    | inr other ↦ ap generation_of (greatest_mark-without_others_other t o other)
  ]);
})

-- or another
pub generations_one : (t : Table) (generations : List ℕ) → length generations ≡ t.nodes → get_or generations t.node 0 ≡ generation_held t t.node → AreOthersKept t.node [] generations → AreGenerations (without_others t) generations
generations_one t generations len own others = record {
  count = inr len;
  held = λ o lt. elim (cases_eq o t.node) [
    | inl same ↦ subst (λ p. get_or generations p 0 ≡ generation_held (without_others t) p) (sym same) (own ∙ sym (ap generation_of (greatest_mark-without_others_own t)))
    | inr other ↦ others o other ∙ sym (ap generation_of (greatest_mark-without_others_other t o other))
  ];
}
