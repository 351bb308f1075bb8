-- The table that lies in memory: its look-ups, its rows, its count, and that it is proper.
-- Serves the functions of `layouts`, `rows` and `tables`, `Flags`, `Forgotten` and `Opened`.
use Rattle.node_table.proofs.Common.{◌≡◌, ◌≢◌, ℕ, zero, suc, ◌+◌, ◌-◌, ◌<◌, ◌≤◌, cond, ◌==◌, true, false, List, [], ◌∷◌, length, get_or, drop, Some, None, inl, inr, refl, sym, ap, ◌∙◌, subst, arith, sum_by, AllPairs, Contains, cases_lt, cases_eq, eq-eqb, ne_eqb, eqb-true, nil_from_length, length-drop, get_or-drop, get_or_default, All-map, same_Some, Entry, Item, Mark, absent, mark_of, IsBefore, IsUpTo, Table, entry_at, greatest_mark, generation_held, greatest_version, count_of, taken, held_by_lists, entry_in, HaveTwoKeys, greatest_mark-none, place_less, same_table, entry_at-taken_other, entry_at-taken_newer, frame-taken, get-held_by_lists, len-held_by_lists, held_by_lists-put, entry_in-none}
use Rattle.node_table.specs.declared.layouts.Row.{Row}
use Rattle.node_table.specs.declared.layouts.Layout.{Layout}
use Rattle.node_table.specs.Entries.{StandsBefore, AreAbove}
use Rattle.node_table.specs.inner.Layouts.{entries_in_row, rows_of, row_at, row_len, table_laid, with_entry, IsRow, IsInSlots, AreLaid, IsLayout, IsIndexOf, IsRankAbove, IsPlaced, IsRenewed}
use Rattle.node_table.proofs.InRow.{rank_place, absent_from_end}
use Rattle.node_table.proofs.Laid.{entries_in_row-empty, row_at-get_or, row_at-past, total-rows, length-entries_in_row}

-- the entry of a key is the first that has it
pub entry_in-at : (row : List Entry) (index key : ℕ) (d : Entry) → index < length row → (get_or row index d).key ≡ key → ((k : ℕ) → k < index → (get_or row k d).key ≢ key) → entry_in row key ≡ Some (get_or row index d)
entry_in-at [] index key d lt here before = absurd (omega arith)
entry_in-at (e ∷ es) zero key d lt here before = ap (λ b. cond b (Some e) (entry_in es key)) (eq-eqb e.key key here)
entry_in-at (e ∷ es) (suc index) key d lt here before =
    ap (λ b. cond b (Some e) (entry_in es key)) (ne_eqb e.key key (before 0 (omega arith)))
    ∙ entry_in-at es index key d (omega arith) here (λ k below. before (suc k) (omega arith))

pub entry_in-found : (row : List Entry) (key index : ℕ) (d : Entry) → IsIndexOf row key index → index < length row → entry_in row key ≡ Some (get_or row index d)
entry_in-found row key index d found lt = entry_in-at row index key d lt (found.here d lt) (λ k below. found.before k d below)

pub entry_in-absent : (row : List Entry) (key index : ℕ) → IsIndexOf row key index → length row ≤ index → entry_in row key ≡ None
entry_in-absent row key index found past = entry_in-none row key (absent_from_end row key index found past)

-- what is found stands in the row, and what stands there is found
pub Contains-entry_in : (row : List Entry) (key : ℕ) (e : Entry) → entry_in row key ≡ Some e → Contains row e × (e.key ≡ key)
Contains-entry_in [] key e found = cc
Contains-entry_in (x ∷ xs) key e found = elim (x.key == key) as (λ b. x.key == key ≡ b → cond b (Some x) (entry_in xs key) ≡ Some e → Contains (x ∷ xs) e × (e.key ≡ key)) [
  | true ↦ λ here is. let same : x ≡ e = same_Some x e is in ((0, omega arith, same), ap (λ (y : Entry). y.key) (sym same) ∙ eqb-true x.key key here)
  | false ↦ λ _ later. let rest = Contains-entry_in xs key e later in ((suc rest.0.0, omega (arith, rest.0.1), rest.0.2), rest.1)
] refl found

pub entry_in-Contains : (row : List Entry) (e : Entry) → AllPairs HaveTwoKeys row → Contains row e → entry_in row e.key ≡ Some e
entry_in-Contains row e apart (k, lt, is) =
    entry_in-at row k e.key e lt (ap (λ (y : Entry). y.key) is) (λ j before same. apart j k e before lt (same ∙ sym (ap (λ (y : Entry). y.key) is)))
    ∙ ap (λ (y : Entry). Some y) is

pub entry_at-in : (l : Layout) (owner key : ℕ) → entry_at (table_laid l) owner key ≡ entry_in (row_at l.slots.items l.rows.items owner) key
entry_at-in l owner key = get-held_by_lists (rows_of l.slots.items l.rows.items) owner key

-- of an owner without a row nothing is held
pub nothing_held : (l : Layout) (owner : ℕ) → row_at l.slots.items l.rows.items owner ≡ [] → greatest_mark (table_laid l) owner ≡ absent
nothing_held l owner empty = greatest_mark-none (table_laid l) owner (λ key lt. entry_at-in l owner key ∙ ap (λ row. entry_in row key) empty)

-- an owner with a version has a row
pub some_held : (l : Layout) (owner : ℕ) → 0 < greatest_version (table_laid l) owner → 0 < length (row_at l.slots.items l.rows.items owner)
some_held l owner some = elim (cases_lt 0 (length (row_at l.slots.items l.rows.items owner))) [
  | inl held ↦ held
  | inr none ↦ absurd (omega (arith, ap (λ (m : Mark). m.version) (nothing_held l owner (nil_from_length _ (omega arith)))))
]

-- and one whose row is empty has none
pub none_held : (l : Layout) (owner : ℕ) (r : Row) → owner < length l.rows.items → r ≡ get_or l.rows.items owner r → r.len ≡ 0 → greatest_version (table_laid l) owner ≡ 0
none_held l owner r lt read empty =
    let no_row = row_at-get_or l.slots.items l.rows.items owner r lt ∙ ap (entries_in_row l.slots.items) (sym read) ∙ entries_in_row-empty l.slots.items r empty in
    ap (λ (m : Mark). m.version) (nothing_held l owner no_row)

module _ (l : Layout) (sound : IsLayout l) where
  pub is_row : (owner : ℕ) → owner < l.nodes → IsRow l.keys (row_at l.slots.items l.rows.items owner)
  is_row owner below =
      let lt : owner < length l.rows.items = omega (arith, sound.laid.as_many) in
      subst (IsRow l.keys) (sym (row_at-get_or l.slots.items l.rows.items owner none lt)) (sound.laid.each owner none lt).row
    where
      none : Row
      none = record { start = 0; len = 0 }

  pub row_past : (owner : ℕ) → l.nodes ≤ owner → row_at l.slots.items l.rows.items owner ≡ []
  row_past owner past = row_at-past l.slots.items l.rows.items owner (omega (arith, sound.laid.as_many))

  pub count_is : count_of (table_laid l) ≡ l.count
  count_is =
      len-held_by_lists (rows_of l.slots.items l.rows.items) (All-map (AllPairs HaveTwoKeys) (entries_in_row l.slots.items) l.rows.items (λ k d lt. (sound.laid.each k d lt).row.apart))
      ∙ total-rows l.keys l.slots.items l.rows.items sound.laid.each ∙ sym sound.counted

  -- an owner that is no node has no mark
  pub greatest_past : (owner : ℕ) → l.nodes ≤ owner → greatest_mark (table_laid l) owner ≡ absent
  greatest_past owner past = nothing_held l owner (row_past owner past)

  module _ (owner : ℕ) (below : owner < l.nodes) where
    abbrev row : List Entry
    row = row_at l.slots.items l.rows.items owner

    -- what stands in a row is held
    held_at : (e : Entry) → Contains row e → entry_at (table_laid l) owner e.key ≡ Some e
    held_at e there = entry_at-in l owner e.key ∙ entry_in-Contains row e (is_row owner below).apart there

    -- and has the generation of the copy
    pub generation_in : (k : ℕ) (d : Entry) → k < length row → (get_or row k d).generation ≡ generation_held (table_laid l) owner
    generation_in k d lt = sound.proper.copies owner (get_or row k d).key (get_or row k d) (held_at (get_or row k d) (k, lt, get_or_default row k (get_or row k d) d lt))

    -- what of a row stands behind a mark is what is held above it
    above_in : (mark : Mark) (rank : ℕ) → rank ≤ length row → ((k : ℕ) (d : Entry) → k < rank → IsUpTo (mark_of (get_or row k d)) mark) → ((k : ℕ) (d : Entry) → rank ≤ k → k < length row → IsBefore mark (mark_of (get_or row k d))) → AreAbove (table_laid l) owner mark (drop rank row)
    above_in mark rank within front behind =
        let rest = length-drop rank row in
        record {
          rising = λ i j d before in_range. subst (λ x. StandsBefore x (get_or (drop rank row) j d)) (sym (get_or-drop rank row i d)) (subst (StandsBefore (get_or row (rank + i) d)) (sym (get_or-drop rank row j d)) ((is_row owner below).rising (rank + i) (rank + j) d (omega arith) (omega arith)));
          held = λ e (k, lt, is).
              let there : get_or row (rank + k) e ≡ e = sym (get_or-drop rank row k e) ∙ is in
              (held_at e (rank + k, omega arith, there), subst (λ (x : Entry). IsBefore mark (mark_of x)) there (behind (rank + k) e (omega arith) (omega arith)));
          all = λ key e found newer. among key e newer (Contains-entry_in row key e (sym (entry_at-in l owner key) ∙ found)).0;
        }
      where
        not_both : (e : Entry) → IsUpTo (mark_of e) mark → IsBefore mark (mark_of e) → ⊥
        not_both e up newer = let same : mark.generation ≡ e.generation = omega (arith, up.generation, newer.generation) in omega (arith, newer.version same, up.version (sym same))

        among : (key : ℕ) (e : Entry) → IsBefore mark (mark_of e) → Contains row e → Contains (drop rank row) e
        among key e newer (k, lt, is) = elim (cases_lt k rank) [
          | inl before ↦ absurd (not_both e (subst (λ (x : Entry). IsUpTo (mark_of x) mark) is (front k e before)) newer)
          | inr at_least ↦
              let at : rank + (k - rank) ≡ k = omega arith in
              (k - rank, omega (arith, length-drop rank row), get_or-drop rank row (k - rank) e ∙ ap (λ n. get_or row n e) at ∙ is)
        ]

    -- an owner's row is what is held above the absent mark
    pub whole_row : AreAbove (table_laid l) owner absent row
    whole_row = above_in absent 0 (omega arith) (λ k d lt. absurd (omega arith)) (λ k d le lt. record { generation = omega arith; version = λ _. (is_row owner below).written k d lt })

    -- and above any of an older generation than the copy's
    pub above_older : (mark : Mark) → mark.generation < generation_held (table_laid l) owner → AreAbove (table_laid l) owner mark row
    above_older mark older = above_in mark 0 (omega arith) (λ k d lt. absurd (omega arith)) (λ k d le lt. record { generation = omega (arith, generation_in k d lt); version = λ same. absurd (omega (arith, generation_in k d lt)) })

    -- and above one of the same what stands behind all entries of its version
    pub above_rank : (mark : Mark) (rank : ℕ) → mark.generation ≡ generation_held (table_laid l) owner → IsRankAbove row mark.version rank → AreAbove (table_laid l) owner mark (drop rank row)
    above_rank mark rank same ranked = above_in mark rank ranked.within
        (λ k d lt. record { generation = omega (arith, generation_in k d (omega (arith, ranked.within))); version = λ _. front k d lt })
        (λ k d le lt. record { generation = omega (arith, generation_in k d lt); version = λ _. ranked.behind k d le lt })
      where
        front : (k : ℕ) (d : Entry) → k < rank → (get_or row k d).version ≤ mark.version
        front k d lt = elim (cases_eq k (rank - 1)) [
          | inl last ↦ subst (λ j. (get_or row j d).version ≤ mark.version) (sym last) (ranked.front d (omega arith))
          | inr other ↦ elim (place_less (rank_place (get_or row k d)) (rank_place (get_or row (rank - 1) d)) ((is_row owner below).rising k (rank - 1) d (omega arith) (omega (arith, ranked.within)))) [
            | inl lower ↦ omega (arith, lower, ranked.front d (omega arith))
            | inr tied ↦ omega (arith, tied.0, ranked.front d (omega arith))
          ]
        ]

-- what an entry that came into an owner's row makes of the table
pub table_placed : (l : Layout) (slots' : List Entry) (rows' : List Row) (owner : ℕ) (entry : Entry) → IsPlaced l.keys owner entry l.slots.items slots' l.rows.items rows' → ◌≡◌ {A = Table} (record { node = l.node; nodes = l.nodes; keys = l.keys; generation = l.generation; held = held_by_lists (rows_of slots' rows') }) (with_entry (table_laid l) owner entry)
table_placed l slots' rows' owner entry placed =
    let held = held_by_lists-put (rows_of l.slots.items l.rows.items) (rows_of slots' rows') owner entry placed.others placed.put.here placed.put.others in
    λ i. record { node = l.node; nodes = l.nodes; keys = l.keys; generation = l.generation; held = held i }

-- the count of it
pub count_placed : (keys owner nodes : ℕ) (entry : Entry) (slots slots' : List Entry) (rows rows' : List Row) (r r' : Row) → IsPlaced keys owner entry slots slots' rows rows' → AreLaid nodes keys slots rows → AreLaid nodes keys slots' rows' → owner < nodes → r ≡ get_or rows owner r → r' ≡ get_or rows' owner r' → (sum_by row_len rows + (r'.len - r.len) ≡ sum_by row_len rows') × (r.len ≤ r'.len)
count_placed keys owner nodes entry slots slots' rows rows' r r' placed laid laid' below read read' =
    let lt : owner < length rows = omega (arith, laid.as_many) in
    let lt' : owner < length rows' = omega (arith, laid'.as_many) in
    let row_is = row_at-get_or slots rows owner r lt ∙ ap (entries_in_row slots) (sym read) in
    let row_is' = row_at-get_or slots' rows' owner r' lt' ∙ ap (entries_in_row slots') (sym read') in
    let len = ap length row_is ∙ length-entries_in_row keys slots r (subst (IsInSlots keys slots) (sym read) (laid.each owner r lt)) in
    let len' = ap length row_is' ∙ length-entries_in_row keys slots' r' (subst (IsInSlots keys slots') (sym read') (laid'.each owner r' lt')) in
    (omega (arith, placed.counted, placed.put.grows, len, len'), omega (arith, placed.put.grows, len, len'))

-- what an entry of a newer generation, which became its owner's row, makes of the table
pub table_renewed : (l : Layout) (slots' : List Entry) (rows' : List Row) (item : Item) → generation_held (table_laid l) item.owner < item.entry.generation → IsRenewed item.owner item.entry l.slots.items slots' l.rows.items rows' → ◌≡◌ {A = Table} (record { node = l.node; nodes = l.nodes; keys = l.keys; generation = l.generation; held = held_by_lists (rows_of slots' rows') }) (taken (table_laid l) item)
table_renewed l slots' rows' item newer renewed =
    let frame = frame-taken (table_laid l) item in
    let own = entry_at-taken_newer (table_laid l) item newer in
    same_table _ (taken (table_laid l) item) (sym frame.node) (sym frame.nodes) (sym frame.keys) (sym frame.generation) (λ owner key. get-held_by_lists (rows_of slots' rows') owner key ∙ elim (cases_eq owner item.owner) [
      | inl is ↦ subst (λ o. entry_in (row_at slots' rows' o) key ≡ entry_at (taken (table_laid l) item) o key) (sym is) (ap (λ row. entry_in row key) renewed.alone ∙ elim (cases_eq item.entry.key key) [
        | inl here ↦ ap (λ b. cond b (Some item.entry) None) (eq-eqb item.entry.key key here) ∙ sym (subst (λ k. entry_at (taken (table_laid l) item) item.owner k ≡ Some item.entry) here own.0)
        | inr off ↦ ap (λ b. cond b (Some item.entry) None) (ne_eqb item.entry.key key off) ∙ sym (own.1 key off)
      ])
      | inr other ↦ ap (λ row. entry_in row key) (renewed.others owner other) ∙ sym (entry_at-in l owner key) ∙ sym (entry_at-taken_other (table_laid l) item owner key (λ is_own. other (sym is_own)))
    ])

-- the count of it
pub count_renewed : (keys owner nodes : ℕ) (entry : Entry) (slots slots' : List Entry) (rows rows' : List Row) (r : Row) → IsRenewed owner entry slots slots' rows rows' → AreLaid nodes keys slots rows → owner < nodes → r ≡ get_or rows owner r → (sum_by row_len rows + 1 - r.len ≡ sum_by row_len rows') × (r.len ≤ sum_by row_len rows + 1)
count_renewed keys owner nodes entry slots slots' rows rows' r renewed laid below read =
    let lt : owner < length rows = omega (arith, laid.as_many) in
    let len = ap length (row_at-get_or slots rows owner r lt ∙ ap (entries_in_row slots) (sym read)) ∙ length-entries_in_row keys slots r (subst (IsInSlots keys slots) (sym read) (laid.each owner r lt)) in
    (omega (arith, renewed.counted, len), omega (arith, renewed.counted, len))
