-- A block that is laid behind the others for an owner's first entry.
-- Serves `Layout::put_first`, `Layout::renew` and `open`.
use Rattle.node_table.proofs.Common.{◌≡◌, ◌≢◌, ℕ, ◌+◌, ◌<◌, ◌≤◌, cond, List, [], ◌∷◌, ◌++◌, length, get_or, set, replicate, Option, Some, None, inl, inr, refl, sym, ap, ◌∙◌, subst, arith, length-append, cases_lt, eq-eqb, ne_eqb, length-replicate, All-cons, All-nil, Entry, Item, Mark, absent, mark_of, mark_held, later, later-second, held_by_lists, Table, mark_at, greatest_mark, generation_held, greatest_version, taken, IsProper, IsItemInPlace, entry_in, greatest_mark-taken}
use Rattle.node_table.specs.declared.layouts.Layout.{Layout}
use Rattle.node_table.specs.declared.layouts.Row.{Row}
use Rattle.node_table.specs.inner.Layouts.{entries_in_row, rows_of, row_at, table_laid, block_len, IsRow, IsInSlots, AreApart, AreLaid, IsPut, IsPlaced, IsRenewed}
use Rattle.node_table.proofs.Blocks.{take-behind, take-new}
use Rattle.node_table.proofs.InLayout.{entry_at-in, nothing_held, table_placed, table_renewed}
use Rattle.node_table.proofs.Laid.{laid_after, renewed_after, block_len-some, block_len-none}
use Rattle.node_table.proofs.Taking.{taken_put}

-- a row of one entry
pub one_row : (keys : ℕ) (entry : Entry) → entry.key < keys → 1 ≤ entry.version → IsRow keys (entry ∷ [])
one_row keys entry below written = record {
  rising = λ i j d before in_range. absurd (omega arith);
  apart = λ i j d before in_range. absurd (omega arith);
  keys_below = All-cons (λ e. e.key < keys) entry [] below (All-nil (λ e. e.key < keys));
  written = All-cons (λ e. 1 ≤ e.version) entry [] written (All-nil (λ e. 1 ≤ e.version));
}

-- an entry is put where it is the first
one_put : (keys : ℕ) (entry : Entry) → entry.key < keys → 1 ≤ entry.version → IsPut keys entry [] (entry ∷ [])
one_put keys entry below written = record {
  row = one_row keys entry below written;
  here = ap (λ b. cond b (Some entry) None) (eq-eqb entry.key entry.key refl);
  others = λ key other. ap (λ b. cond b (Some entry) None) (ne_eqb entry.key key (λ same. other (sym same)));
  some = omega arith;
  grows = omega arith;
}

-- an entry that became a row that had none was put into it
pub placed_renewed : (keys owner : ℕ) (entry : Entry) (slots slots' : List Entry) (rows rows' : List Row) → row_at slots rows owner ≡ [] → entry.key < keys → 1 ≤ entry.version → IsRenewed owner entry slots slots' rows rows' → IsPlaced keys owner entry slots slots' rows rows'
placed_renewed keys owner entry slots slots' rows rows' empty below written renewed = record {
  put = rw (empty, renewed.alone) (one_put keys entry below written);
  others = renewed.others;
  counted = omega (arith, renewed.counted, ap length empty, ap length renewed.alone);
}

module _ (nodes keys : ℕ) (slots : List Entry) (rows : List Row) (owner : ℕ) (r : Row) (entry : Entry) (laid : AreLaid nodes keys slots rows) (lt : owner < length rows) (is : (d : Row) → get_or rows owner d ≡ r) (empty : r.len ≡ 0) (below : entry.key < keys) (written : 1 ≤ entry.version) where
  abbrev slots' : List Entry
  slots' = slots ++ replicate keys entry

  abbrev opened : Row
  opened = record { start = length slots; len = 1 }

  len_is : length slots' ≡ length slots + keys
  len_is = length-append slots (replicate keys entry) ∙ ap (λ n. length slots + n) (length-replicate keys entry)

  row_is : entries_in_row slots' opened ≡ entry ∷ []
  row_is = take-new keys slots entry (omega arith)

  lies : IsInSlots keys slots' opened
  lies = record { within = omega (arith, len_is); block = λ some. omega (arith, len_is); row = subst (IsRow keys) (sym row_is) (one_row keys entry below written) }

  kept : (k : ℕ) (d : Row) → k < length rows → k ≢ owner → entries_in_row slots' (get_or rows k d) ≡ entries_in_row slots (get_or rows k d)
  kept k d in_range other = take-behind (get_or rows k d).start (get_or rows k d).len slots (replicate keys entry) (laid.each k d in_range).within

  apart : (k : ℕ) (d : Row) → k < length rows → k ≢ owner → AreApart keys (get_or rows k d) opened
  apart k d in_range other some _ = inl ((laid.each k d in_range).block some)

  filled : length slots' + block_len keys r ≡ length slots + block_len keys opened
  filled = omega (arith, len_is, block_len-none keys r empty, block_len-some keys opened (omega arith))

  pub laid_open : AreLaid nodes keys slots' (set rows owner opened)
  laid_open = laid_after nodes keys slots slots' rows owner r opened laid lt is (omega (arith, len_is)) lies kept apart filled

  pub renewed_open : IsRenewed owner entry slots slots' rows (set rows owner opened)
  renewed_open = renewed_after nodes keys slots slots' rows owner r opened laid lt is (omega (arith, len_is)) lies kept apart filled entry row_is

-- an item of an owner of whom nothing is held
module _ (l : Layout) (item : Item) (empty : row_at l.slots.items l.rows.items item.owner ≡ []) (proper : IsProper (table_laid l)) (in_place : IsItemInPlace l.nodes l.keys item) where
  no_mark : greatest_mark (table_laid l) item.owner ≡ absent
  no_mark = nothing_held l item.owner empty

  pub generation_first : generation_held (table_laid l) item.owner ≡ 0
  generation_first = ap (λ (m : Mark). m.generation) no_mark

  version_before : (mark_at (table_laid l) item.owner item.entry.key).version ≡ 0
  version_before = ap (λ (o : Option Entry). (mark_held o).version) (entry_at-in l item.owner item.entry.key ∙ ap (λ row. entry_in row item.entry.key) empty)

  -- what its entry, which became the owner's row, makes of the table
  pub table_first : (slots' : List Entry) (rows' : List Row) → IsRenewed item.owner item.entry l.slots.items slots' l.rows.items rows' → ◌≡◌ {A = Table} (record { node = l.node; nodes = l.nodes; keys = l.keys; generation = l.generation; held = held_by_lists (rows_of slots' rows') }) (taken (table_laid l) item)
  table_first slots' rows' renewed = elim (cases_lt 0 item.entry.generation) [
    | inl newer ↦ table_renewed l slots' rows' item (omega (arith, newer, generation_first)) renewed
    | inr same ↦
        table_placed l slots' rows' item.owner item.entry (placed_renewed l.keys item.owner item.entry l.slots.items slots' l.rows.items rows' empty in_place.key_below in_place.written renewed)
        ∙ sym (taken_put (table_laid l) item proper (omega (arith, same, generation_first)) (omega (arith, version_before, in_place.written)))
  ]

  pub version_first : item.entry.version ≡ greatest_version (taken (table_laid l) item) item.owner
  version_first = sym (ap (λ (m : Mark). m.version) (
      greatest_mark-taken (table_laid l) item in_place.key_below
      ∙ ap (λ m. later m (mark_of item.entry)) no_mark
      ∙ later-second absent (mark_of item.entry) (record { generation = omega arith; version = λ _. omega (arith, in_place.written) })))
