-- A layout of which no row has an entry.
-- Serves `Layout::forget_all` and `NodeTable::new`.
use Rattle.node_table.proofs.Common.{◌≡◌, ℕ, [], replicate, None, inl, inr, refl, sym, ap, ◌∙◌, subst, arith, ◌≤◌, List, vec_capacity, sum_by, empty, get-empty, cases_lt, length-replicate, get_or-replicate, Mark, absent, Entry, place_cmp, Table, entry_at, greatest_mark, IsProper, held_by_lists, entry_in, same_table, greatest_mark-none, get-held_by_lists}
use Rattle.node_table.specs.declared.layouts.Row.{Row}
use Rattle.node_table.specs.declared.layouts.Layout.{Layout}
use Rattle.node_table.specs.Entries.{AreGenerations, AreGreatest}
use Rattle.node_table.specs.inner.Layouts.{entries_in_row, rows_of, row_at, row_len, block_len, table_laid, IsInSlots, AreLaid, IsLayout}
use Rattle.node_table.proofs.Laid.{row_at-get_or, row_at-past}
use Rattle.node_table.proofs.Forgotten.{empty_row, empty_is_row, sum_none}

module _ (nodes keys : ℕ) where
  empty_lies : IsInSlots keys [] empty_row
  empty_lies = record { within = omega arith; block = λ some. absurd (omega arith); row = empty_is_row keys }

  laid_empty : AreLaid nodes keys [] (replicate nodes empty_row)
  laid_empty = record {
    as_many = length-replicate nodes empty_row;
    each = λ k d lt. subst (IsInSlots keys []) (sym (get_or-replicate nodes k empty_row d (omega (arith, length-replicate nodes empty_row)))) empty_lies;
    apart = λ i j d before lt some _. absurd (omega (arith, ap row_len (get_or-replicate nodes i empty_row d (omega (arith, length-replicate nodes empty_row)))));
    filled = sum_none (block_len keys) nodes empty_row refl;
  }

  counted_empty : 0 ≡ sum_by row_len (replicate nodes empty_row)
  counted_empty = sym (sum_none row_len nodes empty_row refl)

  row_at-empty : (owner : ℕ) → row_at [] (replicate nodes empty_row) owner ≡ []
  row_at-empty owner = elim (cases_lt owner nodes) [
    | inl lt ↦ row_at-get_or [] (replicate nodes empty_row) owner empty_row (omega (arith, length-replicate nodes empty_row)) ∙ ap (entries_in_row []) (get_or-replicate nodes owner empty_row empty_row lt)
    | inr past ↦ row_at-past [] (replicate nodes empty_row) owner (omega (arith, length-replicate nodes empty_row))
  ]

-- the table that holds nothing
abbrev pub bare : ℕ → ℕ → ℕ → ℕ → Table
bare node nodes keys generation = record { node = node; nodes = nodes; keys = keys; generation = generation; held = empty }

module _ (node nodes keys generation : ℕ) where
  entry_at-bare : (owner key : ℕ) → entry_at (bare node nodes keys generation) owner key ≡ None
  entry_at-bare owner key = get-empty place_cmp (owner, key)

  mark-bare : (owner : ℕ) → greatest_mark (bare node nodes keys generation) owner ≡ absent
  mark-bare owner = greatest_mark-none (bare node nodes keys generation) owner (λ key _. entry_at-bare owner key)

  module _ (slots : List Entry) (rows : List Row) (no_slots : slots ≡ []) (no_entries : rows ≡ replicate nodes empty_row) where
    row_none : (owner : ℕ) → row_at slots rows owner ≡ []
    row_none owner = ap (λ xs. row_at xs rows owner) no_slots ∙ ap (λ xs. row_at [] xs owner) no_entries ∙ row_at-empty nodes keys owner

    pub table_bare : ◌≡◌ {A = Table} (record { node = node; nodes = nodes; keys = keys; generation = generation; held = held_by_lists (rows_of slots rows) }) (bare node nodes keys generation)
    table_bare = same_table _ (bare node nodes keys generation) refl refl refl refl (λ owner key. get-held_by_lists (rows_of slots rows) owner key ∙ ap (λ row. entry_in row key) (row_none owner) ∙ sym (entry_at-bare owner key))

module _ (l : Layout) (slots : l.slots.items ≡ []) (rows : l.rows.items ≡ replicate l.nodes empty_row) where
  bare_in : table_laid l ≡ bare l.node l.nodes l.keys l.generation
  bare_in = table_bare l.node l.nodes l.keys l.generation l.slots.items l.rows.items slots rows

  pub layout_bare : IsProper (bare l.node l.nodes l.keys l.generation) → l.greatest.items ≡ replicate l.nodes 0 → l.generations.items ≡ [] → l.nodes ≤ vec_capacity l.generations → l.count ≡ 0 → IsLayout l
  layout_bare proper greatest generations room count = record {
    proper = subst IsProper (sym bare_in) proper;
    laid = subst (λ xs. AreLaid l.nodes l.keys xs l.rows.items) (sym slots) (subst (AreLaid l.nodes l.keys []) (sym rows) (laid_empty l.nodes l.keys));
    greatest = subst (λ (t : Table). AreGreatest t l.greatest.items) (sym bare_in) (subst (AreGreatest (bare l.node l.nodes l.keys l.generation)) (sym greatest) (record {
      count = length-replicate {A = ℕ} l.nodes 0;
      greatest = λ owner lt. get_or-replicate l.nodes owner 0 0 lt ∙ sym (ap (λ (m : Mark). m.version) (mark-bare l.node l.nodes l.keys l.generation owner));
    }));
    generations = subst (λ (t : Table). AreGenerations t l.generations.items) (sym bare_in) (subst (AreGenerations (bare l.node l.nodes l.keys l.generation)) (sym generations) (record {
      count = inl refl;
      held = λ owner lt. sym (ap (λ (m : Mark). m.generation) (mark-bare l.node l.nodes l.keys l.generation owner));
    }));
    room = room;
    counted = count ∙ counted_empty l.nodes l.keys ∙ ap (sum_by row_len) (sym rows);
  }
