-- What an owner writes next stands under the number behind all that it wrote, above what its table holds of it.
-- Serves `HistoriesRoundHistoriesVersionTable::write`.
use Rattle.version_tables.proofs.Common.{◌≡◌, ℕ, zero, suc, ◌+◌, ◌<◌, ◌≤◌, List, length, Some, inl, inr, sym, ◌∙◌, arith, Contains, current-numbered, length-append, none-some, Entry, entry_at, greatest_version, mark_at-up_to_greatest, write_numbered, OwnerListView, AreWrites, entries_of, next_entry, cell, numbered-placed, numbered-some, VersionTableView, table_in, IsKept, IsNextWrite, IsBeginning, IsWriteUnder, IsFirst}
use Rattle.version_tables.proofs.Fitting.{earlier-at, so-far-upto, has_cells}

module _ (written : ℕ → List Entry) (v : VersionTableView) (kept : IsKept written v) (list : OwnerListView) (are : AreWrites list)
    (begins : IsBeginning (entries_of list) (written v.node)) (generation : v.generation ≡ list.generation)
    (greatest : greatest_version (table_in written v) v.node ≡ length list.current) (most key value born : ℕ)
    (under : IsWriteUnder written most v.node (length (entries_of list) + 1) (next_entry list key value born)) where
  -- what the table holds of the node is a write so far
  held_so_far : (k : ℕ) (e : Entry) → entry_at (table_in written v) v.node k ≡ Some e → Contains (entries_of list) e
  held_so_far k e holds =
      let in_place = kept.proper.in_place v.node k e holds in
      let most = rw holds at (mark_at-up_to_greatest (table_in written v) v.node k in_place.key_below) in
      let low : e.version ≤ length list.current = omega (arith, most.version (kept.proper.copies v.node k e holds), greatest) in
      let own = length list.earlier + e.version in let within : own ≤ length (entries_of list) = omega (arith, low, length-append list.earlier list.current) in
      let there = numbered-some (entries_of list) own (omega (arith, in_place.written)) within in
      let at = current-numbered list are own there.0 there.1 (omega (arith, in_place.written)) in
      let is : write_numbered (written v.node) (cell v.cells v.nodes v.node k) ≡ Some e =
      sym (has_cells written v kept.numbers v.node k kept.proper.node_below in_place.key_below) ∙ holds in
      let one : there.0.generation ≡ e.generation = omega (arith, at.generation, generation, kept.proper.own k e holds) in
      let two : there.0.version ≡ e.version = omega (arith, at.version) in
      let from : write_numbered (written v.node) own ≡ Some there.0 = sym (begins own within) ∙ there.1 in
      let same = under.apart own (cell v.cells v.nodes v.node k) there.0 e from is (λ i. record { generation = one i; version = two i }) in
      let placed = numbered-placed (entries_of list) own there.0 there.1 in
      let here = placed.there e in (placed.place, placed.within, cc)

  -- no earlier write is this one
  first : IsFirst (written v.node) (length (entries_of list) + 1)
  first zero lt same = none-some (next_entry list key value born) (same ∙ under.is)
  first (suc place) lt same =
      let is = begins (suc place) (omega (arith, lt)) ∙ same ∙ under.is in
      let own = λ (behind : length list.earlier < suc place). (current-numbered list are (suc place) (next_entry list key value born) is behind).version in
      grind (arith, length-append list.earlier list.current, own, earlier-at list are (suc place) (next_entry list key value born) is)

  pub next-write : IsNextWrite written v key (length (entries_of list) + 1)
  next-write = record {
    entry = next_entry list key value born;
    is = under.is;
    next = λ i. record { key = key; generation = sym generation i; version = sym greatest i + 1; value = value; born = born };
    above = elim (kept.most.each v.node kept.proper.node_below).held [
      | inl none ↦ omega (arith, none)
      | inr (k, in_keys, is) ↦
          omega (arith, is, so-far-upto kept (entries_of list) v.node begins held_so_far k kept.proper.node_below in_keys)
    ];
    first = first;
  }
