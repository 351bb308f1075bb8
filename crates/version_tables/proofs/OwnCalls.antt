-- A node's own calls on its table: its numbers lie as those of the table that the model has then.
-- Serves `VersionTable::forget_all`, `VersionTable::forget_others`, `VersionTable::new`, `VersionTable::write_own`
-- and `HistoryCalls`.
use Rattle.version_tables.proofs.Common.{◌≡◌, ◌≢◌, ℕ, ◌+◌, ◌*◌, ◌<◌, ◌==◌, Bool, true, false, cond, List, length, get_or, set, Some, None, ◌⊎◌, refl, same_from_place, inl, inr, sym, ap, ◌∙◌, subst, transport, arith, mul-le-mul_right, cases_eq, get_or-set_same, get_or-set_other, length-set, same_Some, Entry, AreSizes, Table, entry_at, empty_table, KeepsFrame, with_own_write, without_others, without_all, IsProper, entry_at-own_write, entry_at-own_write_other, entry_at-without_others, entry_at-without_all, entry_at-empty_table, proper-empty_table, proper-with_own_write, proper-without_others, proper-without_all, Cells, cell, ArePlanesChanged, HasEach, HasEachPlace, AreChanged, numbered-within, VersionTableView, table_in, IsKept, IsNextWrite, HasOwnWrite, IsGreatest}
pub use Rattle.version_tables.proofs.Laid.{HoldsNumber, LiesAs, holds-same, kept-number, lies-kept, lies-table, no-number, put-back, seen}

pub place-within : (nodes keys r k : ℕ) → r < nodes → k < keys → k * nodes + r < keys * nodes
place-within nodes keys r k in_nodes in_keys = omega (arith, in_nodes, mul-le-mul_right {m = k + 1} {n = keys} nodes (omega (arith, in_keys)))

-- one number of an owner is set
pub each-set : (is : ℕ → ℕ → Type 0) (xs : List ℕ) (nodes owner n : ℕ) → length xs ≡ nodes → owner < nodes → is owner n
    → ((r : ℕ) → r < nodes → r ≢ owner → is r (get_or xs r 0)) → HasEach nodes is (set xs owner n)
each-set is xs nodes owner n size in_nodes own others = record {
  size = length-set xs owner n ∙ size;
  each = λ r lt. elim (cases_eq r owner) [
    | inl same ↦ subst (λ o. is o (get_or (set xs owner n) o 0)) (sym same)
        (subst (is owner) (sym (get_or-set_same xs owner n 0 (omega (arith, in_nodes, size)))) own)
    | inr other ↦ subst (is r) (sym (get_or-set_other xs owner r n 0 other)) (others r lt other)
  ];
}

-- one number in planes is set
module _ (xs : List ℕ) (nodes keys owner key n : ℕ) (size : length xs ≡ keys * nodes) (in_nodes : owner < nodes) (in_keys : key < keys) where
  place-here : cell (set xs (key * nodes + owner) n) nodes owner key ≡ n
  place-here = get_or-set_same xs (key * nodes + owner) n 0 (omega (arith, size, place-within nodes keys owner key in_nodes in_keys))

  place-other : (r k : ℕ) → r < nodes → (r ≢ owner) ⊎ (k ≢ key) → cell (set xs (key * nodes + owner) n) nodes r k ≡ cell xs nodes r k
  place-other r k lt other = get_or-set_other xs (key * nodes + owner) (k * nodes + r) n 0 (λ is.
      let same = same_from_place k r key owner nodes lt in_nodes is in elim other [ inl ne ↦ ne same.1 | inr ne ↦ ne same.0 ])

  pub place-set : (is : ℕ → ℕ → ℕ → Type 0) → is owner key n
      → ((r k : ℕ) → r < nodes → k < keys → (r ≢ owner) ⊎ (k ≢ key) → is r k (cell xs nodes r k)) → HasEachPlace nodes keys is (set xs (key * nodes + owner) n)
  place-set is own others = record {
    size = length-set xs (key * nodes + owner) n ∙ size;
    each = λ r k lt in_key. elim (cases_eq r owner) [
      | inr other ↦ subst (is r k) (sym (place-other r k lt (inl other))) (others r k lt in_key (inl other))
      | inl same ↦ elim (cases_eq k key) [
        | inr other ↦ subst (is r k) (sym (place-other r k lt (inr other))) (others r k lt in_key (inr other))
        | inl same_key ↦ transport (λ i. is (sym same i) (sym same_key i) (cell (set xs (key * nodes + owner) n) nodes (sym same i) (sym same_key i)))
            (subst (is owner key) (sym place-here) own)
      ]
    ];
  }

-- one that holds nothing
blank : {written : ℕ → List Entry} {v : VersionTableView} {t : Table} → KeepsFrame (table_in written v) t → IsProper t
    → ((owner key : ℕ) → entry_at t owner key ≡ None) → HasEach (v.keys * v.nodes) (λ r n. n ≡ 0) v.cells → HasEach v.nodes (λ r n. n ≡ 0) v.greatest
    → LiesAs written v t
blank {written = written} {v = v} frame proper nothing no_cells no_greatest = record {
  frame = frame;
  proper = proper;
  numbers = record {
    size = no_cells.size;
    each = λ owner key lt in_keys. holds-same (nothing owner key) (none owner key lt in_keys) (no-number (written owner) key);
  };
  most = record {
    size = no_greatest.size;
    each = λ owner lt. record { upto = λ key in_keys. omega (arith, none owner key lt in_keys); held = inl (no_greatest.each owner lt) };
  };
}
  where
    none : (owner key : ℕ) → owner < v.nodes → key < v.keys → cell v.cells v.nodes owner key ≡ 0
    none owner key lt in_keys = no_cells.each (key * v.nodes + owner) (place-within v.nodes v.keys owner key lt in_keys)

pub starts : (written : ℕ → List Entry) (node nodes keys : ℕ) {cells greatest : List ℕ} → node < nodes → AreSizes nodes keys
    → HasEach (keys * nodes) (λ r n. n ≡ 0) cells → HasEach nodes (λ r n. n ≡ 0) greatest
    → LiesAs written (record { node = node; nodes = nodes; keys = keys; generation = 0; cells = cells; greatest = greatest }) (empty_table node nodes keys)
starts written node nodes keys in_nodes sizes = blank (record { node = refl; nodes = refl; keys = refl; generation = refl })
    (proper-empty_table node nodes keys in_nodes sizes.few_nodes sizes.some_key sizes.few_keys) (entry_at-empty_table node nodes keys)

-- an owner's greatest number, where its numbers are kept or all put to 0
kept-greatest : (keep : Bool) {old new : Cells} {keys owner x y : ℕ} → IsGreatest old keys owner x
    → ((key : ℕ) → key < keys → new owner key ≡ cond keep (old owner key) 0) → y ≡ cond keep x 0 → IsGreatest new keys owner y
kept-greatest true most same is = record {
  upto = λ key lt. omega (arith, same key lt, most.upto key lt, is);
  held = elim most.held [ inl none ↦ inl (is ∙ none) | inr (key, lt, at) ↦ inr (key, lt, same key lt ∙ at ∙ sym is) ];
}
kept-greatest false most same is = record { upto = λ key lt. omega (arith, same key lt, is); held = inl is }

module _ {written : ℕ → List Entry} {v : VersionTableView} (kept : IsKept written v) where
  abbrev t : Table
  t = table_in written v

  -- one that forgets
  pub forgets : {cells greatest : List ℕ} → AreChanged (λ r x y. y ≡ 0) v.cells cells → AreChanged (λ r x y. y ≡ 0) v.greatest greatest
      → LiesAs written (record v { generation = v.generation + 1; cells = cells; greatest = greatest }) (without_all t)
  forgets no_cells no_greatest =
      blank (record { node = refl; nodes = refl; keys = refl; generation = refl }) (proper-without_all t kept.proper) (entry_at-without_all t)
      (record { size = no_cells.size ∙ kept.numbers.size; each = λ r lt. no_cells.each r (omega (arith, lt, kept.numbers.size)) })
      (record { size = no_greatest.size ∙ kept.most.size; each = λ r lt. no_greatest.each r (omega (arith, lt, kept.most.size)) })

  -- one that restarts
  pub restarts : {cells greatest : List ℕ} → ArePlanesChanged (λ r k x y. y ≡ cond (r == v.node) x 0) v.nodes v.keys v.cells cells
      → AreChanged (λ r x y. y ≡ cond (r == v.node) x 0) v.greatest greatest
      → LiesAs written (record v { cells = cells; greatest = greatest }) (without_others t)
  restarts own_cells own_greatest = record {
    frame = record { node = refl; nodes = refl; keys = refl; generation = refl };
    proper = proper-without_others t kept.proper;
    numbers = record {
      size = own_cells.size ∙ kept.numbers.size;
      each = λ owner key lt in_keys. holds-same (entry_at-without_others t owner key) (own_cells.each owner key lt in_keys)
          (either owner key (owner == v.node) (kept-number kept owner key lt in_keys));
    };
    most = record {
      size = own_greatest.size ∙ kept.most.size;
      each = λ owner lt. kept-greatest (owner == v.node) (kept.most.each owner lt) (λ key. own_cells.each owner key lt)
          (own_greatest.each owner (omega (arith, lt, kept.most.size)));
    };
  }
    where
      either : (owner key : ℕ) (b : Bool) → HoldsNumber (written owner) key (entry_at t owner key) (cell v.cells v.nodes owner key)
          → HoldsNumber (written owner) key (cond b (entry_at t owner key) None) (cond b (cell v.cells v.nodes owner key) 0)
      either owner key true holds = holds
      either owner key false _ = no-number (written owner) key

  -- one that writes
  module _ (key number : ℕ) (in_keys : key < v.keys) (write : IsNextWrite written v key number) where
    abbrev e : Entry
    e = write.entry

    abbrev cells : List ℕ
    cells = set v.cells (key * v.nodes + v.node) number

    own : HoldsNumber (written v.node) key (entry_at (with_own_write t key e.value e.born) v.node key) number
    own = record {
      is = record {
        written = (numbered-within (written v.node) number e write.is).1;
        keyed = λ d is. ap (λ (x : Entry). x.key) (same_Some d e (sym is ∙ write.is) ∙ write.next);
        first = write.first;
      };
      holds = entry_at-own_write t key e.value e.born ∙ sym (write.is ∙ ap Some write.next);
    }

    stands : cell cells v.nodes v.node key ≡ number
    stands = place-here v.cells v.nodes v.keys v.node key number kept.numbers.size kept.proper.node_below in_keys

    stays : (r k : ℕ) → r < v.nodes → (r ≢ v.node) ⊎ (k ≢ key) → cell cells v.nodes r k ≡ cell v.cells v.nodes r k
    stays = place-other v.cells v.nodes v.keys v.node key number kept.numbers.size kept.proper.node_below in_keys

    pub writes : LiesAs written (record v { cells = cells; greatest = set v.greatest v.node number }) (with_own_write t key e.value e.born)
    writes = record {
      frame = record { node = refl; nodes = refl; keys = refl; generation = refl };
      proper = proper-with_own_write t key e.value e.born kept.proper in_keys;
      numbers = place-set v.cells v.nodes v.keys v.node key number kept.numbers.size kept.proper.node_below in_keys
          (λ r k n. HoldsNumber (written r) k (entry_at (with_own_write t key e.value e.born) r k) n) own
          (λ r k lt lt' other. holds-same (entry_at-own_write_other t key e.value e.born r k other) refl (kept-number kept r k lt lt'));
      most = each-set (λ r n. IsGreatest (cell cells v.nodes) v.keys r n) v.greatest v.nodes v.node number kept.most.size kept.proper.node_below
          (record {
            upto = λ k lt.
                let same = λ (is : k ≡ key). ap (cell cells v.nodes v.node) is in
                let others = λ (other : k ≢ key). stays v.node k kept.proper.node_below (inr other) in
                grind (arith, same, others, stands, (kept.most.each v.node kept.proper.node_below).upto k lt, write.above);
            held = inr (key, in_keys, stands);
          })
          (λ r lt other. kept-greatest true (kept.most.each r lt) (λ k _. stays r k lt (inl other)) refl);
    }

    pub writes-table : HasOwnWrite written v number (record v { cells = cells; greatest = set v.greatest v.node number })
    writes-table d is = lies-table writes ∙ (λ i. with_own_write t ((sym write.next ∙ same) i).key (same i).value (same i).born)
      where
        same : e ≡ d
        same = same_Some e d (sym write.is ∙ is)
