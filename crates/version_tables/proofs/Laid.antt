-- What a table holds whose numbers lie in planes.
-- Serves `merge`, `take_unless`, `DigestSizes`, `Fitting` and `OwnCalls`.
use Rattle.version_tables.proofs.Common.{◌≡◌, ℕ, zero, suc, ◌<◌, ◌≤◌, cond, nat_tests, eqb, ltb, List, [], length, map, Vec, Option, Some, None, ◌⊎◌, inl, inr, refl, sym, ap, ◌∙◌, subst, transport, arith, range_with_len, with_items, cases_lt, lt-ltb, le-ltb, get_or_past, with_items_is, get_or-map-range_with_len, length-map-range_with_len, Entry, Table, entry_at, IsProper, KeepsFrame, same_table, entry_in, get-held_by_lists, HasCells, write_numbered, cell, HasEach, HasEachPlace, with_entry, entries_below, VersionTableView, table_in, IsNumberOf, IsGreatest, IsKept}

module _ (writes : List Entry) (numbers : ℕ → ℕ) (keys : ℕ)
    (keyed : (key : ℕ) (e : Entry) → key < keys → write_numbered writes (numbers key) ≡ Some e → e.key ≡ key) where
  abbrev held : ℕ → Option Entry
  held key = write_numbered writes (numbers key)

  row : (bound key : ℕ) → bound ≤ keys → entry_in (entries_below writes numbers bound) key ≡ cond (ltb key bound) (held key) None
  row zero key le = rw (le-ltb key 0 (omega arith))
  row (suc bound) key le =
      let es = entries_below writes numbers bound in let before = row bound key (omega (arith, le)) in let same = λ (is : bound ≡ key). ap held is in
      elim (held bound) as (λ o. held bound ≡ o → entry_in (with_entry o es) key ≡ cond (ltb key (suc bound)) (held key) None) [
        | None ↦ λ none. before ∙ grind (arith, nat_tests, same, none)
        | Some e ↦ λ is. ap (λ k. cond (eqb k key) (Some e) (entry_in es key)) (keyed bound e (omega (arith, le)) is)
            ∙ grind (arith, nat_tests, same, is, before)
      ] refl

module _ (written : ℕ → List Entry) (v : VersionTableView) (are : HasEachPlace v.nodes v.keys (λ r k n. IsNumberOf (written r) k n) v.cells) where
  abbrev entries : ℕ → List Entry
  entries owner = entries_below (written owner) (cell v.cells v.nodes owner) v.keys

  of_owner : (owner key : ℕ) → owner < v.nodes
      → entry_at (table_in written v) owner key ≡ cond (ltb key v.keys) (write_numbered (written owner) (cell v.cells v.nodes owner key)) None
  of_owner owner key in_nodes =
      get-held_by_lists (map entries (range_with_len 0 v.nodes)) owner key
      ∙ ap (λ r. entry_in r key) (get_or-map-range_with_len entries 0 v.nodes owner owner [] in_nodes (omega arith))
      ∙ row (written owner) (cell v.cells v.nodes owner) v.keys (λ k e lt. (are.each owner k in_nodes lt).keyed e) v.keys key (omega arith)

  pub has_cells : HasCells written (cell v.cells v.nodes) (table_in written v)
  has_cells owner key in_nodes in_keys = of_owner owner key in_nodes ∙ rw (lt-ltb key v.keys in_keys)

  -- nothing is held past the bounds
  outside : (owner key : ℕ) → (v.nodes ≤ owner) ⊎ (v.keys ≤ key) → entry_at (table_in written v) owner key ≡ None
  outside owner key past = elim (cases_lt owner v.nodes) [
    | inr beyond ↦
        get-held_by_lists (map entries (range_with_len 0 v.nodes)) owner key
        ∙ ap (λ r. entry_in r key) (get_or_past (map entries (range_with_len 0 v.nodes)) owner []
        (omega (arith, beyond, length-map-range_with_len entries 0 v.nodes)))
    | inl in_nodes ↦
        let over : v.keys ≤ key = elim past [ inl beyond ↦ absurd (omega (arith, beyond, in_nodes)) | inr over ↦ over ] in
        of_owner owner key in_nodes ∙ rw (le-ltb key v.keys over)
  ]

-- what can't be an entry is none
pub none-unless : (o : Option Entry) → ((e : Entry) → o ≡ Some e → ⊥) → o ≡ None
none-unless None never = refl
none-unless (Some e) never = absurd (never e refl)

-- a number is that of the write that is held, or 0
pub record HoldsNumber (writes : List Entry) (key : ℕ) (held : Option Entry) (number : ℕ) : Type 0 where
  pub is : IsNumberOf writes key number
  pub holds : held ≡ write_numbered writes number

pub no-number : (writes : List Entry) (key : ℕ) → HoldsNumber writes key None 0
no-number writes key = grind arith

pub holds-same : {writes : List Entry} {key : ℕ} {held held' : Option Entry} {number number' : ℕ}
    → held' ≡ held → number' ≡ number → HoldsNumber writes key held number → HoldsNumber writes key held' number'
holds-same {writes = writes} {key = key} same is holds = transport (λ i. HoldsNumber writes key (sym same i) (sym is i)) holds

pub kept-number : {written : ℕ → List Entry} {v : VersionTableView} → IsKept written v → (owner key : ℕ) → owner < v.nodes → key < v.keys
    → HoldsNumber (written owner) key (entry_at (table_in written v) owner key) (cell v.cells v.nodes owner key)
kept-number {written = written} {v = v} kept owner key in_nodes in_keys =
    record { is = kept.numbers.each owner key in_nodes in_keys; holds = has_cells written v kept.numbers owner key in_nodes in_keys }

-- numbers lie as a proper table is
pub record LiesAs (written : ℕ → List Entry) (v : VersionTableView) (is : Table) : Type 0 where
  pub frame : KeepsFrame (table_in written v) is
  pub proper : IsProper is
  pub numbers : HasEachPlace v.nodes v.keys (λ r k n. HoldsNumber (written r) k (entry_at is r k) n) v.cells
  pub most : HasEach v.nodes (λ r n. IsGreatest (cell v.cells v.nodes) v.keys r n) v.greatest

module _ {written : ℕ → List Entry} {v : VersionTableView} {is : Table} (lies : LiesAs written v is) where
  numbers : HasEachPlace v.nodes v.keys (λ r k n. IsNumberOf (written r) k n) v.cells
  numbers = record { size = lies.numbers.size; each = λ owner key in_nodes in_keys. (lies.numbers.each owner key in_nodes in_keys).is }

  pub lies-table : table_in written v ≡ is
  lies-table =
      same_table (table_in written v) is (sym lies.frame.node) (sym lies.frame.nodes) (sym lies.frame.keys) (sym lies.frame.generation)
      (λ owner key. elim (cases_lt owner v.nodes) [
        | inr past ↦ none owner key (inl (omega (arith, past)))
        | inl in_nodes ↦ elim (cases_lt key v.keys) [
          | inr past ↦ none owner key (inr (omega (arith, past)))
          | inl in_keys ↦ has_cells written v numbers owner key in_nodes in_keys ∙ sym (lies.numbers.each owner key in_nodes in_keys).holds
        ]
      ])
    where
      none : (owner key : ℕ) → (v.nodes ≤ owner) ⊎ (v.keys ≤ key) → entry_at (table_in written v) owner key ≡ entry_at is owner key
      none owner key past = outside written v numbers owner key past ∙ sym (none-unless (entry_at is owner key) (λ e held.
          let place = lies.proper.in_place owner key e held in
          grind (arith, past, place.owner_below, place.key_below, lies.frame.nodes, lies.frame.keys)))

  pub lies-kept : IsKept written v
  lies-kept = record { proper = subst IsProper (sym lies-table) lies.proper; numbers = numbers; most = lies.most }

-- what is seen of a table, of which it is known that it is what lies there
abbrev pub seen : {A : Type 0} {x y : A} → x ≡ y → A
seen {x = x} is = x

-- what is known of what a vector's numbers became is known of it
pub put-back : {N Z : Type 0} (P : List ℕ → List ℕ → Type 0) (number : N → ℕ) (v : Vec N Z) (read new : List N) → length new ≡ v.len → read ≡ v.items
    → P (map number read) (map number new) → P (map number v.items) (map number (with_items v new).items)
put-back P number v read new size is changed =
    subst (λ xs. P (map number v.items) (map number xs)) (sym (with_items_is v new size)) (subst (λ xs. P (map number xs) (map number new)) is changed)
