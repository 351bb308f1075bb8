-- Tables beside the histories: the numbers that they hold are of writes made so far, and compare as the marks of these.
-- Serves most of the crate.
use Rattle.version_tables.proofs.Common.{◌≡◌, ℕ, zero, suc, ◌-◌, ◌<◌, ◌≤◌, max, List, length, get_or, Option, Some, None, inl, inr, refl, sym, ap, ◌∙◌, arith, rules, nat_lt, nat_tests, cases_lt, get_or_append_left, Contains, Entry, Mark, DigestKind, Scuttle, Precise, mark_of, mark_held, is_before, IsUpTo, absent-first, entry_at, mark_at, greatest_mark, greatest_mark-unique, known_mark, told_by, offered_by, write_from-here, write_numbered, OwnerListView, entries_of, AreWrites, all_writes, Cells, cell, start_before, start_of, numbered-none, numbered-placed, numbered-some, numbered-within, numbers-before, numbers-compare, numbers-up_to, VersionTableView, HistoriesView, table_in, IsKept, IsGreatest, AreKnown, FitBoth, FitsHistories, IsBeginning, IsWrittenSoFar}
pub use Rattle.version_tables.proofs.Laid.{HoldsNumber, LiesAs, has_cells, holds-same, kept-number, lies-kept, lies-table, no-number, none-unless}

-- writes of earlier generations are of older ones than the owner's own
pub earlier-at : (v : OwnerListView) → AreWrites v → (number : ℕ) (e : Entry) → write_numbered (entries_of v) number ≡ Some e
    → number ≤ length v.earlier → e.generation < v.generation
earlier-at v are number e is upto =
    let at = numbered-placed (entries_of v) number e is in let before : at.place < length v.earlier = omega (arith, at.is, upto) in
    grind (arith, get_or_append_left v.earlier v.current e at.place before, at.there e, are.earlier at.place e before)

-- numbers of writes so far, where a table holds no others of an owner, are up to their count
pub so-far-upto : {written : ℕ → List Entry} {v : VersionTableView} → IsKept written v → (so_far : List Entry) (owner : ℕ) → IsBeginning so_far (written owner)
    → ((key : ℕ) (e : Entry) → entry_at (table_in written v) owner key ≡ Some e → Contains so_far e)
    → (key : ℕ) → owner < v.nodes → key < v.keys → cell v.cells v.nodes owner key ≤ length so_far
so-far-upto {written = written} {v = v} kept so_far owner begins holds key in_nodes in_keys = elim (cases_lt 0 (cell v.cells v.nodes owner key)) [
  | inr none ↦ omega (arith, none)
  | inl some ↦
      let number = kept.numbers.each owner key in_nodes in_keys in
      let there = numbered-some (written owner) (cell v.cells v.nodes owner key) some number.written in
      let (place, lt, at) = holds key there.0 (has_cells written v kept.numbers owner key in_nodes in_keys ∙ there.1) in
      let same = sym (begins (suc place) (omega (arith, lt))) ∙ write_from-here so_far place there.0 lt ∙ ap Some at ∙ sym there.1 in
      let never = λ (before : suc place < cell v.cells v.nodes owner key). number.first (suc place) before same in grind (arith, never, lt)
]

-- a table beside the histories
pub record IsLaid (written : ℕ → List Entry) (most : ℕ) (h : HistoriesView) (v : VersionTableView) : Type 0 where
  pub known : AreKnown written most h
  pub fits : FitsHistories h (table_in written v)
  pub kept : IsKept written v
  pub open kept use {proper, numbers, most as tops}

-- two of one size
pub record AreLaidBoth (written : ℕ → List Entry) (most : ℕ) (h : HistoriesView) (from to : VersionTableView) : Type 0 where
  pub nodes : from.nodes ≡ to.nodes
  pub keys : from.keys ≡ to.keys
  pub first : IsLaid written most h from
  pub second : IsLaid written most h to

pub laid-both : {written : ℕ → List Entry} {most : ℕ} {h : HistoriesView} {p q : VersionTableView} → AreKnown written most h
    → FitBoth h (table_in written p) (table_in written q) → IsKept written p → IsKept written q → AreLaidBoth written most h p q
laid-both known both p_kept q_kept = search rules

pub turned : {written : ℕ → List Entry} {most : ℕ} {h : HistoriesView} {p q : VersionTableView} → AreLaidBoth written most h p q
    → AreLaidBoth written most h q p
turned two = record { nodes = sym two.nodes; keys = sym two.keys; first = two.second; second = two.first }

-- what a table holds of an owner
module _ {written : ℕ → List Entry} {most : ℕ} {h : HistoriesView} {v : VersionTableView} (laid : IsLaid written most h v) (owner : ℕ)
    (in_nodes : owner < v.nodes) where
  abbrev writes : List Entry
  writes = all_writes h.lists owner

  abbrev held : ℕ → ℕ
  held = cell v.cells v.nodes owner

  abbrev greatest : ℕ
  greatest = get_or v.greatest owner 0

  so_far : IsWrittenSoFar (written owner) most writes
  so_far = laid.known.so_far owner

  top : IsGreatest (cell v.cells v.nodes) v.keys owner greatest
  top = laid.tops.each owner in_nodes

  -- its numbers are of writes so far
  pub cells-upto : (key : ℕ) → key < v.keys → held key ≤ length writes
  cells-upto key = so-far-upto laid.kept writes owner so_far.begins (laid.fits.holds owner) key in_nodes

  pub cells-are : (key : ℕ) → key < v.keys → entry_at (table_in written v) owner key ≡ write_numbered writes (held key)
  cells-are key in_keys = has_cells written v laid.numbers owner key in_nodes in_keys ∙ sym (so_far.begins (held key) (cells-upto key in_keys))

  -- one that isn't 0 is of a write that it holds
  pub cells-held : (key : ℕ) → key < v.keys → 0 < held key → (e : Entry) × (write_numbered writes (held key) ≡ Some e)
      × (entry_at (table_in written v) owner key ≡ Some e)
  cells-held key in_keys some =
      let there = numbered-some writes (held key) some (cells-upto key in_keys) in (there.0, there.1, cells-are key in_keys ∙ there.1)

  -- the mark of a number
  abbrev mark_numbered : ℕ → Mark
  mark_numbered number = mark_held (write_numbered writes number)

  -- the greatest number is that of a write, or 0
  pub greatest-within : greatest ≤ length writes
  greatest-within = elim top.held [ inl none ↦ omega (arith, none) | inr (key, in_keys, is) ↦ omega (arith, is, cells-upto key in_keys) ]

  up_to-greatest : (number : ℕ) → number ≤ greatest → IsUpTo (mark_numbered number) (mark_numbered greatest)
  up_to-greatest zero le = absent-first (mark_numbered greatest)
  up_to-greatest (suc place) le =
      let d = numbered-some writes (suc place) (omega arith) (omega (arith, le, greatest-within)) in
      let e = numbered-some writes greatest (omega (arith, le)) greatest-within in
      rw (d.1, e.1) (numbers-up_to writes so_far.history (suc place) greatest d.0 e.0 d.1 e.1 le)

  pub greatest-mark : greatest_mark (table_in written v) owner ≡ mark_numbered greatest
  greatest-mark = greatest_mark-unique (table_in written v) owner (mark_numbered greatest)
      (λ key in_keys. rw (cells-are key in_keys) (up_to-greatest (held key) (top.upto key in_keys)))
      (elim top.held [
        | inl none ↦ inl (ap mark_numbered none)
        | inr (key, in_keys, is) ↦ inr (key, in_keys, ap mark_held (cells-are key in_keys) ∙ ap mark_numbered is)
      ])

  -- what its digest tells of a write: whether the table lacks it
  module _ (key : ℕ) (in_keys : key < v.keys) (e : Entry) (sender : Cells) (is_e : write_numbered writes (sender owner key) ≡ Some e)
      (keyed : e.key ≡ key) where
    abbrev number : ℕ
    number = sender owner key

    some : (0 < number) × (1 ≤ e.version)
    some = ((numbered-within writes number e is_e).0, (so_far.numbered.counted number e is_e).0)

    scuttle-of : (o : Option Entry) → write_numbered writes greatest ≡ o → is_before (mark_held o) (mark_of e) ≡ nat_lt greatest number
    scuttle-of None none = let zero_here = numbered-none writes greatest greatest-within none in grind (arith, nat_tests, some.0, some.1)
    scuttle-of (Some f) is_f = numbers-compare writes so_far.history greatest number f e is_f is_e

    -- by the mark of the key and the generation of the greatest one: what is held is of that, so it is behind its start
    precise-of : (o p : Option Entry) → write_numbered writes (held key) ≡ o → write_numbered writes greatest ≡ p
        → is_before (record { generation = (mark_held p).generation; version = (mark_held o).version }) (mark_of e) ≡ nat_lt
        (max (held key) (start_before greatest p)) number
    precise-of None None none nothing =
        let zero_here = numbered-none writes (held key) (cells-upto key in_keys) none in grind (arith, nat_tests, some.0, some.1)
    precise-of None (Some f) none is_f =
        let zero_here = numbered-none writes (held key) (cells-upto key in_keys) none in let counted = so_far.numbered.counted greatest f is_f in
        let older = so_far.numbered.older number greatest e f is_e is_f in let alike = so_far.numbered.alike number greatest e f is_e is_f in
        let behind = λ (lt : greatest < number). (numbers-before writes so_far.history greatest number f e is_f is_e lt).generation in
        grind (arith, nat_tests, some.0, some.1)
    precise-of (Some d) None is_d nothing =
        absurd (omega (arith, top.upto key in_keys, numbered-none writes greatest greatest-within nothing, (numbered-within writes (held key) d is_d).0))
    precise-of (Some d) (Some f) is_d is_f =
        let same : f.generation ≡ d.generation = sym (ap (λ o. (mark_held o).generation) is_f) ∙ sym (ap (λ (m : Mark). m.generation) greatest-mark)
        ∙ sym (laid.proper.copies owner key d (cells-are key in_keys ∙ is_d)) in
        let older = so_far.numbered.older (held key) greatest d f is_d is_f in
        let counted = so_far.numbered.counted greatest f is_f in let below : greatest - f.version < held key = grind arith in
        (λ i. is_before (record { generation = same i; version = d.version }) (mark_of e))
        ∙ numbers-compare writes so_far.history (held key) number d e is_d is_e ∙ ap (λ n. nat_lt n number) (omega (arith, below))

    pub lacks : (kind : DigestKind) (low : ℕ → ℕ) → low owner ≡ told_by kind writes greatest
        → is_before (known_mark kind (table_in written v) (record { owner = owner; entry = e })) (mark_of e)
        ≡ nat_lt (low owner) (offered_by kind sender (cell v.cells v.nodes) low owner key)
    lacks Scuttle low is =
        ap (λ m. is_before m (mark_of e)) greatest-mark ∙ scuttle-of (write_numbered writes greatest) refl ∙ ap (λ n. nat_lt n number) (sym is)
    lacks Precise low is =
        let at : is_before (known_mark Precise (table_in written v) (record { owner = owner; entry = e })) (mark_of e)
        ≡ nat_lt (max (held key) (start_of writes greatest)) number =
        (λ i. is_before (record {
          generation = (greatest-mark i).generation;
          version = ((ap (mark_at (table_in written v) owner) keyed ∙ ap mark_held (cells-are key in_keys)) i).version;
        }) (mark_of e)) ∙ precise-of (write_numbered writes (held key)) (write_numbered writes greatest) refl refl in
        grind (arith, nat_tests)
