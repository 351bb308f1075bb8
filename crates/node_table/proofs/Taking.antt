-- An item that a table takes: the table with its entry put at its place, and the lists of greatest versions and of
-- generations.
-- Serves the functions of `layouts` and `tables`, `Flags`, `Opened` and `Room`.
use Rattle.node_table.proofs.Common.{◌≡◌, ◌≢◌, ℕ, ◌<◌, ◌≤◌, max, cond, true, false, List, length, get_or, set, Some, None, ◌⊎◌, inl, inr, refl, sym, ap, ◌∙◌, subst, arith, get, get-insert, same_map, eq_by_cmp, cases_eq, length-set, get_or-set_same, get_or-set_other, Entry, Item, Mark, newer, absent, mark_of, mark_held, IsUpTo, later, before-yes, before-no, cases_later, later-second, second-later, Place, place_cmp, Held, Table, entry_at, mark_at, greatest_mark, generation_held, greatest_version, taken, own_write, with_own_write, IsProper, place_total, place_same, place_tied, same_table, cases_taken, entry_at-taken_other, entry_at-taken_newer, entry_at-own_write, entry_at-own_write_other, frame-taken, greatest_mark-from, greatest_mark-none, mark_at-up_to_greatest, greatest_mark-taken, greatest_mark-taken_other}
use Rattle.std.specs.FinMap.{insert}
use Rattle.node_table.specs.Entries.{AreGenerations, AreGreatest}
use Rattle.node_table.specs.inner.Layouts.{with_entry, AreOthersKept}

nothing : (e : Entry) → None ≡ Some e → ⊥
nothing e h = cc

abbrev generation_of : Mark → ℕ
generation_of m = m.generation

put_back : (m : Held) (p : Place) (e : Entry) → get m p ≡ Some e → insert m p e ≡ m
put_back m p e held = same_map place_total place_same (insert m p e) m (λ q. get-insert place_total m p e q ∙ back q)
  where
    back : (q : Place) → cond (eq_by_cmp place_cmp q p) (Some e) (get m q) ≡ get m q
    back q = elim (eq_by_cmp place_cmp q p) as (λ b. eq_by_cmp place_cmp q p ≡ b → cond b (Some e) (get m q) ≡ get m q) [
      | true ↦ λ tie. sym held ∙ ap (get m) (sym (place_tied q p tie))
      | false ↦ λ _. refl
    ] refl

-- no version of a copy is above that of its greatest mark
pub version-le-greatest : (t : Table) (owner key : ℕ) → IsProper t → key < t.keys → (mark_at t owner key).version ≤ greatest_version t owner
version-le-greatest t owner key proper below = elim (entry_at t owner key) as (λ h. entry_at t owner key ≡ h → (mark_held h).version ≤ greatest_version t owner) [
  | None ↦ λ _. omega arith
  | Some e ↦ λ held.
      let most : IsUpTo (mark_of e) (greatest_mark t owner) = subst (λ h. IsUpTo (mark_held h) (greatest_mark t owner)) held (mark_at-up_to_greatest t owner key below) in
      omega (arith, most.version (proper.copies owner key e held))
] refl

-- a copy's greatest mark is the absent one or has a version
pub absent_or_written : (t : Table) (owner : ℕ) → IsProper t → (greatest_mark t owner ≡ absent) ⊎ (1 ≤ greatest_version t owner)
absent_or_written t owner proper = elim (greatest_mark-from t owner) [
  | inl none ↦ inl none
  | inr (key, lt, is) ↦ elim (entry_at t owner key) as (λ h. entry_at t owner key ≡ h → mark_held h ≡ greatest_mark t owner → (greatest_mark t owner ≡ absent) ⊎ (1 ≤ greatest_version t owner)) [
    | None ↦ λ _ at. inl (sym at)
    | Some e ↦ λ held at. inr (omega (arith, (proper.in_place owner key e held).written, ap (λ (m : Mark). m.version) at))
  ] refl is
]

-- marks of one generation compare by version
pub later-same : (m n : Mark) → n.generation ≡ m.generation → ((later m n).generation ≡ m.generation) × ((later m n).version ≡ max m.version n.version)
later-same m n same = elim (cases_later m n) [
  | inl second ↦ (ap (λ (x : Mark). x.generation) second.0 ∙ same, ap (λ (x : Mark). x.version) second.0 ∙ omega (arith, second.1.version (sym same)))
  | inr first ↦ (ap (λ (x : Mark). x.generation) first.0, ap (λ (x : Mark). x.version) first.0 ∙ omega (arith, first.1.version same))
]

-- the table with an entry at an item's place
abbrev kept_at : Table → Item → Entry → Table
kept_at t i e = record t { held = insert t.held (i.owner, i.entry.key) e }

-- one of the copy's generation is put at its place, or nothing changes
module _ (t : Table) (i : Item) (proper : IsProper t) (same : i.entry.generation ≡ generation_held t i.owner) where
  is_kept : taken t i ≡ kept_at t i (newer (entry_at t i.owner i.entry.key) i.entry)
  is_kept = elim (cases_taken t i) [
    | inl older ↦ absurd (omega (arith, older.0))
    | inr (inl next) ↦ absurd (omega (arith, next.0))
    | inr (inr as_held) ↦ as_held.1
  ]

  pub taken_put : (mark_at t i.owner i.entry.key).version < i.entry.version → taken t i ≡ with_entry t i.owner i.entry
  taken_put newer_item = elim (entry_at t i.owner i.entry.key) as (λ o. entry_at t i.owner i.entry.key ≡ o → (mark_held o).version < i.entry.version → taken t i ≡ with_entry t i.owner i.entry) [
    | None ↦ λ none _. is_kept ∙ ap (λ o. kept_at t i (newer o i.entry)) none
    | Some e ↦ λ held lt.
        is_kept
        ∙ ap (λ o. kept_at t i (newer o i.entry)) held
        ∙ ap (λ b. kept_at t i (cond b i.entry e)) (before-yes (mark_of e) (mark_of i.entry) (record { generation = omega (arith, proper.copies i.owner i.entry.key e held); version = λ _. lt }))
  ] refl newer_item

  pub taken_kept : 1 ≤ i.entry.version → i.entry.version ≤ (mark_at t i.owner i.entry.key).version → taken t i ≡ t
  taken_kept written older_item = elim (entry_at t i.owner i.entry.key) as (λ o. entry_at t i.owner i.entry.key ≡ o → i.entry.version ≤ (mark_held o).version → taken t i ≡ t) [
    | None ↦ λ _ le. absurd (omega arith)
    | Some e ↦ λ held le.
        is_kept
        ∙ ap (λ o. kept_at t i (newer o i.entry)) held
        ∙ ap (λ b. kept_at t i (cond b i.entry e)) (before-no (mark_of e) (mark_of i.entry) (record { generation = omega (arith, proper.copies i.owner i.entry.key e held); version = λ _. le }))
        ∙ ap (λ (m : Held). record t { held = m }) (put_back t.held (i.owner, i.entry.key) e held)
  ] refl older_item

-- the greatest mark of an item's owner
module _ (t : Table) (i : Item) (below : i.entry.key < t.keys) where
  generation-taken_same : i.entry.generation ≡ generation_held t i.owner → generation_held (taken t i) i.owner ≡ generation_held t i.owner
  generation-taken_same same = ap generation_of (greatest_mark-taken t i below) ∙ (later-same (greatest_mark t i.owner) (mark_of i.entry) same).0

  pub version-taken_same : i.entry.generation ≡ generation_held t i.owner → greatest_version (taken t i) i.owner ≡ max (greatest_version t i.owner) i.entry.version
  version-taken_same same = ap (λ (m : Mark). m.version) (greatest_mark-taken t i below) ∙ (later-same (greatest_mark t i.owner) (mark_of i.entry) same).1

  pub mark-taken_newer : generation_held t i.owner < i.entry.generation → greatest_mark (taken t i) i.owner ≡ mark_of i.entry
  mark-taken_newer is_newer = greatest_mark-taken t i below ∙ later-second (greatest_mark t i.owner) (mark_of i.entry) (record { generation = omega arith; version = λ alike. absurd (omega arith) })

  -- the list of greatest versions, with that of the owner
  pub greatest_set : (versions : List ℕ) (version : ℕ) → AreGreatest t versions → i.owner < t.nodes → version ≡ greatest_version (taken t i) i.owner → AreGreatest (taken t i) (set versions i.owner version)
  greatest_set versions version are owner_below is = record {
    count = length-set versions i.owner version ∙ are.count ∙ sym (frame-taken t i).nodes;
    greatest = λ o lt. elim (cases_eq o i.owner) [
      | inl own ↦ subst (λ p. get_or (set versions i.owner version) p 0 ≡ greatest_version (taken t i) p) (sym own) (get_or-set_same versions i.owner version 0 (omega (arith, are.count)) ∙ is)
      | inr other ↦ get_or-set_other versions i.owner o version 0 other ∙ are.greatest o (omega (arith, lt, (frame-taken t i).nodes)) ∙ sym (ap (λ (m : Mark). m.version) (greatest_mark-taken_other t i o (λ is_own. other (sym is_own))))
    ];
  }

  -- the list of generations stays where the item is of the copy's
  pub generations_same : (generations : List ℕ) → AreGenerations t generations → i.entry.generation ≡ generation_held t i.owner → AreGenerations (taken t i) generations
  generations_same generations are same = record {
    count = elim are.count [ inl none ↦ inl none | inr all ↦ inr (all ∙ sym (frame-taken t i).nodes) ];
    held = λ o lt. are.held o (omega (arith, lt, (frame-taken t i).nodes)) ∙ sym (elim (cases_eq o i.owner) [
      | inl own ↦ subst (λ p. generation_held (taken t i) p ≡ generation_held t p) (sym own) (generation-taken_same same)
      | inr other ↦ ap generation_of (greatest_mark-taken_other t i o (λ is_own. other (sym is_own)))
    ]);
  }

  -- and has the item's where that is newer
  pub generations_newer : (generations after : List ℕ) → AreGenerations t generations → generation_held t i.owner < i.entry.generation → length after ≡ t.nodes → get_or after i.owner 0 ≡ i.entry.generation → AreOthersKept i.owner generations after → AreGenerations (taken t i) after
  generations_newer generations after are is_newer len own others = record {
    count = inr (len ∙ sym (frame-taken t i).nodes);
    held = λ o lt. elim (cases_eq o i.owner) [
      | inl is_own ↦ subst (λ p. get_or after p 0 ≡ generation_held (taken t i) p) (sym is_own) (own ∙ sym (ap generation_of (mark-taken_newer is_newer)))
      | inr other ↦ others o other ∙ are.held o (omega (arith, lt, (frame-taken t i).nodes)) ∙ sym (ap generation_of (greatest_mark-taken_other t i o (λ is_own. other (sym is_own))))
    ];
  }

  -- something is then held of the owner
  pub held-taken : IsProper (taken t i) → 1 ≤ i.entry.version → 1 ≤ greatest_version (taken t i) i.owner
  held-taken proper written = elim (absent_or_written (taken t i) i.owner proper) [
    | inr some ↦ some
    | inl none ↦
        let most : IsUpTo (mark_of i.entry) absent = subst (IsUpTo (mark_of i.entry)) (sym (greatest_mark-taken t i below) ∙ none) (second-later (greatest_mark t i.owner) (mark_of i.entry)) in
        let generation : i.entry.generation ≡ 0 = omega (arith, most.generation) in
        absurd (omega (arith, most.version generation))
  ]

-- the node's own write, as an item
abbrev pub own_item : Table → ℕ → ℕ → ℕ → Item
own_item t k v b = record { owner = t.node; entry = own_write t k v b }

-- a table takes it as an own write
pub taken-own_write : (t : Table) (k v b : ℕ) → IsProper t → k < t.keys → taken t (own_item t k v b) ≡ with_own_write t k v b
taken-own_write t k v b proper below = elim (cases_eq t.generation (generation_held t t.node)) [
  | inl same ↦ taken_put t (own_item t k v b) proper same (omega (arith, version-le-greatest t t.node k proper below))
  | inr apart ↦
      let none = nothing_held apart in
      let generation : generation_held t t.node ≡ 0 = ap generation_of (greatest_mark-none t t.node (λ key _. none key)) in
      let newer = entry_at-taken_newer t (own_item t k v b) (omega (arith, generation)) in
      let frame = frame-taken t (own_item t k v b) in
      same_table (taken t (own_item t k v b)) (with_own_write t k v b) frame.node frame.nodes frame.keys frame.generation (λ owner key. elim (cases_eq owner t.node) [
        | inr other ↦ entry_at-taken_other t (own_item t k v b) owner key (λ is_own. other (sym is_own)) ∙ sym (entry_at-own_write_other t k v b owner key (inl other))
        | inl own ↦ subst (λ o. entry_at (taken t (own_item t k v b)) o key ≡ entry_at (with_own_write t k v b) o key) (sym own) (elim (cases_eq key k) [
          | inl at ↦ subst (λ j. entry_at (taken t (own_item t k v b)) t.node j ≡ entry_at (with_own_write t k v b) t.node j) (sym at) (newer.0 ∙ sym (entry_at-own_write t k v b))
          | inr off ↦ newer.1 key (λ at. off (sym at)) ∙ sym (none key) ∙ sym (entry_at-own_write_other t k v b t.node key (inr off))
        ])
      ])
]
  where
    nothing_held : t.generation ≢ generation_held t t.node → (key : ℕ) → entry_at t t.node key ≡ None
    nothing_held apart key = elim (entry_at t t.node key) as (λ h. entry_at t t.node key ≡ h → h ≡ None) [
      | None ↦ λ _. refl
      | Some e ↦ λ held. absurd (apart (sym (proper.own key e held) ∙ proper.copies t.node key e held))
    ] refl
