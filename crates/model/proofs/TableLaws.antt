-- Laws of tables: what each place holds after a write, after a list of items and after a restart.
-- Serves most of the crate and the crates above.
use Rattle.model.proofs.Common.{◌≡◌, ◌≢◌, ℕ, suc, ◌<◌, ◌≤◌, not, Bool, true, false, cond, ◌==◌, List, [], ◌∷◌, Option, Some, None, All, ◌⊎◌, inl, inr, if◌then◌else◌, refl, sym, ap, ◌∙◌, subst, arith, is_eq, eq_by_cmp, tied_itself, get, get-insert, get-empty, get-retain_keys, same_map, cases_lt, cases_eq, and_parts, and_from, and_left, and_right, eq-eqb, ne_eqb, eqb-true, lt-ltb, le-ltb, All-head, All-tail, Entry, Item, newer, mark_of, is_before, equal, same_Some}
use Rattle.std.specs.List.{Contains}
use Rattle.model.specs.Table.{Place, place_cmp, Held, Table, empty_table, entry_at, generation_held, held_with, without_owner, held_beside, taken, applied, own_write, with_own_write, without_others, without_all}
use Rattle.model.specs.inner.Items.{place_of}
use Rattle.model.specs.inner.Applied.{stands_at, items_at}
use Rattle.model.proofs.Order.{place_total, place_same}

-- places that tie are one place
pub place_tied : (p q : Place) → eq_by_cmp place_cmp p q ≡ true → p ≡ q
place_tied p q tie = place_same p q (equal _ tie)

tied_with : (p q : Place) → p ≡ q → eq_by_cmp place_cmp p q ≡ true
tied_with p q e = subst (λ (r : Place). eq_by_cmp place_cmp p r ≡ true) e (ap is_eq (tied_itself place_total p))

apart_from : (p q : Place) → (p ≡ q → ⊥) → eq_by_cmp place_cmp p q ≡ false
apart_from p q apart = elim (eq_by_cmp place_cmp p q) as (λ b. eq_by_cmp place_cmp p q ≡ b → b ≡ false) [
  | true ↦ λ tie. absurd (apart (place_tied p q tie))
  | false ↦ λ _. refl
] refl

-- two tests of which each passes where the other does
same_test : (a b : Bool) → (a ≡ true → b ≡ true) → (b ≡ true → a ≡ true) → a ≡ b
same_test true b to from = sym (to refl)
same_test false true to from = from refl
same_test false false to from = refl

place_from : (owner key : ℕ) (i : Item) → stands_at owner key i ≡ true → (owner, key) ≡ place_of i
place_from owner key i here =
    let parts = and_parts (i.owner == owner) (i.entry.key == key) here in
    λ n. (sym (eqb-true i.owner owner parts.0) n, sym (eqb-true i.entry.key key parts.1) n)

pub tied-stands_at : (owner key : ℕ) (i : Item) → eq_by_cmp place_cmp (owner, key) (place_of i) ≡ stands_at owner key i
tied-stands_at owner key i = same_test _ _
    (λ tie. let same = place_tied (owner, key) (place_of i) tie in and_from (i.owner == owner) (i.entry.key == key) (eq-eqb _ _ (sym (ap (λ (p : Place). p.0) same))) (eq-eqb _ _ (sym (ap (λ (p : Place). p.1) same))))
    (λ here. tied_with (owner, key) (place_of i) (place_from owner key i here))

-- one item changes its own place alone
pub get-held_with : (m : Held) (i : Item) (owner key : ℕ) → get (held_with m i) (owner, key) ≡ (if stands_at owner key i then Some (newer (get m (owner, key)) i.entry) else get m (owner, key))
get-held_with m i owner key =
    get-insert place_total m (place_of i) (newer (get m (place_of i)) i.entry) (owner, key)
    ∙ ap (λ b. cond b (Some (newer (get m (place_of i)) i.entry)) (get m (owner, key))) (tied-stands_at owner key i)
    ∙ elim (stands_at owner key i) as (λ b. stands_at owner key i ≡ b → cond b (Some (newer (get m (place_of i)) i.entry)) (get m (owner, key)) ≡ cond b (Some (newer (get m (owner, key)) i.entry)) (get m (owner, key))) [
      | true ↦ λ here. ap (λ (p : Place). Some (newer (get m p) i.entry)) (sym (place_from owner key i here))
      | false ↦ λ _. refl
    ] refl

-- two tables with the same node, bounds, generation and entries are one
pub same_table : (t u : Table) → t.node ≡ u.node → t.nodes ≡ u.nodes → t.keys ≡ u.keys → t.generation ≡ u.generation → ((owner key : ℕ) → entry_at t owner key ≡ entry_at u owner key) → t ≡ u
same_table t u n ns ks g same =
    let held = same_map place_total place_same t.held u.held (λ q. same q.0 q.1) in
    λ i. record { node = n i; nodes = ns i; keys = ks i; generation = g i; held = held i }

pub items_at-none : (added : List Item) (owner key : ℕ) → All (λ i. stands_at owner key i ≡ false) added → items_at owner key added ≡ []
items_at-none [] owner key none = refl
items_at-none (i ∷ is) owner key none =
    ap (λ b. cond b (i ∷ items_at owner key is) (items_at owner key is)) (All-head (λ x. stands_at owner key x ≡ false) i is none)
    ∙ items_at-none is owner key (All-tail (λ x. stands_at owner key x ≡ false) i is none)

-- an item of another owner stands elsewhere
pub stands_at-other : (owner key : ℕ) (i : Item) → i.owner ≢ owner → stands_at owner key i ≡ false
stands_at-other owner key i other = and_left (i.owner == owner) (i.entry.key == key) (ne_eqb i.owner owner other)

-- of an owner that is dropped nothing is held, and of the others what was
pub get-without_owner : (m : Held) (gone owner key : ℕ) → get (without_owner m gone) (owner, key) ≡ (if not (owner == gone) then get m (owner, key) else None)
get-without_owner m gone owner key = get-retain_keys m (λ (p : Place). not (p.0 == gone)) (owner, key) (λ x tie. ap (λ (p : Place). not (p.0 == gone)) (sym (place_same (owner, key) x tie)))

get-without_owner_other : (m : Held) (gone owner key : ℕ) → owner ≢ gone → get (without_owner m gone) (owner, key) ≡ get m (owner, key)
get-without_owner_other m gone owner key other = get-without_owner m gone owner key ∙ ap (λ b. cond (not b) (get m (owner, key)) None) (ne_eqb owner gone other)

get-without_owner_own : (m : Held) (owner key : ℕ) → get (without_owner m owner) (owner, key) ≡ None
get-without_owner_own m owner key = get-without_owner m owner owner key ∙ ap (λ b. cond (not b) (get m (owner, key)) None) (eq-eqb owner owner refl)

-- a table with an item taken among these entries
abbrev taking : Table → Held → Item → Table
taking t m i = record t { held = held_with m i }

-- an item is of an older generation than the copy, of a newer one, or of the same
pub cases_taken : (t : Table) (i : Item)
    → ((i.entry.generation < generation_held t i.owner) × (taken t i ≡ t))
    ⊎ (((generation_held t i.owner < i.entry.generation) × (taken t i ≡ taking t (without_owner t.held i.owner) i))
    ⊎ ((i.entry.generation ≡ generation_held t i.owner) × (taken t i ≡ taking t t.held i)))
cases_taken t i = elim (cases_lt i.entry.generation (generation_held t i.owner)) [
  | inl older ↦ inl (older, ap (λ b. if b then t else taking t (held_beside t i.owner i.entry.generation) i) (lt-ltb i.entry.generation (generation_held t i.owner) older))
  | inr not_older ↦ elim (cases_lt (generation_held t i.owner) i.entry.generation) [
    | inl newer ↦ inr (inl (newer, not_left not_older ∙ ap (λ b. taking t (if b then without_owner t.held i.owner else t.held) i) (lt-ltb (generation_held t i.owner) i.entry.generation newer)))
    | inr not_newer ↦ inr (inr (omega arith, not_left not_older ∙ ap (λ b. taking t (if b then without_owner t.held i.owner else t.held) i) (le-ltb (generation_held t i.owner) i.entry.generation not_newer)))
  ]
]
  where
    not_left : generation_held t i.owner ≤ i.entry.generation → taken t i ≡ taking t (held_beside t i.owner i.entry.generation) i
    not_left le = ap (λ b. if b then t else taking t (held_beside t i.owner i.entry.generation) i) (le-ltb i.entry.generation (generation_held t i.owner) le)

-- what stands at a place once an item was taken
pub entry_at-taken_other : (t : Table) (i : Item) (owner key : ℕ) → i.owner ≢ owner → entry_at (taken t i) owner key ≡ entry_at t owner key
entry_at-taken_other t i owner key other = elim (cases_taken t i) [
  | inl older ↦ ap (λ (u : Table). entry_at u owner key) older.1
  | inr (inl newer) ↦ ap (λ (u : Table). entry_at u owner key) newer.1 ∙ elsewhere (without_owner t.held i.owner) ∙ get-without_owner_other t.held i.owner owner key (λ same. other (sym same))
  | inr (inr same) ↦ ap (λ (u : Table). entry_at u owner key) same.1 ∙ elsewhere t.held
]
  where
    elsewhere : (m : Held) → get (held_with m i) (owner, key) ≡ get m (owner, key)
    elsewhere m = get-held_with m i owner key ∙ ap (λ b. cond b (Some (newer (get m (owner, key)) i.entry)) (get m (owner, key))) (stands_at-other owner key i other)

module _ (t : Table) (i : Item) where
  stands_here : stands_at i.owner i.entry.key i ≡ true
  stands_here = and_from (i.owner == i.owner) (i.entry.key == i.entry.key) (eq-eqb i.owner i.owner refl) (eq-eqb i.entry.key i.entry.key refl)

  stands_off : (key : ℕ) → i.entry.key ≢ key → stands_at i.owner key i ≡ false
  stands_off key off = and_right (i.owner == i.owner) (i.entry.key == key) (ne_eqb i.entry.key key off)

  here : (m : Held) → entry_at (taking t m i) i.owner i.entry.key ≡ Some (newer (get m (i.owner, i.entry.key)) i.entry)
  here m = get-held_with m i i.owner i.entry.key ∙ ap (λ b. cond b (Some (newer (get m (i.owner, i.entry.key)) i.entry)) (get m (i.owner, i.entry.key))) stands_here

  off : (m : Held) (key : ℕ) → i.entry.key ≢ key → entry_at (taking t m i) i.owner key ≡ get m (i.owner, key)
  off m key apart = get-held_with m i i.owner key ∙ ap (λ b. cond b (Some (newer (get m (i.owner, key)) i.entry)) (get m (i.owner, key))) (stands_off key apart)

  -- one of a newer generation is all that is held of its owner
  pub entry_at-taken_newer : generation_held t i.owner < i.entry.generation → (entry_at (taken t i) i.owner i.entry.key ≡ Some i.entry) × ((key : ℕ) → i.entry.key ≢ key → entry_at (taken t i) i.owner key ≡ None)
  entry_at-taken_newer is_newer = elim (cases_taken t i) [
    | inl older ↦ absurd (omega (arith, older.0))
    | inr (inl next) ↦ (
      ap (λ (u : Table). entry_at u i.owner i.entry.key) next.1 ∙ here (without_owner t.held i.owner) ∙ ap (λ h. Some (newer h i.entry)) (get-without_owner_own t.held i.owner i.entry.key),
      λ key apart. ap (λ (u : Table). entry_at u i.owner key) next.1 ∙ off (without_owner t.held i.owner) key apart ∙ get-without_owner_own t.held i.owner key,
    )
    | inr (inr same) ↦ absurd (omega (arith, same.0))
  ]

  -- one of the same generation changes its own place alone
  pub entry_at-taken_same : i.entry.generation ≡ generation_held t i.owner → (entry_at (taken t i) i.owner i.entry.key ≡ Some (newer (entry_at t i.owner i.entry.key) i.entry)) × ((key : ℕ) → i.entry.key ≢ key → entry_at (taken t i) i.owner key ≡ entry_at t i.owner key)
  entry_at-taken_same is_same = elim (cases_taken t i) [
    | inl older ↦ absurd (omega (arith, older.0))
    | inr (inl next) ↦ absurd (omega (arith, next.0))
    | inr (inr same) ↦ (
      ap (λ (u : Table). entry_at u i.owner i.entry.key) same.1 ∙ here t.held,
      λ key apart. ap (λ (u : Table). entry_at u i.owner key) same.1 ∙ off t.held key apart,
    )
  ]

  -- one of an older generation changes nothing
  pub taken-older : i.entry.generation < generation_held t i.owner → taken t i ≡ t
  taken-older is_older = elim (cases_taken t i) [
    | inl older ↦ older.1
    | inr (inl next) ↦ absurd (omega (arith, next.0))
    | inr (inr same) ↦ absurd (omega (arith, same.0))
  ]

-- a list of items changes neither the node nor the bounds nor the node's generation
pub record KeepsFrame (t u : Table) : Type 0 where
  pub node : u.node ≡ t.node
  pub nodes : u.nodes ≡ t.nodes
  pub keys : u.keys ≡ t.keys
  pub generation : u.generation ≡ t.generation

pub frame-itself : (t : Table) → KeepsFrame t t
frame-itself t = record { node = refl; nodes = refl; keys = refl; generation = refl }

pub frame-taken : (t : Table) (i : Item) → KeepsFrame t (taken t i)
frame-taken t i = elim (cases_taken t i) [
  | inl older ↦ subst (KeepsFrame t) (sym older.1) (frame-itself t)
  | inr (inl next) ↦ subst (KeepsFrame t) (sym next.1) (record { node = refl; nodes = refl; keys = refl; generation = refl })
  | inr (inr same) ↦ subst (KeepsFrame t) (sym same.1) (record { node = refl; nodes = refl; keys = refl; generation = refl })
]

pub frame-then : (t u v : Table) → KeepsFrame t u → KeepsFrame u v → KeepsFrame t v
frame-then t u v a b = record { node = b.node ∙ a.node; nodes = b.nodes ∙ a.nodes; keys = b.keys ∙ a.keys; generation = b.generation ∙ a.generation }

pub frame-applied : (t : Table) (added : List Item) → KeepsFrame t (applied t added)
frame-applied t [] = frame-itself t
frame-applied t (i ∷ is) = frame-then t (taken t i) (applied (taken t i) is) (frame-taken t i) (frame-applied (taken t i) is)

-- the entries of an owner that no item has stay
pub entry_at-applied_other : (t : Table) (added : List Item) (owner key : ℕ) → All (λ i. i.owner ≢ owner) added → entry_at (applied t added) owner key ≡ entry_at t owner key
entry_at-applied_other t [] owner key others = refl
entry_at-applied_other t (i ∷ is) owner key others =
    entry_at-applied_other (taken t i) is owner key (All-tail (λ x. x.owner ≢ owner) i is others)
    ∙ entry_at-taken_other t i owner key (All-head (λ x. x.owner ≢ owner) i is others)

-- what is kept is one of the two
newer_either : (held : Option Entry) (incoming e : Entry) → newer held incoming ≡ e → (held ≡ Some e) ⊎ (incoming ≡ e)
newer_either None incoming e is = inr is
newer_either (Some held) incoming e is = elim (is_before (mark_of held) (mark_of incoming)) as (λ b. cond b incoming held ≡ e → (Some held ≡ Some e) ⊎ (incoming ≡ e)) [
  | true ↦ λ h. inr h
  | false ↦ λ h. inl (ap Some h)
] is

-- the entry came with this owner, under its own key
abbrev pub CameWith : List Item → ℕ → ℕ → Entry → Type 0
CameWith added owner key e = Contains added (record { owner = owner; entry = e }) × (e.key ≡ key)

-- an entry stood in the table before or is the item's
pub entry_at-taken_from : (t : Table) (i : Item) (owner key : ℕ) (e : Entry) → entry_at (taken t i) owner key ≡ Some e → (entry_at t owner key ≡ Some e) ⊎ ((i.owner ≡ owner) × (i.entry.key ≡ key) × (i.entry ≡ e))
entry_at-taken_from t i owner key e found = elim (cases_eq i.owner owner) [
  | inr other ↦ inl (sym (entry_at-taken_other t i owner key other) ∙ found)
  | inl own ↦
      let own_found : entry_at (taken t i) i.owner key ≡ Some e = subst (λ o. entry_at (taken t i) o key ≡ Some e) (sym own) found in
      elim (from_own own_found) [ inl before ↦ inl (subst (λ o. entry_at t o key ≡ Some e) own before) | inr came ↦ inr (own, came.0, came.1) ]
]
  where
    at_key : i.entry.key ≡ key → entry_at (taken t i) i.owner key ≡ Some e → entry_at (taken t i) i.owner i.entry.key ≡ Some e
    at_key same there = subst (λ k. entry_at (taken t i) i.owner k ≡ Some e) (sym same) there

    from_own : entry_at (taken t i) i.owner key ≡ Some e → (entry_at t i.owner key ≡ Some e) ⊎ ((i.entry.key ≡ key) × (i.entry ≡ e))
    from_own there = elim (cases_taken t i) [
      | inl older ↦ inl (ap (λ (u : Table). entry_at u i.owner key) (sym older.1) ∙ there)
      | inr (inl next) ↦ elim (cases_eq i.entry.key key) [
        | inl same ↦ inr (same, same_Some _ e (sym (entry_at-taken_newer t i next.0).0 ∙ at_key same there))
        | inr apart ↦ absurd (nothing (sym ((entry_at-taken_newer t i next.0).1 key apart) ∙ there))
      ]
      | inr (inr as_old) ↦ elim (cases_eq i.entry.key key) [
        | inl same ↦ elim (newer_either (entry_at t i.owner i.entry.key) i.entry e (same_Some _ e (sym (entry_at-taken_same t i as_old.0).0 ∙ at_key same there))) [
          | inl held ↦ inl (subst (λ k. entry_at t i.owner k ≡ Some e) same held)
          | inr is ↦ inr (same, is)
        ]
        | inr apart ↦ inl (sym ((entry_at-taken_same t i as_old.0).1 key apart) ∙ there)
      ]
    ]
      where
        nothing : None ≡ Some e → ⊥
        nothing h = cc

-- each entry stood in the table before or is one of those that came
pub entry_at-applied_from : (t : Table) (added : List Item) (owner key : ℕ) (e : Entry) → entry_at (applied t added) owner key ≡ Some e → (entry_at t owner key ≡ Some e) ⊎ CameWith added owner key e
entry_at-applied_from t [] owner key e found = inl found
entry_at-applied_from t (i ∷ is) owner key e found = elim (entry_at-applied_from (taken t i) is owner key e found) [
  | inl before ↦ elim (entry_at-taken_from t i owner key e before) [
    | inl held ↦ inl held
    | inr came ↦ inr ((0, omega arith, λ n. record { owner = came.0 n; entry = came.2 n }), ap (λ (x : Entry). x.key) (sym came.2) ∙ came.1)
  ]
  | inr came ↦ inr ((suc came.0.0, omega (arith, came.0.1), came.0.2), came.1)
]

-- an own write stands at its place
pub entry_at-own_write : (t : Table) (k v b : ℕ) → entry_at (with_own_write t k v b) t.node k ≡ Some (own_write t k v b)
entry_at-own_write t k v b =
    get-insert place_total t.held (t.node, k) (own_write t k v b) (t.node, k)
    ∙ ap (λ tie. cond tie (Some (own_write t k v b)) (get t.held (t.node, k))) (tied_with (t.node, k) (t.node, k) refl)

-- and changes no other
pub entry_at-own_write_other : (t : Table) (k v b owner key : ℕ) → (owner ≢ t.node) ⊎ (key ≢ k) → entry_at (with_own_write t k v b) owner key ≡ entry_at t owner key
entry_at-own_write_other t k v b owner key other =
    get-insert place_total t.held (t.node, k) (own_write t k v b) (owner, key)
    ∙ ap (λ tie. cond tie (Some (own_write t k v b)) (get t.held (owner, key))) (apart_from (owner, key) (t.node, k) (apart other))
  where
    apart : (owner ≢ t.node) ⊎ (key ≢ k) → ◌≡◌ {A = Place} (owner, key) (t.node, k) → ⊥
    apart (inl ne) same = ne (ap (λ (p : Place). p.0) same)
    apart (inr ne) same = ne (ap (λ (p : Place). p.1) same)

-- a restart keeps the node's own entries alone
pub entry_at-without_others : (t : Table) (owner key : ℕ) → entry_at (without_others t) owner key ≡ (if owner == t.node then entry_at t owner key else None)
entry_at-without_others t owner key = get-retain_keys t.held (λ (p : Place). p.0 == t.node) (owner, key) (λ x tie. ap (λ (p : Place). p.0 == t.node) (sym (place_same (owner, key) x tie)))

pub entry_at-without_others_own : (t : Table) (key : ℕ) → entry_at (without_others t) t.node key ≡ entry_at t t.node key
entry_at-without_others_own t key = entry_at-without_others t t.node key ∙ ap (λ b. cond b (entry_at t t.node key) None) (eq-eqb t.node t.node refl)

pub entry_at-without_others_other : (t : Table) (owner key : ℕ) → owner ≢ t.node → entry_at (without_others t) owner key ≡ None
entry_at-without_others_other t owner key other = entry_at-without_others t owner key ∙ ap (λ b. cond b (entry_at t owner key) None) (ne_eqb owner t.node other)

-- and one that forgets keeps nothing
pub entry_at-without_all : (t : Table) (owner key : ℕ) → entry_at (without_all t) owner key ≡ None
entry_at-without_all t owner key = get-empty place_cmp (owner, key)

pub entry_at-empty_table : (n ns ks owner key : ℕ) → entry_at (empty_table n ns ks) owner key ≡ None
entry_at-empty_table n ns ks owner key = get-empty place_cmp (owner, key)
