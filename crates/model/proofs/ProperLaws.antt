-- The tables that start are proper, and what changes a table keeps it so.
-- Serves `BeginLaws`, `Received` and the crates above.
use Rattle.model.proofs.Common.{◌≡◌, ◌≢◌, ◌==◌, ℕ, ◌+◌, ◌<◌, ◌≤◌, List, [], ◌∷◌, Some, None, All, ◌⊎◌, inl, inr, refl, sym, ap, ◌∙◌, subst, arith, insert, retain_keys, empty, cases_eq, All-head, All-tail, same_Some, Entry, Item, Mark, LEAST_KEYS, MOST_NODES, MOST_KEYS, mark_of, cases_later}
use Rattle.model.specs.Table.{Held, Table, empty_table, entry_at, greatest_mark, generation_held, taken, applied, own_write, with_own_write, without_others, without_all, IsInPlace, IsProper}
use Rattle.model.specs.calls.Table.{IsItemInPlace, MayReceive}
use Rattle.model.proofs.TableLaws.{KeepsFrame, cases_taken, entry_at-taken_other, entry_at-taken_newer, entry_at-taken_from, entry_at-own_write, entry_at-own_write_other, entry_at-without_others_own, entry_at-without_others_other, entry_at-without_all, entry_at-empty_table, frame-taken}
use Rattle.model.proofs.MarkLaws.{greatest_mark-taken, greatest_mark-taken_other, greatest_mark-own_write, greatest_mark-own_write_other, greatest_mark-without_others_own}

nothing : (e : Entry) → None ≡ Some e → ⊥
nothing e h = cc

pub proper-empty_table : (n ns ks : ℕ) → n < ns → ns ≤ MOST_NODES → LEAST_KEYS ≤ ks → ks ≤ MOST_KEYS → IsProper (empty_table n ns ks)
proper-empty_table n ns ks below limit some most = record {
  node_below = below;
  nodes_limit = limit;
  some_key = some;
  keys_limit = most;
  in_place = λ owner key e found. absurd (none owner key e found);
  copies = λ owner key e found. absurd (none owner key e found);
  own = λ key e found. absurd (none n key e found);
}
  where
    none : (owner key : ℕ) (e : Entry) → entry_at (empty_table n ns ks) owner key ≡ Some e → ⊥
    none owner key e found = nothing e (sym (entry_at-empty_table n ns ks owner key) ∙ found)

-- a table of a proper one's sizes is proper where what it holds is
module _ (t : Table) (generation : ℕ) (held : Held) (proper : IsProper t) where
  abbrev with_held : Table
  with_held = record t { generation = generation; held = held }

  proper-held : ((owner key : ℕ) (e : Entry) → entry_at with_held owner key ≡ Some e → IsInPlace t.nodes t.keys owner key e × (e.generation ≡ generation_held with_held owner)) → ((key : ℕ) (e : Entry) → entry_at with_held t.node key ≡ Some e → e.generation ≡ generation) → IsProper with_held
  proper-held each own = record {
    node_below = proper.node_below;
    nodes_limit = proper.nodes_limit;
    some_key = proper.some_key;
    keys_limit = proper.keys_limit;
    in_place = λ owner key e found. (each owner key e found).0;
    copies = λ owner key e found. (each owner key e found).1;
    own = own;
  }

pub proper-without_all : (t : Table) → IsProper t → IsProper (without_all t)
proper-without_all t proper = proper-held t (t.generation + 1) empty proper (λ owner key e found. absurd (none owner key e found)) (λ key e found. absurd (none t.node key e found))
  where
    none : (owner key : ℕ) (e : Entry) → entry_at (without_all t) owner key ≡ Some e → ⊥
    none owner key e found = nothing e (sym (entry_at-without_all t owner key) ∙ found)

-- an item of the copy's generation leaves the generation, and one of a newer has its own
generation-taken : (t : Table) (i : Item) → i.entry.key < t.keys → generation_held t i.owner ≤ i.entry.generation → generation_held (taken t i) i.owner ≡ i.entry.generation
generation-taken t i below le =
    ap (λ (m : Mark). m.generation) (greatest_mark-taken t i below)
    ∙ elim (cases_later (greatest_mark t i.owner) (mark_of i.entry)) [
      | inl second ↦ ap (λ (m : Mark). m.generation) second.0
      | inr kept ↦ ap (λ (m : Mark). m.generation) kept.0 ∙ omega (arith, le, kept.1.generation)
    ]

-- one of the node itself may be taken as well, where it is of the node's generation
pub proper-taking : (t : Table) (i : Item) → IsProper t → IsItemInPlace t.nodes t.keys i → (i.owner ≡ t.node → i.entry.generation ≡ t.generation) → IsProper (taken t i)
proper-taking t i proper placed of_node = record {
  node_below = omega (arith, proper.node_below, frame.node, frame.nodes);
  nodes_limit = omega (arith, proper.nodes_limit, frame.nodes);
  some_key = omega (arith, proper.some_key, frame.keys);
  keys_limit = omega (arith, proper.keys_limit, frame.keys);
  in_place = λ owner key e found. subst (λ n. IsInPlace n (taken t i).keys owner key e) (sym frame.nodes) (subst (λ k. IsInPlace t.nodes k owner key e) (sym frame.keys) (at_place owner key e found));
  copies = λ owner key e found. elim (cases_eq i.owner owner) [
    | inl own ↦ subst (λ o. e.generation ≡ generation_held (taken t i) o) own (alike key e (subst (λ o. entry_at (taken t i) o key ≡ Some e) (sym own) found))
    | inr other ↦
        proper.copies owner key e (sym (entry_at-taken_other t i owner key other) ∙ found)
        ∙ sym (ap (λ (m : Mark). m.generation) (greatest_mark-taken_other t i owner other))
  ];
  own = λ key e found. elim (entry_at-taken_from t i t.node key e (subst (λ o. entry_at (taken t i) o key ≡ Some e) frame.node found)) [
    | inl held ↦ proper.own key e held ∙ sym frame.generation
    | inr came ↦ sym (ap (λ (x : Entry). x.generation) came.2) ∙ of_node came.0 ∙ sym frame.generation
  ];
}
  where
    frame : KeepsFrame t (taken t i)
    frame = frame-taken t i

    at_place : (owner key : ℕ) (e : Entry) → entry_at (taken t i) owner key ≡ Some e → IsInPlace t.nodes t.keys owner key e
    at_place owner key e found = elim (entry_at-taken_from t i owner key e found) [
      | inl held ↦ proper.in_place owner key e held
      | inr came ↦ subst (λ o. IsInPlace t.nodes t.keys o key e) came.0 (subst (λ k. IsInPlace t.nodes t.keys i.owner k e) came.1 (subst (IsInPlace t.nodes t.keys i.owner i.entry.key) came.2 placed))
    ]

    as_item : generation_held t i.owner ≤ i.entry.generation → (e : Entry) → i.entry.generation ≡ e.generation → e.generation ≡ generation_held (taken t i) i.owner
    as_item le e same = omega (arith, generation-taken t i placed.key_below le, same)

    alike : (key : ℕ) (e : Entry) → entry_at (taken t i) i.owner key ≡ Some e → e.generation ≡ generation_held (taken t i) i.owner
    alike key e found = elim (cases_taken t i) [
      | inl older ↦ subst (λ (u : Table). entry_at u i.owner key ≡ Some e → e.generation ≡ generation_held u i.owner) (sym older.1) (proper.copies i.owner key e) found
      | inr (inl newer) ↦ elim (cases_eq i.entry.key key) [
        | inl here ↦ as_item (omega (arith, newer.0)) e (ap (λ (x : Entry). x.generation) (same_Some i.entry e (sym (subst (λ k. entry_at (taken t i) i.owner k ≡ Some i.entry) here (entry_at-taken_newer t i newer.0).0) ∙ found)))
        | inr apart ↦ absurd (nothing e (sym ((entry_at-taken_newer t i newer.0).1 key apart) ∙ found))
      ]
      | inr (inr same) ↦ elim (entry_at-taken_from t i i.owner key e found) [
        | inl held ↦ as_item (omega (arith, same.0)) e (omega (arith, same.0, proper.copies i.owner key e held))
        | inr came ↦ as_item (omega (arith, same.0)) e (ap (λ (x : Entry). x.generation) came.2)
      ]
    ]

pub proper-taken : (t : Table) (i : Item) → IsProper t → MayReceive t i → IsProper (taken t i)
proper-taken t i proper may = proper-taking t i proper may.1 (λ own. absurd (may.0 own))

pub proper-applied : (t : Table) (added : List Item) → IsProper t → All (MayReceive t) added → IsProper (applied t added)
proper-applied t [] proper may = proper
proper-applied t (i ∷ is) proper may =
    proper-applied (taken t i) is (proper-taken t i proper (All-head (MayReceive t) i is may))
    (subst (λ n. All (λ (x : Item). (x.owner ≢ n) × IsItemInPlace (taken t i).nodes (taken t i).keys x) is) (sym (frame-taken t i).node)
    (subst (λ n. All (λ (x : Item). (x.owner ≢ t.node) × IsItemInPlace n (taken t i).keys x) is) (sym (frame-taken t i).nodes)
    (subst (λ k. All (λ (x : Item). (x.owner ≢ t.node) × IsItemInPlace t.nodes k x) is) (sym (frame-taken t i).keys) (All-tail (MayReceive t) i is may))))

pub proper-with_own_write : (t : Table) (k v b : ℕ) → IsProper t → k < t.keys → IsProper (with_own_write t k v b)
proper-with_own_write t k v b proper below = proper-held t t.generation (insert t.held (t.node, k) (own_write t k v b)) proper (λ owner key e found. (in_place owner key e found, copies owner key e found)) in_own
  where
    written : IsInPlace t.nodes t.keys t.node k (own_write t k v b)
    written = record { owner_below = proper.node_below; key_below = below; keyed = refl; written = omega arith }

    from : (owner key : ℕ) (e : Entry) → entry_at (with_own_write t k v b) owner key ≡ Some e → (entry_at t owner key ≡ Some e) ⊎ ((owner ≡ t.node) × (key ≡ k) × (own_write t k v b ≡ e))
    from owner key e found = elim (cases_eq owner t.node) [
      | inr other ↦ inl (sym (entry_at-own_write_other t k v b owner key (inl other)) ∙ found)
      | inl own ↦ elim (cases_eq key k) [
        | inr other ↦ inl (sym (entry_at-own_write_other t k v b owner key (inr other)) ∙ found)
        | inl same ↦ inr (own, same, same_Some _ _ (sym (entry_at-own_write t k v b) ∙ subst (λ n. entry_at (with_own_write t k v b) n k ≡ Some e) own (subst (λ j. entry_at (with_own_write t k v b) owner j ≡ Some e) same found)))
      ]
    ]

    in_own : (key : ℕ) (e : Entry) → entry_at (with_own_write t k v b) t.node key ≡ Some e → e.generation ≡ t.generation
    in_own key e found = elim (from t.node key e found) [
      | inl held ↦ proper.own key e held
      | inr is ↦ sym (ap (λ (x : Entry). x.generation) is.2)
    ]

    in_place : (owner key : ℕ) (e : Entry) → entry_at (with_own_write t k v b) owner key ≡ Some e → IsInPlace t.nodes t.keys owner key e
    in_place owner key e found = elim (from owner key e found) [
      | inl held ↦ proper.in_place owner key e held
      | inr is ↦ subst (λ n. IsInPlace t.nodes t.keys n key e) (sym is.0) (subst (λ j. IsInPlace t.nodes t.keys t.node j e) (sym is.1) (subst (IsInPlace t.nodes t.keys t.node k) is.2 written))
    ]

    copies : (owner key : ℕ) (e : Entry) → entry_at (with_own_write t k v b) owner key ≡ Some e → e.generation ≡ generation_held (with_own_write t k v b) owner
    copies owner key e found = elim (cases_eq owner t.node) [
      | inl own ↦ subst (λ o. e.generation ≡ generation_held (with_own_write t k v b) o) (sym own)
          (in_own key e (subst (λ o. entry_at (with_own_write t k v b) o key ≡ Some e) own found) ∙ sym (ap (λ (m : Mark). m.generation) (greatest_mark-own_write t k v b proper below)))
      | inr other ↦
          proper.copies owner key e (sym (entry_at-own_write_other t k v b owner key (inl other)) ∙ found)
          ∙ sym (ap (λ (m : Mark). m.generation) (greatest_mark-own_write_other t k v b owner other))
    ]

pub proper-without_others : (t : Table) → IsProper t → IsProper (without_others t)
proper-without_others t proper = proper-held t t.generation (retain_keys t.held (λ place. place.0 == t.node)) proper
    (λ owner key e found. (proper.in_place owner key e (was owner key e found), copies owner key e found))
    (λ key e found. proper.own key e (was t.node key e found))
  where
    was : (owner key : ℕ) (e : Entry) → entry_at (without_others t) owner key ≡ Some e → entry_at t owner key ≡ Some e
    was owner key e found = elim (cases_eq owner t.node) [
      | inl own ↦ subst (λ o. entry_at t o key ≡ Some e) (sym own) (sym (entry_at-without_others_own t key) ∙ subst (λ o. entry_at (without_others t) o key ≡ Some e) own found)
      | inr other ↦ absurd (nothing e (sym (entry_at-without_others_other t owner key other) ∙ found))
    ]

    copies : (owner key : ℕ) (e : Entry) → entry_at (without_others t) owner key ≡ Some e → e.generation ≡ generation_held (without_others t) owner
    copies owner key e found = elim (cases_eq owner t.node) [
      | inl own ↦ proper.copies owner key e (was owner key e found) ∙ sym (ap (λ (m : Mark). m.generation) (subst (λ o. greatest_mark (without_others t) o ≡ greatest_mark t o) (sym own) (greatest_mark-without_others_own t)))
      | inr other ↦ absurd (nothing e (sym (entry_at-without_others_other t owner key other) ∙ found))
    ]
