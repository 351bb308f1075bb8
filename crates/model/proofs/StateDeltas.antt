-- Deltas that cut nothing: each has as many entries as there are candidates, and to a copy that is a state of its owner
-- these are the same in every mode.
-- Serves `delta_plans` and `run_laws`.
use Rattle.model.proofs.Common.{◌≡◌, ℕ, suc, ◌<◌, Bool, true, false, cond, not, ◌&&◌, eqb, List, [], ◌∷◌, length, get_or, Some, None, refl, sym, ap, ◌∙◌, subst, inl, inr, arith, filter, IsTotalOrder, is_eq, Ordering, and_parts, eqb-true, get_or_default, AllPairs-filter, length_permutation, same_Some, Entry, Item, Mark, Budget, DigestKind, Scuttle, Precise, Mode, mark_of, mark_held, is_before, IsBefore, IsUpTo, digest_kind, before-true, before-yes, cases_before, not_both}
use Rattle.std.specs.Prelude.{Contains}
use Rattle.model.specs.Table.{Table, entry_at, mark_at, greatest_mark, generation_held, items_of, IsProper}
use Rattle.model.specs.Candidates.{known_mark, candidates}
use Rattle.model.specs.Copies.{HoldsOf}
use Rattle.model.specs.Deltas.{delta_between}
use Rattle.model.specs.Order.{sending_order}
use Rattle.model.specs.Picks.{before_count, first_places}
use Rattle.model.specs.States.{MissesNone}
use Rattle.model.specs.inner.Applied.{stands_at}
use Rattle.model.proofs.DeltaLaws.{sending_order-total, sent-candidate, sent-uncut}
use Rattle.model.proofs.Greatest.{mark_at-up_to_greatest}
use Rattle.model.proofs.Items.{IsApart, entry_at-items_of, apart-items_of}
use Rattle.model.proofs.Members.{Contains-kept, same_members}
use Rattle.model.proofs.Places.{before_count-places, Contains-first_places}
use Rattle.model.proofs.TableLaws.{tied-stands_at}

-- what is sent of a table's items stands at different places
pub sent_apart : (order : Item → Item → Ordering) (total : IsTotalOrder order) (t : Table) (proper : IsProper t) (cs : List Item) (of_table : (c : Item) → Contains cs c → Contains (items_of t) c) (n : ℕ) → IsApart (first_places order cs n)
sent_apart order total t proper cs of_table n j k d lt in_range = elim (stands_at x.owner x.entry.key y) as (λ b. stands_at x.owner x.entry.key y ≡ b → b ≡ false) [
  | true ↦ λ e.
      let parts = and_parts (eqb y.owner x.owner) (eqb y.entry.key x.entry.key) e in
      let owners = eqb-true y.owner x.owner parts.0 in
      let keys = eqb-true y.entry.key x.entry.key parts.1 in
      let entries : Some y.entry ≡ Some x.entry =
      sym (entry_at-items_of t y proper (of_table y in_y)) ∙ (λ i. entry_at t (owners i) (keys i)) ∙ entry_at-items_of t x proper (of_table x in_x) in
      let same : y ≡ x = λ i. record { owner = owners i; entry = same_Some y.entry x.entry entries i } in
      absurd (omega (arith, before_count-places order total cs n j k d lt in_range, ap (before_count order cs) same))
  | false ↦ λ e. refl
] refl
  where
    x : Item
    x = get_or (first_places order cs n) j d

    y : Item
    y = get_or (first_places order cs n) k d

    in_x : Contains cs x
    in_x = (Contains-first_places order total cs n x (j, omega (arith, lt, in_range), get_or_default (first_places order cs n) j x d (omega (arith, lt, in_range)))).0

    in_y : Contains cs y
    in_y = (Contains-first_places order total cs n y (k, in_range, get_or_default (first_places order cs n) k y d in_range)).0

module _ (mode : Mode) (rotation : ℕ) (budget : Budget) (from to : Table) (proper : IsProper from) (in_nodes : rotation < from.nodes) (none : (delta_between mode rotation budget from to).cut ≡ 0) where
  abbrev cs : List Item
  cs = candidates mode from to

  abbrev unknown : Item → Bool
  unknown x = not (eqb x.owner to.node) && is_before (known_mark (digest_kind mode) to x) (mark_of x.entry)

  abbrev is_apart : Item → Item → Type 0
  is_apart i j = stands_at i.owner i.entry.key j ≡ false

  table_apart : IsApart (items_of from)
  table_apart i j d lt in_range =
      sym (tied-stands_at (get_or (items_of from) i d).owner (get_or (items_of from) i d).entry.key (get_or (items_of from) j d)) ∙ ap is_eq (apart-items_of from proper i j d lt in_range)

  -- as many are sent as there are candidates
  pub length-uncut : length (delta_between mode rotation budget from to).items ≡ length cs
  length-uncut =
      sym (length_permutation (delta_between mode rotation budget from to).items cs
      (same_members (delta_between mode rotation budget from to).items cs
      (sent_apart (sending_order mode from.nodes rotation cs) (sending_order-total mode from.nodes rotation cs) from proper cs (λ c there. (Contains-kept unknown (items_of from) c there).0) _)
      (AllPairs-filter is_apart unknown (items_of from) table_apart)
      (sent-candidate mode from to rotation budget)
      (sent-uncut mode from to rotation budget proper in_nodes none)))

-- two tests that agree on what a list has keep the same of it
filter-alike : {X : Type 0} (p q : X → Bool) (xs : List X) → ((x : X) → Contains xs x → p x ≡ q x) → filter p xs ≡ filter q xs
filter-alike p q [] same = refl
filter-alike p q (x ∷ xs) same =
    λ i. cond (same x (0, omega arith, refl) i) (x ∷ filter-alike p q xs (λ y (k, lt, is). same y (suc k, omega arith, is)) i) (filter-alike p q xs (λ y (k, lt, is). same y (suc k, omega arith, is)) i)

-- two answers of which each is yes where the other is are one
same_answer : (a b : Bool) → (a ≡ true → b ≡ true) → (b ≡ true → a ≡ true) → a ≡ b
same_answer true b to from = sym (to refl)
same_answer false true to from = from refl
same_answer false false to from = refl

-- what a receiver lacks of owners whose copies are states is the same by both kinds of digest
module _ (from to : Table) (from_proper : IsProper from) (to_proper : IsProper to) (writes : ℕ → List Entry) (written : (owner : ℕ) → HoldsOf owner (writes owner) from) (same_keys : from.keys ≡ to.keys) (misses : (owner : ℕ) → owner < from.nodes → MissesNone owner (writes owner) to) where
  module _ (i : Item) (stands : Contains (items_of from) i) where
    held : entry_at from i.owner i.entry.key ≡ Some i.entry
    held = entry_at-items_of from i from_proper stands

    place : Rattle.model.specs.Table.IsInPlace from.nodes from.keys i.owner i.entry.key i.entry
    place = from_proper.in_place i.owner i.entry.key i.entry held

    abbrev by : DigestKind → Mark
    by kind = known_mark kind to i

    -- the mark of a key has the version that a precise digest tells, in the generation that it tells
    key_up_to : IsUpTo (mark_at to i.owner i.entry.key) (by Precise)
    key_up_to = elim (entry_at to i.owner i.entry.key) as (λ o. entry_at to i.owner i.entry.key ≡ o → IsUpTo (mark_held o) (record { generation = generation_held to i.owner; version = (mark_held o).version })) [
      | None ↦ λ _. record { generation = omega arith; version = λ _. omega arith }
      | Some d ↦ λ found. record { generation = omega (arith, to_proper.copies i.owner i.entry.key d found); version = λ _. omega arith }
    ] refl

    scuttle-precise : IsBefore (by Scuttle) (mark_of i.entry) → IsBefore (by Precise) (mark_of i.entry)
    scuttle-precise above = record {
      generation = above.generation;
      version = λ same. elim (entry_at to i.owner i.entry.key) as (λ o. entry_at to i.owner i.entry.key ≡ o → (mark_held o).version < i.entry.version) [
        | None ↦ λ _. omega (arith, place.written)
        | Some d ↦ λ found.
            let known = subst (λ o. IsUpTo (mark_held o) (greatest_mark to i.owner)) found (mark_at-up_to_greatest to i.owner i.entry.key (omega (arith, place.key_below, same_keys))) in
            omega (arith, known.version (to_proper.copies i.owner i.entry.key d found), above.version same)
      ] refl;
    }

    precise-scuttle : IsBefore (by Precise) (mark_of i.entry) → IsBefore (by Scuttle) (mark_of i.entry)
    precise-scuttle above = elim (cases_before (by Scuttle) (mark_of i.entry)) [
      | inl is ↦ is.1
      | inr known ↦
          let same : i.entry.generation ≡ generation_held to i.owner = omega (arith, above.generation, known.1.generation) in
          let has = misses i.owner place.owner_below i.entry (written i.owner i.entry.key i.entry held).0 same known.1 in
          absurd (not_both (by Precise) (mark_of i.entry) above (Rattle.bench_types.proofs.Marks.up_to-then (mark_of i.entry) (mark_at to i.owner i.entry.key) (by Precise) has key_up_to))
    ]

    scuttle_same : is_before (by Scuttle) (mark_of i.entry) ≡ is_before (by Precise) (mark_of i.entry)
    scuttle_same = same_answer (is_before (by Scuttle) (mark_of i.entry)) (is_before (by Precise) (mark_of i.entry))
        (λ is. before-yes (by Precise) (mark_of i.entry) (scuttle-precise (before-true (by Scuttle) (mark_of i.entry) is)))
        (λ is. before-yes (by Scuttle) (mark_of i.entry) (precise-scuttle (before-true (by Precise) (mark_of i.entry) is)))

    same_test : (kind kind' : DigestKind) → is_before (by kind) (mark_of i.entry) ≡ is_before (by kind') (mark_of i.entry)
    same_test Scuttle Scuttle = refl
    same_test Scuttle Precise = scuttle_same
    same_test Precise Scuttle = sym scuttle_same
    same_test Precise Precise = refl

  pub candidates-alike : (mode mode' : Mode) → candidates mode from to ≡ candidates mode' from to
  candidates-alike mode mode' =
      filter-alike (λ (x : Item). not (eqb x.owner to.node) && is_before (known_mark (digest_kind mode) to x) (mark_of x.entry)) (λ (x : Item). not (eqb x.owner to.node) && is_before (known_mark (digest_kind mode') to x) (mark_of x.entry)) (items_of from)
      (λ x stands. ap (λ b. not (eqb x.owner to.node) && b) (same_test x stands (digest_kind mode) (digest_kind mode')))

-- so where both cut nothing as much is sent
module _ (from to : Table) (from_proper : IsProper from) (to_proper : IsProper to) (writes : ℕ → List Entry) (written : (owner : ℕ) → HoldsOf owner (writes owner) from) (same_keys : from.keys ≡ to.keys) (misses : (owner : ℕ) → owner < from.nodes → MissesNone owner (writes owner) to) (rotation : ℕ) (in_nodes : rotation < from.nodes) where
  pub lengths-alike : (mode mode' : Mode) (budget budget' : Budget) → (delta_between mode rotation budget from to).cut ≡ 0 → (delta_between mode' rotation budget' from to).cut ≡ 0 → length (delta_between mode rotation budget from to).items ≡ length (delta_between mode' rotation budget' from to).items
  lengths-alike mode mode' budget budget' none none' =
      length-uncut mode rotation budget from to from_proper in_nodes none
      ∙ ap length (candidates-alike from to from_proper to_proper writes written same_keys misses mode mode')
      ∙ sym (length-uncut mode' rotation budget' from to from_proper in_nodes none')
