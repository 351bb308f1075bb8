-- A copy that has all of its owner's own part: what one exchange makes of it, and what leaves it.
-- Serves `Healing`, `Paths`, `Rings` and `Spreads`.
use Rattle.run_laws.proofs.Common.{◌≡◌, ℕ, ◌<◌, ◌≤◌, List, Some, None, ◌⊎◌, inl, inr, refl, sym, ap, ◌∙◌, subst, arith, Entry, Mark, mark_of, mark_held, IsBefore, IsUpTo, before-up_to, not_both, up_to-itself}
use Rattle.std.specs.Prelude.{Contains}
use Rattle.model.specs.Table.{Table, entry_at, mark_at, greatest_mark, generation_held, IsProper}
use Rattle.model.specs.Tables.{table_of_node}
use Rattle.model.specs.Clusters.{AreCopiesOf}
use Rattle.model.specs.Copies.{WritesBy, IsLastOf}
use Rattle.model.specs.ExchangeLaws.{NoMarkFalls}
use Rattle.model.proofs.BeginLaws.{copy-up_to}
use Rattle.model.proofs.Greatest.{greatest_mark-from, mark_at-up_to_greatest}
use Rattle.model.specs.Fresh.{HasOwnPart, IsFresh}

-- a table holds each entry of what the owner holds of itself
abbrev pub HasAllOf : ℕ → Table → Table → Type 0
HasAllOf owner holder own = (key : ℕ) (e : Entry) → entry_at own owner key ≡ Some e → entry_at holder owner key ≡ Some e

-- the copies of one node of one owner, of whom all writes are known
module _ (writes : WritesBy) (nodes keys : ℕ) (ts : List Table) (copies : AreCopiesOf writes nodes keys ts) (holder owner : ℕ) (in_nodes : holder < nodes) (owner_in : owner < nodes) where
  abbrev copy : Table
  copy = table_of_node ts holder

  abbrev own : Table
  own = table_of_node ts owner

  copy_proper : IsProper copy
  copy_proper = copies.proper holder (omega (arith, in_nodes, copies.tables.size))

  own_proper : IsProper own
  own_proper = copies.proper owner (omega (arith, owner_in, copies.tables.size))

  own_node : own.node ≡ owner
  own_node = (copies.tables.tables owner owner_in).node

  last : IsLastOf own.generation (writes owner) (λ key. entry_at own owner key)
  last = copies.last owner owner_in

  pub no_newer : generation_held copy owner ≤ own.generation
  no_newer = (copy-up_to writes nodes keys ts copies holder owner in_nodes owner_in).generation

  pub own_generation : (key : ℕ) (e : Entry) → entry_at own owner key ≡ Some e → e.generation ≡ own.generation
  own_generation key e held = (last.written key e held).2

  own_version : (key : ℕ) (e : Entry) → entry_at own owner key ≡ Some e → 1 ≤ e.version
  own_version key e held = (own_proper.in_place owner key e held).written

  -- what is held is the owner's, or of an older generation, or below what the owner holds
  held_before : (key : ℕ) (d : Entry) → entry_at copy owner key ≡ Some d → (d.generation < own.generation) ⊎ (entry_at own owner key ≡ Some d) ⊎ IsBefore (mark_of d) (mark_held (entry_at own owner key))
  held_before key d held =
      let is = copies.holds holder in_nodes owner key d held in
      elim (last.last d is.0) [
        | inl forgotten ↦ inl forgotten
        | inr (inl current) ↦ inr (inl (subst (λ k. entry_at own owner k ≡ Some d) is.1 current))
        | inr (inr older) ↦ inr (inr (subst (λ k. IsBefore (mark_of d) (mark_held (entry_at own owner k))) is.1 older))
      ]

  -- where the mark isn't below the owner's the entry is the owner's
  pub caught_up : (key : ℕ) (e : Entry) → entry_at own owner key ≡ Some e → IsUpTo (mark_of e) (mark_at copy owner key) → entry_at copy owner key ≡ Some e
  caught_up key e current up = elim (entry_at copy owner key) as (λ o. entry_at copy owner key ≡ o → IsUpTo (mark_of e) (mark_held o) → o ≡ Some e) [
    | None ↦ λ _ none. absurd (omega (arith, none.version (omega (arith, none.generation)), own_version key e current))
    | Some d ↦ λ found no_older. elim (held_before key d found) [
      | inl forgotten ↦ absurd (omega (arith, forgotten, no_older.generation, own_generation key e current))
      | inr (inl same) ↦ sym same ∙ current
      | inr (inr older) ↦ absurd (not_both (mark_of d) (mark_of e) (subst (λ h. IsBefore (mark_of d) (mark_held h)) current older) no_older)
    ]
  ] refl up

  module _ (all : HasAllOf owner copy own) where
    -- with one entry of the owner's own part the copy is of its generation
    copy_generation : HasOwnPart own → generation_held copy owner ≡ own.generation
    copy_generation written = elim (greatest_mark-from own owner) [
      | inl none ↦ absurd (omega (arith, written, ap (λ n. (greatest_mark own n).version) own_node, ap (λ (m : Mark). m.version) none))
      | inr (key, lt, is) ↦ elim (entry_at own owner key) as (λ o. entry_at own owner key ≡ o → mark_held o ≡ greatest_mark own owner → generation_held copy owner ≡ own.generation) [
        | None ↦ λ _ at. absurd (omega (arith, written, ap (λ n. (greatest_mark own n).version) own_node, ap (λ (m : Mark). m.version) at))
        | Some e ↦ λ held _. sym (copy_proper.copies owner key e (all key e held)) ∙ own_generation key e held
      ] refl is
    ]

    nothing_else : HasOwnPart own → (key : ℕ) → entry_at own owner key ≡ None → entry_at copy owner key ≡ None
    nothing_else written key none = elim (entry_at copy owner key) as (λ o. entry_at copy owner key ≡ o → o ≡ None) [
      | None ↦ λ _. refl
      | Some d ↦ λ found.
          let alike = copy_proper.copies owner key d found in
          elim (held_before key d found) [
            | inl forgotten ↦ absurd (omega (arith, forgotten, alike, copy_generation written))
            | inr (inl same) ↦ sym same ∙ none
            | inr (inr older) ↦
                let below = subst (λ h. IsBefore (mark_of d) (mark_held h)) none older in
                absurd (omega (arith, below.generation, below.version (omega (arith, below.generation))))
          ]
    ] refl

    same_part : HasOwnPart own → (key : ℕ) → entry_at copy owner key ≡ entry_at own owner key
    same_part written key = elim (entry_at own owner key) as (λ o. entry_at own owner key ≡ o → entry_at copy owner key ≡ o) [
      | None ↦ λ none. nothing_else written key none
      | Some e ↦ λ held. all key e held
    ] refl

    pub fresh_from : IsFresh copy own
    fresh_from written key = subst (λ n. entry_at copy n key ≡ entry_at own n key) (sym own_node) (same_part written key)

    -- and no entry of it is of an older one
    pub of_generation : HasOwnPart own → (key : ℕ) (d : Entry) → entry_at copy owner key ≡ Some d → d.generation ≡ own.generation
    of_generation written key d found = copy_proper.copies owner key d found ∙ copy_generation written

    -- then no write of the owner's generation is above what is held
    pub not_behind : (e : Entry) → Contains (writes owner) e → e.generation ≡ own.generation → IsUpTo (mark_of e) (mark_at copy owner e.key)
    not_behind e there alike = elim (last.last e there) [
      | inl forgotten ↦ absurd (omega (arith, forgotten, alike))
      | inr (inl current) ↦ subst (λ h. IsUpTo (mark_of e) (mark_held h)) (sym (all e.key e current)) (up_to-itself (mark_of e))
      | inr (inr older) ↦ elim (entry_at own owner e.key) as (λ o. entry_at own owner e.key ≡ o → IsBefore (mark_of e) (mark_held o) → IsUpTo (mark_of e) (mark_at copy owner e.key)) [
        | None ↦ λ _ below. absurd (omega (arith, below.generation, below.version (omega (arith, below.generation))))
        | Some f ↦ λ held below. subst (λ h. IsUpTo (mark_of e) (mark_held h)) (sym (all e.key f held)) (before-up_to (mark_of e) (mark_of f) below)
      ] refl older
    ]

  pub has_all : IsFresh copy own → HasAllOf owner copy own
  has_all fresh key e held =
      let place = own_proper.in_place owner key e held in
      let known = subst (λ h. IsUpTo (mark_held h) (greatest_mark own owner)) held (mark_at-up_to_greatest own owner key (omega (arith, place.key_below))) in
      let alike = own_proper.copies owner key e held in
      let written : 1 ≤ (greatest_mark own owner).version = omega (arith, place.written, known.version alike) in
      subst (λ n. entry_at copy n key ≡ entry_at own n key) own_node (fresh (subst (λ n. 1 ≤ (greatest_mark own n).version) (sym own_node) written) key) ∙ held

-- it stays so where the owner writes nothing and no mark of the copy falls
pub all_stays : (writes : WritesBy) (nodes keys : ℕ) (old new : List Table) → AreCopiesOf writes nodes keys new → (holder owner : ℕ) → holder < nodes → owner < nodes → IsProper (table_of_node old holder) → HasAllOf owner (table_of_node old owner) (table_of_node new owner) → NoMarkFalls (table_of_node old holder) (table_of_node new holder) → HasAllOf owner (table_of_node old holder) (table_of_node old owner) → HasAllOf owner (table_of_node new holder) (table_of_node new owner)
all_stays writes nodes keys old new copies holder owner in_nodes owner_in proper same rises all key e current =
    let before = table_of_node old holder in
    let after = table_of_node new holder in
    let held = all key e (same key e current) in
    let alike : e.generation ≡ generation_held before owner = proper.copies owner key e held in
    let limit = no_newer writes nodes keys new copies holder owner in_nodes owner_in in
    let generation = own_generation writes nodes keys new copies holder owner in_nodes owner_in key e current in
    let stays : generation_held after owner ≡ generation_held before owner = omega (arith, alike, limit, generation, (rises.greatest owner).generation) in
    caught_up writes nodes keys new copies holder owner in_nodes owner_in key e current (subst (λ h. IsUpTo (mark_held h) (mark_at after owner key)) held (rises.within owner key stays))
