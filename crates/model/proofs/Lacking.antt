-- The candidates in plain words: what a receiver lacks by what it holds.
-- Serves `candidates_are_lacked` and `version_tables`.
use Rattle.model.proofs.Common.{◌≡◌, ◌≢◌, ◌↔◌, ◌≤◌, Bool, not, ◌&&◌, eqb, Some, None, sym, ap, ◌∙◌, arith, refl, eq-eqb, ne_eqb, and_parts, and_from, both_ways, not-true, Item, Mode, DigestKind, Scuttle, Precise, mark_of, mark_held, is_before, IsBefore, digest_kind, before-true, before-yes}
use Rattle.std.specs.Prelude.{Contains}
use Rattle.model.specs.Table.{Table, entry_at, mark_at, generation_held, items_of, IsProper}
use Rattle.model.proofs.Items.{entry_at-items_of}
use Rattle.model.specs.Candidates.{known_mark, candidates}
use Rattle.model.specs.calls.DeltaLaws.{Lacks}
use Rattle.model.proofs.Members.{Contains-filter, Contains-kept}

-- above a place's version in the copy's generation is above its mark, and of no older generation than the copy
above_held : (to : Table) (i : Item) → IsProper to → 1 ≤ i.entry.version → IsBefore (known_mark Precise to i) (mark_of i.entry) ↔ ((generation_held to i.owner ≤ i.entry.generation) × IsBefore (mark_at to i.owner i.entry.key) (mark_of i.entry))
above_held to i proper written = elim (entry_at to i.owner i.entry.key) as (λ h. entry_at to i.owner i.entry.key ≡ h → IsBefore (record { generation = generation_held to i.owner; version = (mark_held h).version }) (mark_of i.entry) ↔ ((generation_held to i.owner ≤ i.entry.generation) × IsBefore (mark_held h) (mark_of i.entry))) [
  | None ↦ λ _. (
    (λ above. (above.generation, record { generation = omega arith; version = λ _. written })),
    (λ above. record { generation = above.0; version = λ _. written }),
  )
  | Some e ↦ λ held.
      let alike = proper.copies i.owner i.entry.key e held in (
        (λ above. (above.generation, record { generation = omega (arith, above.generation, alike); version = λ same. above.version (sym alike ∙ same) })),
        (λ above. record { generation = above.0; version = λ same. above.1.version (alike ∙ same) }),
      )
] refl

lacks-known : (kind : DigestKind) (to : Table) (i : Item) → IsProper to → 1 ≤ i.entry.version → ((i.owner ≢ to.node) × IsBefore (known_mark kind to i) (mark_of i.entry)) ↔ Lacks kind to i
lacks-known Scuttle to i proper written = ((λ is. is), (λ is. is))
lacks-known Precise to i proper written =
    let both = above_held to i proper written in
    ((λ is. (is.0, (both.0 is.1).0, (both.0 is.1).1)), (λ is. (is.0, both.1 (is.1, is.2))))

module _ (mode : Mode) (from to : Table) (i : Item) (proper_from : IsProper from) (proper_to : IsProper to) where
  abbrev unknown : Item → Bool
  unknown j = not (eqb j.owner to.node) && is_before (known_mark (digest_kind mode) to j) (mark_of j.entry)

  both : Contains (items_of from) i → ((i.owner ≢ to.node) × IsBefore (known_mark (digest_kind mode) to i) (mark_of i.entry)) ↔ Lacks (digest_kind mode) to i
  both there = lacks-known (digest_kind mode) to i proper_to (proper_from.in_place i.owner i.entry.key i.entry (entry_at-items_of from i proper_from there)).written

  pub candidates-lacked : Contains (candidates mode from to) i ↔ (Contains (items_of from) i × Lacks (digest_kind mode) to i)
  candidates-lacked = (
    (λ there.
        let kept = Contains-kept unknown (items_of from) i there in
        let parts = and_parts (not (eqb i.owner to.node)) (is_before (known_mark (digest_kind mode) to i) (mark_of i.entry)) kept.1 in
        let other : i.owner ≢ to.node = λ e. absurd (both_ways (eqb i.owner to.node) (not-true _ parts.0) (eq-eqb i.owner to.node e)) in
        (kept.0, (both kept.0).0 (other, before-true (known_mark (digest_kind mode) to i) (mark_of i.entry) parts.1))),
    (λ is.
        let parts = (both is.0).1 is.1 in
        Contains-filter unknown (items_of from) i is.0
        (and_from (not (eqb i.owner to.node)) (is_before (known_mark (digest_kind mode) to i) (mark_of i.entry)) (ap not (ne_eqb i.owner to.node parts.0)) (before-yes (known_mark (digest_kind mode) to i) (mark_of i.entry) parts.1))),
  )
