-- Marks in a list of greatest versions: each owner of whom nothing is held is counted once, and its mark goes again.
-- Serves `Layout::blocks_for`, `flag_new` and `unflag`.
use Rattle.node_table.proofs.Common.{◌≡◌, ◌≢◌, ℕ, ◌+◌, ◌<◌, ◌≤◌, cond, List, [], ◌∷◌, length, get_or, set, drop, Some, ◌⊎◌, inl, inr, refl, sym, ap, ◌∙◌, arith, get_or-set_same, get_or-set_other, cases_lt, cases_eq, eq-eqb, drop_more, get_or_default, Entry, Item, mark_held, greatest_version, no_item, entry_in}
use Rattle.node_table.specs.declared.layouts.Row.{Row}
use Rattle.node_table.specs.declared.layouts.Layout.{Layout}
use Rattle.node_table.specs.Entries.{AreGreatest}
use Rattle.node_table.specs.NodeTableView.{blocks_below}
use Rattle.node_table.specs.inner.Layouts.{row_at, table_laid, IsRow, IsLayout}
use Rattle.node_table.specs.inner.Flags.{ComesWithin, AreFlagged, AreUnflagged}
use Rattle.node_table.proofs.Room.{blocks-upto, blocks-came_held, blocks-came_new}
use Rattle.node_table.proofs.Taking.{version-le-greatest}
use Rattle.node_table.proofs.Laid.{row_at-get_or, length-entries_in_row}
use Rattle.node_table.proofs.InLayout.{entry_at-in, some_held, is_row}

abbrev pub version_in : List ℕ → ℕ → ℕ
version_in versions owner = get_or versions owner 0

-- the marks once so many items were gone over
pub record AreSet (added : List Item) (before now : List ℕ) (blocks k : ℕ) : Type 0 where
  pub counted : blocks + blocks_below (version_in now) (drop k added) (length before) ≡ blocks_below (version_in before) added (length before)
  pub fits : blocks ≤ k
  pub none : blocks ≡ 0 → now ≡ before
  pub held : (owner : ℕ) → 0 < get_or before owner 0 → get_or now owner 0 ≡ get_or before owner 0
  pub new : (owner : ℕ) → get_or before owner 0 ≡ 0 → (get_or now owner 0 ≡ 0) ⊎ ComesWithin added 0 k owner

module _ (added : List Item) (before now : List ℕ) (blocks k : ℕ) (marks : AreSet added before now blocks k) (within : k < length added) (same : length now ≡ length before) where
  item : Item
  item = get_or added k no_item

  owner_is : (d : Item) → (get_or added k d).owner ≡ (get_or added k no_item).owner
  owner_is d = ap (λ (i : Item). i.owner) (get_or_default added k d no_item within)

  later : (owner : ℕ) → (get_or now owner 0 ≡ 0) ⊎ ComesWithin added 0 k owner → (get_or now owner 0 ≡ 0) ⊎ ComesWithin added 0 (k + 1) owner
  later owner (inl none) = inl none
  later owner (inr (j, from, to, is)) = inr (j, from, omega arith, is)

  -- an owner that is held, or no node, gets no mark
  pub set_none : (length before ≤ (get_or added k no_item).owner) ⊎ (get_or now (get_or added k no_item).owner 0 ≢ 0) → AreSet added before now blocks (k + 1)
  set_none which = record {
    counted = omega (arith, marks.counted, ap (λ is. blocks_below (version_in now) is (length before)) (drop_more added k no_item within), passed which);
    fits = omega (arith, marks.fits);
    none = marks.none;
    held = marks.held;
    new = λ owner is. later owner (marks.new owner is);
  }
    where
      passed : (length before ≤ (get_or added k no_item).owner) ⊎ (get_or now (get_or added k no_item).owner 0 ≢ 0) → blocks_below (version_in now) (drop (k + 1) added) (length before) ≡ blocks_below (version_in now) (get_or added k no_item ∷ drop (k + 1) added) (length before)
      passed (inl past) = blocks-upto (version_in now) (version_in now) (get_or added k no_item) (drop (k + 1) added) (λ owner other. refl) (length before) past
      passed (inr some) = blocks-came_held (version_in now) (version_in now) (get_or added k no_item) (drop (k + 1) added) (λ owner other. refl) some some (length before)

  -- another does
  pub set_one : (get_or added k no_item).owner < length before → get_or now (get_or added k no_item).owner 0 ≡ 0 → AreSet added before (set now (get_or added k no_item).owner 1) (blocks + 1) (k + 1)
  set_one lt is_new = record {
    counted = omega (arith, marks.counted, ap (λ is. blocks_below (version_in now) is (length before)) (drop_more added k no_item within), one);
    fits = omega (arith, marks.fits);
    none = λ none. absurd (omega arith);
    held = λ owner some. elim (cases_eq owner (get_or added k no_item).owner) [
      | inl own ↦ absurd (omega (arith, marks.held owner some, ap (λ o. get_or now o 0) own))
      | inr other ↦ get_or-set_other now (get_or added k no_item).owner owner 1 0 other ∙ marks.held owner some
    ];
    new = λ owner is. elim (cases_eq owner (get_or added k no_item).owner) [
      | inl own ↦ inr (k, omega arith, omega arith, λ d. owner_is d ∙ sym own)
      | inr other ↦ elim (later owner (marks.new owner is)) [
        | inl none ↦ inl (get_or-set_other now (get_or added k no_item).owner owner 1 0 other ∙ none)
        | inr comes ↦ inr comes
      ]
    ];
  }
    where
      marked : get_or (set now (get_or added k no_item).owner 1) (get_or added k no_item).owner 0 ≡ 1
      marked = get_or-set_same now (get_or added k no_item).owner 1 0 (omega (arith, same))

      one : blocks_below (version_in (set now (get_or added k no_item).owner 1)) (drop (k + 1) added) (length before) + 1 ≡ blocks_below (version_in now) (get_or added k no_item ∷ drop (k + 1) added) (length before)
      one = blocks-came_new (version_in now) (version_in (set now (get_or added k no_item).owner 1)) (get_or added k no_item) (drop (k + 1) added)
          (λ owner other. get_or-set_other now (get_or added k no_item).owner owner 1 0 other) (λ none. absurd (omega (arith, marked, none))) is_new (length before) lt

-- the marks that are left once so many items were gone over again
pub record AreLeft (rows : List Row) (added : List Item) (before now : List ℕ) (k : ℕ) : Type 0 where
  pub held : (owner : ℕ) (d : Row) → 0 < (get_or rows owner d).len → get_or now owner 0 ≡ get_or before owner 0
  pub new : (owner : ℕ) (d : Row) → owner < length before → (get_or rows owner d).len ≡ 0 → (get_or before owner 0 ≡ 0) ⊎ ComesWithin added 0 (length added) owner → (get_or now owner 0 ≡ 0) ⊎ ComesWithin added k (length added) owner

module _ (rows : List Row) (added : List Item) (before now : List ℕ) (k : ℕ) (left : AreLeft rows added before now k) (within : k < length added) (same : length now ≡ length before) (as_many : length rows ≡ length before) where
  -- an owner that has entries, or is no node, keeps its version
  pub left_kept : (d : Row) → (length rows ≤ (get_or added k no_item).owner) ⊎ (0 < (get_or rows (get_or added k no_item).owner d).len) → AreLeft rows added before now (k + 1)
  left_kept r which = record {
    held = left.held;
    new = λ owner d lt none is. elim (left.new owner d lt none is) [
      | inl zero_now ↦ inl zero_now
      | inr (j, from, to, own) ↦ elim (cases_eq j k) [
        | inr other ↦ inr (j, omega arith, to, own)
        | inl here ↦ absurd (contrary owner d lt none (ap (λ n. (get_or added n no_item).owner) (sym here) ∙ own no_item) which)
      ]
    ];
  }
    where
      contrary : (owner : ℕ) (d : Row) → owner < length before → (get_or rows owner d).len ≡ 0 → (get_or added k no_item).owner ≡ owner → (length rows ≤ (get_or added k no_item).owner) ⊎ (0 < (get_or rows (get_or added k no_item).owner r).len) → ⊥
      contrary owner d lt none own (inl past) = omega arith
      contrary owner d lt none own (inr some) = omega (arith, ap (λ o. (get_or rows o r).len) own, ap (λ (row : Row). row.len) (get_or_default rows owner r d (omega arith)))

  -- another gets 0
  pub left_cleared : (d : Row) → (get_or added k no_item).owner < length rows → (get_or rows (get_or added k no_item).owner d).len ≡ 0 → AreLeft rows added before (set now (get_or added k no_item).owner 0) (k + 1)
  left_cleared r below empty = record {
    held = λ owner d some. elim (cases_eq owner (get_or added k no_item).owner) [
      | inl own ↦ absurd (omega (arith, ap (λ o. (get_or rows o d).len) own, ap (λ (row : Row). row.len) (get_or_default rows (get_or added k no_item).owner r d below)))
      | inr other ↦ get_or-set_other now (get_or added k no_item).owner owner 0 0 other ∙ left.held owner d some
    ];
    new = λ owner d lt none is. elim (cases_eq owner (get_or added k no_item).owner) [
      | inl own ↦ inl (ap (get_or (set now (get_or added k no_item).owner 0) owner) refl ∙ ap (λ o. get_or (set now (get_or added k no_item).owner 0) o 0) own ∙ get_or-set_same now (get_or added k no_item).owner 0 0 (omega arith))
      | inr other ↦ elim (left.new owner d lt none is) [
        | inl zero_now ↦ inl (get_or-set_other now (get_or added k no_item).owner owner 0 0 other ∙ zero_now)
        | inr (j, from, to, own) ↦ elim (cases_eq j k) [
          | inr later ↦ inr (j, omega arith, to, own)
          | inl here ↦ absurd (other (sym (ap (λ n. (get_or added n no_item).owner) (sym here) ∙ own no_item)))
        ]
      ]
    ];
  }

-- an owner with entries has a version
version_from_entry : (keys : ℕ) (row : List Entry) → IsRow keys row → 0 < length row → (e : Entry) × (entry_in row e.key ≡ Some e) × (e.key < keys) × (1 ≤ e.version)
version_from_entry keys [] is_row some = absurd (omega arith)
version_from_entry keys (e ∷ es) is_row some = (e, ap (λ b. cond b (Some e) (entry_in es e.key)) (eq-eqb e.key e.key refl), is_row.keys_below 0 e (omega arith), is_row.written 0 e (omega arith))

module _ (l : Layout) (sound : IsLayout l) where
  held_from_row : (owner : ℕ) → owner < l.nodes → 0 < length (row_at l.slots.items l.rows.items owner) → 0 < greatest_version (table_laid l) owner
  held_from_row owner below some =
      let first = version_from_entry l.keys (row_at l.slots.items l.rows.items owner) (is_row l sound owner below) some in
      omega (arith, version-le-greatest (table_laid l) owner first.0.key sound.proper first.2, ap (λ h. (mark_held h).version) (entry_at-in l owner first.0.key ∙ first.1), first.3)

  -- once the marks are gone the list is what it was
  pub greatest_again : (added : List Item) (marked after : List ℕ) → AreFlagged added l.greatest.items marked → AreUnflagged l.rows.items added marked after → length marked ≡ length l.greatest.items → length after ≡ length marked → AreGreatest (table_laid l) after
  greatest_again added marked after are_flagged are_unflagged len len' = record {
    count = len' ∙ len ∙ sound.greatest.count;
    greatest = again;
  }
    where
      no_row : Row
      no_row = record { start = 0; len = 0 }

      again : (owner : ℕ) → owner < l.nodes → get_or after owner 0 ≡ greatest_version (table_laid l) owner
      again owner below =
          let lt : owner < length l.rows.items = omega (arith, sound.laid.as_many) in
          let row_len : length (row_at l.slots.items l.rows.items owner) ≡ (get_or l.rows.items owner no_row).len = ap length (row_at-get_or l.slots.items l.rows.items owner no_row lt) ∙ length-entries_in_row l.keys l.slots.items (get_or l.rows.items owner no_row) (sound.laid.each owner no_row lt) in
          let was = sound.greatest.greatest owner below in
          elim (cases_lt 0 (get_or l.rows.items owner no_row).len) [
            | inl some ↦
                let held = held_from_row owner below (omega (arith, row_len)) in
                are_unflagged.held owner no_row some ∙ are_flagged.held owner (omega (arith, was, held)) ∙ was
            | inr none ↦
                let nothing : greatest_version (table_laid l) owner ≡ 0 = elim (cases_lt 0 (greatest_version (table_laid l) owner)) [
                  | inl held ↦ absurd (omega (arith, some_held l owner held, row_len))
                  | inr not_held ↦ omega arith
                ] in
                are_unflagged.new owner no_row (omega (arith, len, sound.greatest.count)) (omega arith) (are_flagged.new owner (was ∙ nothing)) ∙ sym nothing
          ]
