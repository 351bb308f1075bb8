-- How many owners and entries a table of versions holds.
-- Serves `VersionTable::digest_size` and `delta`.
use Rattle.version_tables.proofs.Common.{nat_tests, ◌≡◌, ℕ, zero, suc, ◌+◌, ◌<◌, ◌≤◌, Bool, cond, nat_lt, List, length, map, map-id, Some, inl, inr, refl, sym, ap, ◌∙◌, arith, count_by, slice_index, entries, len-entries, range_with_len, cases_lt, lt-ltb, length-map, sum_by-map-range_with_len_more, Entry, Item, Mark, Scuttle, Precise, Table, entry_at, items_of, item_of, greatest_version, greatest_mark-none, mark_at-up_to_greatest, write_numbered, cell, sum_below, sum_below-same, count_held, total-places, digest_size, sum_by-ones, number_here, items_sum, numbered-some, VersionTableView, table_in, IsKept}
use Rattle.version_tables.proofs.Laid.{has_cells}

count-range : (p : ℕ → Bool) (n : ℕ) → count_by p (map (λ i. i) (range_with_len 0 n)) ≡ sum_below n (λ i. cond (p i) 1 0)
count-range p zero = refl
count-range p (suc n) =
    ap {B = ℕ} (λ m. count_by p (map (λ i. i) (range_with_len 0 m))) {x = suc n} {y = n + 1} (omega arith)
    ∙ sum_by-map-range_with_len_more (λ i. cond (p i) 1 0) (λ i. i) 0 n n (omega arith) ∙ ap (λ m. m + cond (p n) 1 0) (count-range p n)

one-here : (writes : List Entry) (owner n : ℕ) → n ≤ length writes → number_here (λ _. 1) owner (write_numbered writes n) ≡ cond (nat_lt 0 n) 1 0
one-here writes owner zero le = refl
one-here writes owner (suc place) le =
    ap (number_here (λ _. 1) owner) (numbered-some writes (suc place) (omega arith) le).1 ∙ sym (rw (lt-ltb 0 (suc place) (omega arith)))

module _ {written : ℕ → List Entry} {v : VersionTableView} (kept : IsKept written v) where
  abbrev t : Table
  t = table_in written v

  abbrev number : ℕ → ℕ → ℕ
  number = cell v.cells v.nodes

  has : (owner key : ℕ) → owner < v.nodes → key < v.keys → entry_at t owner key ≡ write_numbered (written owner) (number owner key)
  has = has_cells written v kept.numbers

  -- entries held
  pub cells-size : {N : Type 0} (number : N → ℕ) (xs : List N) → map number xs ≡ v.cells → count_held number xs ≡ digest_size Precise t
  cells-size number xs is =
      (λ i. sum_below ((sym (length-map xs number) ∙ ap length is ∙ kept.numbers.size) i) (λ r. cond (nat_lt 0 (slice_index (is i) r)) 1 0))
      ∙ total-places v.nodes v.keys (λ i. nat_lt 0 (slice_index v.cells i))
      ∙ sym (sum_below-same v.nodes _ _ (λ owner in_nodes. sum_below-same v.keys _ _ (λ key in_keys.
      ap (number_here (λ _. 1) owner) (has owner key in_nodes in_keys)
      ∙ one-here (written owner) owner (cell v.cells v.nodes owner key) (kept.numbers.each owner key in_nodes in_keys).written)))
      ∙ sym (items_sum t kept.proper (λ _. 1)) ∙ sum_by-ones (λ (_ : Item). 1) (λ _. refl) (items_of t)
      ∙ length-map (entries t.held) item_of ∙ sym (len-entries t.held)

  -- owners of whom something is held
  owner_here : (r : ℕ) → r < v.nodes → nat_lt 0 (slice_index v.greatest r) ≡ nat_lt 0 (greatest_version t r)
  owner_here r in_nodes =
      let most = kept.most.each r in_nodes in elim (cases_lt 0 (slice_index v.greatest r)) [
        | inr not_some ↦
            let nothing = greatest_mark-none t r (λ key lt.
            has r key in_nodes lt ∙ ap (write_numbered (written r)) {x = number r key} {y = 0} (omega (arith, not_some, most.upto key lt))) in
            let version = ap (λ (m : Mark). m.version) nothing in grind (arith, nat_tests)
        | inl some ↦ elim most.held [
          | inl none ↦ absurd (omega (arith, none, some))
          | inr (key, lt, is) ↦
              let there = numbered-some (written r) (number r key) (omega (arith, is, some)) (kept.numbers.each r key in_nodes lt).written in
              let held : entry_at t r key ≡ Some there.0 = has r key in_nodes lt ∙ there.1 in
              let upto = rw held at (mark_at-up_to_greatest t r key lt) in let version = upto.version (kept.proper.copies r key there.0 held) in
              let some_version = (kept.proper.in_place r key there.0 held).written in grind (arith, nat_tests)
        ]
      ]

  pub owners-size : {N : Type 0} (number : N → ℕ) (xs : List N) → map number xs ≡ v.greatest → count_held number xs ≡ digest_size Scuttle t
  owners-size number xs is =
      (λ i. sum_below ((sym (length-map xs number) ∙ ap length is ∙ kept.most.size) i) (λ r. cond (nat_lt 0 (slice_index (is i) r)) 1 0))
      ∙ sum_below-same v.nodes _ (λ r. cond (nat_lt 0 (greatest_version t r)) 1 0) (λ r lt. ap (λ b. cond b 1 0) (owner_here r lt))
      ∙ sym (count-range (λ r. nat_lt 0 (greatest_version t r)) v.nodes)
      ∙ ap (count_by (λ r. nat_lt 0 (greatest_version t r))) (map-id (range_with_len 0 v.nodes))
