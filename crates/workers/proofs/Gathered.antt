-- Records that are written to the places of their exchanges.
-- Serves `take_one`, `write_all` and `Joining`.
use Rattle.workers.proofs.Common.{◌≡◌, ◌≢◌, ℕ, zero, suc, ◌+◌, ◌<◌, ◌⊎◌, List, [], ◌∷◌, length, map, drop, get_or, set, All, All-head, All-tail, All-weaker, inl, inr, refl, ap, sym, ◌∙◌, arith, add-one, Some, slice_get, cases_eq, length-set, Record, BoardPlan, exchanged_at, Has, only-other}
use Rattle.workers.specs.declared.gathering.Stamped.{Stamped}
use Rattle.workers.specs.inner.Stamps.{with_records}
use Rattle.workers.specs.inner.Returns.{IsRecordOf}

abbrev pub indices : List Stamped → List ℕ
indices stamps = map (λ s. s.index) stamps

-- the next of them
write_suc : (records : List Record) (stamps : List Stamped) (k : ℕ) (d : Stamped) → k < length stamps
    → with_records (set records (get_or stamps k d).index (get_or stamps k d).outcome) (drop (suc k) stamps) ≡ with_records records (drop k stamps)
write_suc records [] k d lt = absurd (omega arith)
write_suc records (s ∷ stamps) zero d lt = refl
write_suc records (s ∷ stamps) (suc k) d lt = write_suc records stamps k d (omega arith)

pub write_next : (records : List Record) (stamps : List Stamped) (k : ℕ) (d : Stamped) → k < length stamps
    → with_records (set records (get_or stamps k d).index (get_or stamps k d).outcome) (drop (k + 1) stamps) ≡ with_records records (drop k stamps)
write_next records stamps k d lt = rw (add-one k) (write_suc records stamps k d lt)

pub length-with_records : (records : List Record) (stamps : List Stamped) → length (with_records records stamps) ≡ length records
length-with_records records [] = refl
length-with_records records (s ∷ stamps) = length-with_records (set records s.index s.outcome) stamps ∙ length-set records s.index s.outcome

get-set_same : {X : Type 0} (xs : List X) (i : ℕ) (x : X) → i < length xs → slice_get (set xs i x) i ≡ Some x
get-set_same [] i x lt = absurd (omega arith)
get-set_same (y ∷ xs) zero x lt = refl
get-set_same (y ∷ xs) (suc i) x lt = get-set_same xs i x (omega arith)

get-set_other : {X : Type 0} (xs : List X) (i j : ℕ) (x : X) → j ≢ i → slice_get (set xs i x) j ≡ slice_get xs j
get-set_other [] i j x apart = refl
get-set_other (y ∷ xs) zero zero x apart = absurd (apart refl)
get-set_other (y ∷ xs) zero (suc j) x apart = refl
get-set_other (y ∷ xs) (suc i) zero x apart = refl
get-set_other (y ∷ xs) (suc i) (suc j) x apart = get-set_other xs i j x (λ e. apart (ap suc e))

module _ (plan : BoardPlan) where
  abbrev Stands : List Record → ℕ → Type 0
  Stands records i = slice_get records i ≡ Some (exchanged_at plan i).sent

  -- a record that stood in its place still does, as each is written where it belongs, and so does each that is written
  pub stands_written : (records : List Record) (stamps : List Stamped) (i : ℕ) → length records ≡ length plan.list.exchanges → All (IsRecordOf plan) stamps
      → Stands records i ⊎ Has (indices stamps) i → Stands (with_records records stamps) i
  stands_written records [] i size each (inl stands) = stands
  stands_written records [] i size each (inr none) = absurd (omega arith)
  stands_written records (s ∷ stamps) i size each either =
      let of_list = All-head (IsRecordOf plan) s stamps each in
      let more = stands_written (set records s.index s.outcome) stamps i (length-set records s.index s.outcome ∙ size)
      (All-tail (IsRecordOf plan) s stamps each) in
      elim (cases_eq i s.index) [
        | inl same ↦ more (inl (
            ap (slice_get (set records s.index s.outcome)) same
            ∙ get-set_same records s.index s.outcome (omega (arith, of_list.within, size))
            ∙ ap Some (of_list.sent ∙ ap (λ k. (exchanged_at plan k).sent) (sym same))))
        | inr other ↦ elim either [
          | inl stands ↦ more (inl (get-set_other records s.index i s.outcome other ∙ stands))
          | inr has ↦ more (inr (omega (arith, has, only-other i s.index (λ same. other (sym same)))))
        ]
      ]

  pub all_within : (records : List Record) (stamps : List Stamped) → length records ≡ length plan.list.exchanges → All (IsRecordOf plan) stamps
      → All (λ s. s.index < length records) stamps
  all_within records stamps size each = All-weaker (IsRecordOf plan) (λ s. s.index < length records) (λ s is. omega (arith, is.within, size)) stamps each
