-- Writes by their numbers: which there are, and how their marks compare.
-- Serves `OwnerWrites::numbered`, `delta_plans`, `version_lags` and `version_tables`.
use Rattle.owner_writes.proofs.Common.{◌≡◌, ℕ, zero, suc, ◌<◌, ◌≤◌, List, [], ◌∷◌, length, get_or, map, ap, ◌∙◌, Some, None, inl, inr, refl, sym, ap, ◌∙◌, subst, arith, nat_lt, cases_lt, lt-ltb, le-ltb, same_Some, Entry, mark_of, is_before, IsBefore, IsUpTo, Kept, entry_kept, before-yes, before-no, before-up_to, up_to-itself, write_from, write_numbered, slice_get, slice_get-get_or, slice_get_within, get_or_from_slice_get, IsHistory}

write_from-get : (es : List Entry) (place : ℕ) → write_from es place ≡ slice_get es place
write_from-get [] place = refl
write_from-get (e ∷ es) zero = refl
write_from-get (e ∷ es) (suc place) = write_from-get es place

pub write_from-here : (es : List Entry) (place : ℕ) (d : Entry) → place < length es → write_from es place ≡ Some (get_or es place d)
write_from-here es place d lt = write_from-get es place ∙ slice_get-get_or es place d lt

-- a number is that of a place, where its write stands
pub record IsPlaced (writes : List Entry) (number : ℕ) (e : Entry) : Type 0 where
  pub place : ℕ
  pub is : number ≡ suc place
  pub within : place < length writes
  pub there : (d : Entry) → get_or writes place d ≡ e

pub numbered-placed : (writes : List Entry) (number : ℕ) (e : Entry) → write_numbered writes number ≡ Some e → IsPlaced writes number e
numbered-placed writes zero e is = absurd (cc)
numbered-placed writes (suc place) e is =
    let at = sym (write_from-get writes place) ∙ is in
    record { place = place; is = refl; within = slice_get_within writes place e at; there = λ d. get_or_from_slice_get writes place e d at }

-- numbers compare as marks
pub numbers-before : (writes : List Entry) (history : IsHistory writes) (m n : ℕ) (d e : Entry) → write_numbered writes m ≡ Some d → write_numbered writes n ≡ Some e → m < n → IsBefore (mark_of d) (mark_of e)
numbers-before writes history m n d e is_d is_e lt =
    let first = numbered-placed writes m d is_d in
    let second = numbered-placed writes n e is_e in
    rw (first.there d, second.there d) at (history.rise first.place second.place d (omega (arith, lt, first.is, second.is)) second.within)

module _ (writes : List Entry) (history : IsHistory writes) (m n : ℕ) (d e : Entry) (is_d : write_numbered writes m ≡ Some d) (is_e : write_numbered writes n ≡ Some e) where
  pub numbers-up_to : m ≤ n → IsUpTo (mark_of d) (mark_of e)
  numbers-up_to le = elim (cases_lt m n) [
    | inl before ↦ before-up_to (mark_of d) (mark_of e) (numbers-before writes history m n d e is_d is_e before)
    | inr not_before ↦
        let one : Some d ≡ Some e = sym is_d ∙ ap (write_numbered writes) {x = m} {y = n} (omega (arith, le, not_before)) ∙ is_e in
        subst (λ x. IsUpTo (mark_of d) (mark_of x)) (same_Some d e one) (up_to-itself (mark_of d))
  ]

-- of one generation, numbers compare as versions
module _ (writes : List Entry) (history : IsHistory writes) (m n : ℕ) (d e : Entry) (is_d : write_numbered writes m ≡ Some d) (is_e : write_numbered writes n ≡ Some e) (alike : d.generation ≡ e.generation) where
  pub versions-rise : m < n → d.version < e.version
  versions-rise lt = (numbers-before writes history m n d e is_d is_e lt).version alike

  pub number-of_version : d.version < e.version → m < n
  number-of_version lt = elim (cases_lt m n) [
    | inl before ↦ before
    | inr not_before ↦ absurd (omega (arith, lt, (numbers-up_to writes history n m e d is_e is_d not_before).version (sym alike)))
  ]

-- there is a write of each number from 1 up to the count
pub numbered-some : (writes : List Entry) (number : ℕ) → 0 < number → number ≤ length writes → (e : Entry) × (write_numbered writes number ≡ Some e)
numbered-some writes zero some le = absurd (omega (arith, some))
numbered-some writes (suc place) some le =
    let d : Entry = record { key = 0; generation = 0; version = 0; value = 0; born = 0 } in (get_or writes place d, write_from-here writes place d (omega (arith, le)))

-- a number up to the count of which there is no write is 0
pub numbered-none : (writes : List Entry) (number : ℕ) → number ≤ length writes → write_numbered writes number ≡ None → number ≡ 0
numbered-none writes zero le none = refl
numbered-none writes (suc place) le none =
    let there = (numbered-some writes (suc place) (omega arith) le).1 in
    absurd (cc)

-- a write has a number from 1 up to the count
pub numbered-within : (writes : List Entry) (number : ℕ) (e : Entry) → write_numbered writes number ≡ Some e → (0 < number) × (number ≤ length writes)
numbered-within writes number e is = let at = numbered-placed writes number e is in (omega (arith, at.is), omega (arith, at.is, at.within))

-- marks compare as numbers
pub numbers-compare : (writes : List Entry) (history : IsHistory writes) (m n : ℕ) (d e : Entry) → write_numbered writes m ≡ Some d → write_numbered writes n ≡ Some e → is_before (mark_of d) (mark_of e) ≡ nat_lt m n
numbers-compare writes history m n d e is_d is_e = elim (cases_lt m n) [
  | inl before ↦ before-yes (mark_of d) (mark_of e) (numbers-before writes history m n d e is_d is_e before) ∙ sym (lt-ltb m n before)
  | inr not_before ↦ before-no (mark_of d) (mark_of e) (numbers-up_to writes history n m e d is_e is_d (omega (arith, not_before))) ∙ sym (le-ltb m n (omega (arith, not_before)))
]

-- the write of what is kept at a place
pub numbered-kept : (kept : List Kept) (place number : ℕ) → suc place ≡ number
    → write_numbered (map entry_kept kept) number ≡ slice_get (map entry_kept kept) place
numbered-kept kept place number next = ap (write_numbered (map entry_kept kept)) (sym next) ∙ write_from-get (map entry_kept kept) place
