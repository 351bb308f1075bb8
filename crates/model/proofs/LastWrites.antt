-- The last write of a key.
-- Serves `OwnParts` and `owner_lists`.
use Rattle.model.proofs.Common.{◌≡◌, ◌≢◌, ℕ, eqb, List, [], ◌∷◌, ◌++◌, Some, inl, inr, if◌then◌else◌, sym, ap, ◌∙◌, arith, nat_cmp, is_eq, cases_lt, ne_eqb, eq-eqb, reverse-append, nat_cmp-less, nat_cmp-equal, nat_cmp-greater}
use Rattle.std.specs.List.{find}
use Rattle.model.specs.declared.writes.Write.{Write}
use Rattle.model.specs.calls.Writes.{is_write_of, last_write}

-- a write at the end is the last of its key
pub last_write-push : (ws : List Write) (w : Write) (key : ℕ) → last_write (ws ++ w ∷ []) key ≡ (if is_write_of key w then Some w else last_write ws key)
last_write-push ws w key = ap (find (is_write_of key)) (reverse-append ws (w ∷ []))

pub same_key : (m n : ℕ) → is_eq (nat_cmp m n) ≡ eqb n m
same_key m n = elim (cases_lt m n) [
  | inl lt ↦ let ne : n ≢ m = omega arith in ap is_eq (nat_cmp-less m n lt) ∙ sym (ne_eqb n m ne)
  | inr le ↦ elim (cases_lt n m) [
    | inl gt ↦ let ne : n ≢ m = omega arith in ap is_eq (nat_cmp-greater m n gt) ∙ sym (ne_eqb n m ne)
    | inr ge ↦ let e : n ≡ m = omega arith in ap is_eq (nat_cmp-equal m n (sym e)) ∙ sym (eq-eqb n m e)
  ]
]

-- a write of a version
abbrev pub with_version : ℕ → ℕ → ℕ → Write
with_version version key born = record { key = key; version = version; born = born }
