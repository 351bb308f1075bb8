-- The greatest mark of an owner, by look-ups.
-- Serves `BeginLaws`, `MarkLaws`, `Proper`, `Received`, `StateDeltas`, `node_table`, `reconcile`, `run_laws` and
-- `version_tables`.
use Rattle.model.proofs.Common.{◌≡◌, ℕ, zero, suc, ◌<◌, None, ◌⊎◌, inl, inr, refl, sym, ap, ◌∙◌, subst, arith, Less, Equal, Greater, nat_cmp, ordering_then, ranked, cases_lt, Mark, absent, mark_held, IsUpTo, later, up_to-itself, up_to-then, up_to-both, absent-first, first-later, second-later, later-up_to, cases_later}
use Rattle.model.specs.Table.{Place, place_cmp, Table, entry_at, mark_at, greatest_below, greatest_mark}

-- a place below another has an owner below, or the same owner and a key below
pub place_less : (p q : Place) → place_cmp p q ≡ Less → (p.0 < q.0) ⊎ ((p.0 ≡ q.0) × (p.1 < q.1))
place_less p q e =
    elim (nat_cmp p.0 q.0) as (λ r. r ≡ nat_cmp p.0 q.0 → ordering_then r (nat_cmp p.1 q.1) ≡ Less → (p.0 < q.0) ⊎ ((p.0 ≡ q.0) × (p.1 < q.1))) [
      | Less ↦ λ is h. inl (ranked p.0 q.0 Less is)
      | Equal ↦ λ is h. inr (ranked p.0 q.0 Equal is, ranked p.1 q.1 Less (sym h))
      | Greater ↦ λ is h. absurd (turned h)
    ] refl e
  where
    turned : Greater ≡ Less → ⊥
    turned h = cc

-- no key's mark is behind the greatest
pub mark_at-up_to_below : (t : Table) (owner n key : ℕ) → key < n → IsUpTo (mark_at t owner key) (greatest_below t owner n)
mark_at-up_to_below t owner zero key lt = absurd (omega arith)
mark_at-up_to_below t owner (suc n) key lt = elim (cases_lt key n) [
  | inl below ↦ up_to-then (mark_at t owner key) (greatest_below t owner n) (greatest_below t owner (suc n)) (mark_at-up_to_below t owner n key below) (first-later (greatest_below t owner n) (mark_at t owner n))
  | inr at_least ↦ let same : key ≡ n = omega arith in subst (λ k. IsUpTo (mark_at t owner k) (greatest_below t owner (suc n))) (sym same) (second-later (greatest_below t owner n) (mark_at t owner n))
]

-- and the greatest is behind no bound of them
pub greatest_below-up_to : (t : Table) (owner n : ℕ) (most : Mark) → ((key : ℕ) → key < n → IsUpTo (mark_at t owner key) most) → IsUpTo (greatest_below t owner n) most
greatest_below-up_to t owner zero most above = absent-first most
greatest_below-up_to t owner (suc n) most above =
    later-up_to most (greatest_below t owner n) (mark_at t owner n) (greatest_below-up_to t owner n most (λ key lt. above key (omega arith))) (above n (omega arith))

-- a bound that is the absent mark or a key's is the greatest mark
pub greatest_mark-unique : (t : Table) (owner : ℕ) (most : Mark) → ((key : ℕ) → key < t.keys → IsUpTo (mark_at t owner key) most) → (most ≡ absent) ⊎ ((key : ℕ) × (key < t.keys) × (mark_at t owner key ≡ most)) → greatest_mark t owner ≡ most
greatest_mark-unique t owner most above (inl none) =
    up_to-both (greatest_mark t owner) most (greatest_below-up_to t owner t.keys most above) (subst (λ m. IsUpTo m (greatest_mark t owner)) (sym none) (absent-first (greatest_mark t owner)))
greatest_mark-unique t owner most above (inr (key, lt, is)) =
    up_to-both (greatest_mark t owner) most (greatest_below-up_to t owner t.keys most above) (subst (λ m. IsUpTo m (greatest_mark t owner)) is (mark_at-up_to_below t owner t.keys key lt))

-- no key's mark is behind the greatest of its owner
pub mark_at-up_to_greatest : (t : Table) (owner key : ℕ) → key < t.keys → IsUpTo (mark_at t owner key) (greatest_mark t owner)
mark_at-up_to_greatest t owner key below = mark_at-up_to_below t owner t.keys key below

-- the greatest is a key's or the absent one
pub greatest_mark-from : (t : Table) (owner : ℕ) → (greatest_mark t owner ≡ absent) ⊎ ((key : ℕ) × (key < t.keys) × (mark_at t owner key ≡ greatest_mark t owner))
greatest_mark-from t owner = below t.keys
  where
    below : (n : ℕ) → (greatest_below t owner n ≡ absent) ⊎ ((key : ℕ) × (key < n) × (mark_at t owner key ≡ greatest_below t owner n))
    below zero = inl refl
    below (suc n) = elim (cases_later (greatest_below t owner n) (mark_at t owner n)) [
      | inl second ↦ inr (n, omega arith, sym second.0)
      | inr kept ↦ elim (below n) [ inl none ↦ inl (kept.0 ∙ none) | inr (key, lt, is) ↦ inr (key, omega arith, is ∙ sym kept.0) ]
    ]

-- tables with equal marks of an owner have equal greatest marks
pub greatest_mark-same : (t u : Table) (owner : ℕ) → t.keys ≡ u.keys → ((key : ℕ) → key < t.keys → mark_at t owner key ≡ mark_at u owner key) → greatest_mark t owner ≡ greatest_mark u owner
greatest_mark-same t u owner keys same = below t.keys same ∙ ap (greatest_below u owner) keys
  where
    below : (n : ℕ) → ((key : ℕ) → key < n → mark_at t owner key ≡ mark_at u owner key) → greatest_below t owner n ≡ greatest_below u owner n
    below zero same = refl
    below (suc n) same = λ i. later (below n (λ key lt. same key (omega arith)) i) (same n (omega arith) i)

-- of an owner of whom nothing is held it is the absent one
pub greatest_mark-none : (t : Table) (owner : ℕ) → ((key : ℕ) → key < t.keys → entry_at t owner key ≡ None) → greatest_mark t owner ≡ absent
greatest_mark-none t owner none = greatest_mark-unique t owner absent (λ key lt. subst (λ h. IsUpTo (mark_held h) absent) (sym (none key lt)) (up_to-itself absent)) (inl refl)
