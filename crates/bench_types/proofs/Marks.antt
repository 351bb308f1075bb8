-- Marks are in a total order, and the later of two comes behind neither.
-- Serves `model` and `reconcile`.
use Rattle.std.proofs.Common.{◌≡◌, ℕ, ◌+◌, ◌≤◌, true, false, eqb, ◌||◌, ◌&&◌, Option, Some, None, cond, if◌then◌else◌, ◌⊎◌, inl, inr, refl, sym, ap, ◌∙◌, subst, arith}
use Rattle.std.specs.Prelude.{nat_lt}
use Rattle.std.proofs.lemmas.Bool.{cases_lt, cases_eq, lt-ltb, le-ltb, eq-eqb, ne_eqb, both_ways}
use Rattle.bench_types.specs.declared.entries.Entry.{Entry}
use Rattle.bench_types.specs.declared.entries.Mark.{Mark}
use Rattle.bench_types.specs.Entry.{newer}
use Rattle.bench_types.specs.Mark.{absent, mark_of, mark_held, is_before, IsBefore, IsUpTo, later}

pub cases_before : (m n : Mark) → (is_before m n ≡ true × IsBefore m n) ⊎ (is_before m n ≡ false × IsUpTo n m)
cases_before m n = elim (cases_lt m.generation n.generation) [
  | inl below ↦ inl (ap (λ b. b || (eqb m.generation n.generation && nat_lt m.version n.version)) (lt-ltb m.generation n.generation below), record { generation = omega arith; version = λ same. omega arith })
  | inr not_below ↦ elim (cases_eq m.generation n.generation) [
    | inl same ↦ elim (cases_lt m.version n.version) [
      | inl less ↦ inl (parts not_below ∙ ap (λ b. b && nat_lt m.version n.version) (eq-eqb m.generation n.generation same) ∙ lt-ltb m.version n.version less, record { generation = omega arith; version = λ _. less })
      | inr more ↦ inr (parts not_below ∙ ap (λ b. b && nat_lt m.version n.version) (eq-eqb m.generation n.generation same) ∙ le-ltb m.version n.version more, record { generation = omega arith; version = λ _. more })
    ]
    | inr apart ↦ inr (parts not_below ∙ ap (λ b. b && nat_lt m.version n.version) (ne_eqb m.generation n.generation apart), record { generation = not_below; version = λ same. absurd (apart (sym same)) })
  ]
]
  where
    parts : n.generation ≤ m.generation → is_before m n ≡ (eqb m.generation n.generation && nat_lt m.version n.version)
    parts not_below = ap (λ b. b || (eqb m.generation n.generation && nat_lt m.version n.version)) (le-ltb m.generation n.generation not_below)

-- one that comes before another isn't behind it
pub not_both : (m n : Mark) → IsBefore m n → IsUpTo n m → ⊥
not_both m n before up =
    let same : m.generation ≡ n.generation = omega (arith, before.generation, up.generation) in
    omega (arith, before.version same, up.version (sym same))

-- what the answer says
pub before-true : (m n : Mark) → is_before m n ≡ true → IsBefore m n
before-true m n is = elim (cases_before m n) [ inl is_so ↦ is_so.1 | inr is_not ↦ absurd (both_ways (is_before m n) is_not.0 is) ]

pub before-false : (m n : Mark) → is_before m n ≡ false → IsUpTo n m
before-false m n is = elim (cases_before m n) [ inl is_so ↦ absurd (both_ways (is_before m n) is is_so.0) | inr is_not ↦ is_not.1 ]

pub before-yes : (m n : Mark) → IsBefore m n → is_before m n ≡ true
before-yes m n is = elim (cases_before m n) [ inl is_so ↦ is_so.0 | inr is_not ↦ absurd (not_both m n is is_not.1) ]

pub before-no : (m n : Mark) → IsUpTo n m → is_before m n ≡ false
before-no m n up = elim (cases_before m n) [ inl is_so ↦ absurd (not_both m n is_so.1 up) | inr is_not ↦ is_not.0 ]

pub up_to-itself : (m : Mark) → IsUpTo m m
up_to-itself m = record { generation = omega arith; version = λ _. omega arith }

-- what is up to a mark that stands so many versions below another stands so many below it as well
below-by : (l m n : Mark) (versions : ℕ) → IsUpTo l m → m.generation ≤ n.generation → (m.generation ≡ n.generation → m.version + versions ≤ n.version) → (l.generation ≤ n.generation) × (l.generation ≡ n.generation → l.version + versions ≤ n.version)
below-by l m n versions first generation version = (
  omega (arith, first.generation, generation),
  λ same.
      let first_same : l.generation ≡ m.generation = omega (arith, first.generation, generation, same) in
      let second_same : m.generation ≡ n.generation = omega (arith, first.generation, generation, same) in
      omega (arith, first.version first_same, version second_same),
)

pub up_to-then : (l m n : Mark) → IsUpTo l m → IsUpTo m n → IsUpTo l n
up_to-then l m n first second =
    let below = below-by l m n 0 first second.generation (λ same. omega (arith, second.version same)) in
    record { generation = below.0; version = λ same. omega (arith, below.1 same) }

pub before-up_to : (m n : Mark) → IsBefore m n → IsUpTo m n
before-up_to m n is = record { generation = is.generation; version = λ same. omega (arith, is.version same) }

pub up_to-before : (l m n : Mark) → IsUpTo l m → IsBefore m n → IsBefore l n
up_to-before l m n first second =
    let below = below-by l m n 1 first second.generation (λ same. omega (arith, second.version same)) in
    record { generation = below.0; version = λ same. omega (arith, below.1 same) }

pub absent-first : (m : Mark) → IsUpTo absent m
absent-first m = record { generation = omega arith; version = λ _. omega arith }

-- two of which none is behind the other are one
pub up_to-both : (m n : Mark) → IsUpTo m n → IsUpTo n m → m ≡ n
up_to-both m n to from =
    let generations : m.generation ≡ n.generation = omega (arith, to.generation, from.generation) in
    let versions : m.version ≡ n.version = omega (arith, to.version generations, from.version (sym generations)) in
    λ i. record { generation = generations i; version = versions i }

-- the later of two is one of them, and neither is behind it
pub later-second : (m n : Mark) → IsBefore m n → later m n ≡ n
later-second m n is = ap (λ b. if b then n else m) (before-yes m n is)

pub later-first : (m n : Mark) → IsUpTo n m → later m n ≡ m
later-first m n up = ap (λ b. if b then n else m) (before-no m n up)

pub cases_later : (m n : Mark) → ((later m n ≡ n) × IsBefore m n) ⊎ ((later m n ≡ m) × IsUpTo n m)
cases_later m n = elim (cases_before m n) [
  | inl is_so ↦ inl (later-second m n is_so.1, is_so.1)
  | inr is_not ↦ inr (later-first m n is_not.1, is_not.1)
]

pub first-later : (m n : Mark) → IsUpTo m (later m n)
first-later m n = elim (cases_later m n) [
  | inl second ↦ subst (IsUpTo m) (sym second.0) (before-up_to m n second.1)
  | inr first ↦ subst (IsUpTo m) (sym first.0) (up_to-itself m)
]

pub second-later : (m n : Mark) → IsUpTo n (later m n)
second-later m n = elim (cases_later m n) [
  | inl second ↦ subst (IsUpTo n) (sym second.0) (up_to-itself n)
  | inr first ↦ subst (IsUpTo n) (sym first.0) first.1
]

-- and it is behind no bound of both
pub later-up_to : (l m n : Mark) → IsUpTo m l → IsUpTo n l → IsUpTo (later m n) l
later-up_to l m n first second = elim (cases_later m n) [
  | inl is ↦ subst (λ x. IsUpTo x l) (sym is.0) second
  | inr is ↦ subst (λ x. IsUpTo x l) (sym is.0) first
]

-- what is kept has the later mark
pub mark_held-newer : (held : Option Entry) (incoming : Entry) → mark_held (Some (newer held incoming)) ≡ later (mark_held held) (mark_of incoming)
mark_held-newer None incoming = elim (cases_later absent (mark_of incoming)) [
  | inl second ↦ sym second.0
  | inr first ↦ up_to-both (mark_of incoming) absent first.1 (absent-first (mark_of incoming)) ∙ sym first.0
]
mark_held-newer (Some held) incoming = elim (is_before (mark_of held) (mark_of incoming)) as (λ b. mark_held (Some (cond b incoming held)) ≡ cond b (mark_of incoming) (mark_of held)) [ true ↦ refl | false ↦ refl ]
