-- The successors of an exchange are those whose predecessor it is, each once.
-- Serves `Calls`, `Finishing` and `Parts`.
use Rattle.board.proofs.Common.{◌≡◌, ℕ, zero, suc, ◌+◌, ◌-◌, ◌<◌, ◌≤◌, ◌⊎◌, Bool, true, false, cond, if◌then◌else◌, List, ◌++◌, length, Option, None, Some, inl, inr, sym, ap, ◌∙◌, subst, arith, find, range_with_len, cases_Bool, cases_eq, cases_lt, eq-eqb, ne_eqb, or_left, or_right, false≢true, none-some, same_Some, Exchange, exchange_at, takes_part, share_node, last_before, first_from, unless_same, as_list, predecessors, last_before-is, last_before-reaches, part_cases, initiator_part, responder_part}
use Rattle.board.specs.Weights.{only, times}
use Rattle.board.specs.inner.Plays.{successor_list}
use Rattle.board.proofs.Sums.{only-same, only-other, only_at}

-- what stands in one of two places, once where it stands in both
pub in_both : (a b : Option ℕ) (k : ℕ) → 0 < times k (as_list a ++ as_list (unless_same a b)) → (a ≡ Some k) ⊎ (b ≡ Some k)
in_both None None k h = absurd (omega arith)
in_both None (Some y) k h = inr (ap Some (only_at k y (omega (arith, h))))
in_both (Some x) None k h = inl (ap Some (only_at k x (omega (arith, h))))
in_both (Some x) (Some y) k h = elim (cases_eq x k) [
  | inl here ↦ inl (ap Some here)
  | inr other ↦ elim (cases_eq x y) [
    | inl same ↦ absurd (omega (arith, h, only-other k x other, ap (λ (b : Bool). times k (as_list (if b then None else Some y))) (eq-eqb x y same)))
    | inr apart ↦ inr (ap Some (only_at k y (omega (arith, h, only-other k x other, ap (λ (b : Bool). times k (as_list (if b then None else Some y))) (ne_eqb x y apart)))))
  ]
]

pub both_in : (a b : Option ℕ) (k : ℕ) → (a ≡ Some k) ⊎ (b ≡ Some k) → times k (as_list a ++ as_list (unless_same a b)) ≡ 1
both_in None None k (inl is) = absurd (none-some k is)
both_in None None k (inr is) = absurd (none-some k is)
both_in None (Some y) k (inl is) = absurd (none-some k is)
both_in None (Some y) k (inr is) = omega (arith, ap (only k) (same_Some y k is), only-same k)
both_in (Some x) None k (inl is) = omega (arith, ap (only k) (same_Some x k is), only-same k)
both_in (Some x) None k (inr is) = absurd (none-some k is)
both_in (Some x) (Some y) k is = elim (cases_eq x y) [
  | inl same ↦
      let here : x ≡ k = elim is [
        | inl first ↦ same_Some x k first
        | inr second ↦ same ∙ same_Some y k second
      ] in
      omega (arith, ap (λ (b : Bool). times k (as_list (if b then None else Some y))) (eq-eqb x y same), ap (only k) here, only-same k)
  | inr apart ↦ let two = ap (λ (b : Bool). times k (as_list (if b then None else Some y))) (ne_eqb x y apart) in elim is [
    | inl first ↦ let here = same_Some x k first in omega (arith, two, ap (only k) here, only-same k, only-other k y (λ e. apart (here ∙ sym e)))
    | inr second ↦ let here = same_Some y k second in omega (arith, two, ap (only k) here, only-same k, only-other k x (λ e. apart (e ∙ sym here)))
  ]
]

-- the first exchange of a node from a place on
first_is : (es : List Exchange) (node m r k : ℕ) → find (takes_part es node) (range_with_len m r) ≡ Some k → (m ≤ k) × (k < m + r) × (takes_part es node k ≡ true) × ((j : ℕ) → m ≤ j → j < k → takes_part es node j ≡ false)
first_is es node m zero k is = absurd (none-some k is)
first_is es node m (suc r) k is = elim (cases_Bool (takes_part es node m)) [
  | inl here ↦
      let this : m ≡ k = same_Some m k (sym (ap (λ (b : Bool). cond b (Some m) (find (takes_part es node) (range_with_len (m + 1) r))) here) ∙ is) in
      (omega (arith, this), omega (arith, this), subst (λ n. takes_part es node n ≡ true) this here, λ j from less. absurd (omega (arith, this, from, less)))
  | inr none ↦
      let rest = first_is es node (m + 1) r k (sym (ap (λ (b : Bool). cond b (Some m) (find (takes_part es node) (range_with_len (m + 1) r))) none) ∙ is) in (
        omega (arith, rest.0),
        omega (arith, rest.1),
        rest.2,
        λ j from less. elim (cases_eq j m) [
          | inl same ↦ subst (λ n. takes_part es node n ≡ false) (sym same) none
          | inr other ↦ rest.3 j (omega (arith, from, other)) less
        ],
      )
]

first_at : (es : List Exchange) (node m r k : ℕ) → m ≤ k → k < m + r → takes_part es node k ≡ true → ((j : ℕ) → m ≤ j → j < k → takes_part es node j ≡ false) → find (takes_part es node) (range_with_len m r) ≡ Some k
first_at es node m zero k from less part none = absurd (omega arith)
first_at es node m (suc r) k from less part none = elim (cases_eq m k) [
  | inl same ↦ ap (λ (b : Bool). cond b (Some m) (find (takes_part es node) (range_with_len (m + 1) r))) (subst (λ n. takes_part es node n ≡ true) (sym same) part) ∙ ap Some same
  | inr other ↦ ap (λ (b : Bool). cond b (Some m) (find (takes_part es node) (range_with_len (m + 1) r))) (none m (omega arith) (omega (arith, from, other)))
      ∙ first_at es node (m + 1) r k (omega (arith, from, other)) (omega (arith, less)) part (λ j after. none j (omega (arith, after)))
]

last_at : (es : List Exchange) (node i k : ℕ) → k < i → takes_part es node k ≡ true → ((j : ℕ) → k < j → j < i → takes_part es node j ≡ false) → last_before es node i ≡ Some k
last_at es node i k less part none =
    let reached = last_before-reaches es node i k less part in
    let is = last_before-is es node i reached.0 reached.1 in
    reached.1 ∙ elim (cases_eq k reached.0) [
      | inl same ↦ ap Some (sym same)
      | inr other ↦ absurd (false≢true (sym (none reached.0 (omega (arith, reached.2, other)) is.0) ∙ is.1))
    ]

last_none : (es : List Exchange) (node i k : ℕ) → last_before es node i ≡ Some k → (j : ℕ) → k < j → j < i → takes_part es node j ≡ false
last_none es node i k is j after less = elim (cases_Bool (takes_part es node j)) [
  | inl part ↦ let reached = last_before-reaches es node i j less part in let same = same_Some k reached.0 (sym is ∙ reached.1) in absurd (omega (arith, same, reached.2, after))
  | inr none ↦ none
]

module _ (es : List Exchange) (i j : ℕ) where
  -- the next exchange of a node after one of it has this as the last before it
  turned : (node : ℕ) → takes_part es node i ≡ true → first_from es node (i + 1) ≡ Some j → (i < j) × (takes_part es node j ≡ true) × (last_before es node j ≡ Some i)
  turned node part is =
      let at = first_is es node (i + 1) (length es - (i + 1)) j is in
      (omega (arith, at.0), at.2, last_at es node j i (omega (arith, at.0)) part (λ k after less. at.3 k (omega (arith, after)) less))

  turned_back : (node : ℕ) → j < length es → takes_part es node j ≡ true → last_before es node j ≡ Some i → (takes_part es node i ≡ true) × (first_from es node (i + 1) ≡ Some j)
  turned_back node within part is =
      let at = last_before-is es node j i is in
      (at.1, first_at es node (i + 1) (length es - (i + 1)) j (omega (arith, at.0)) (omega (arith, at.0, within)) part (λ k from less. last_none es node j i is k (omega (arith, from)) less))

  ends : (P : ℕ → Type 0) (node k : ℕ) → takes_part es node k ≡ true → P node → P (exchange_at es k).initiator ⊎ P (exchange_at es k).responder
  ends P node k part holds = elim (part_cases es node k part) [
    | inl first ↦ inl (subst P (sym first) holds)
    | inr second ↦ inr (subst P (sym second) holds)
  ]

  follows : 0 < times j (successor_list es i) → 0 < times i (predecessors es j)
  follows h =
      let found = in_both (first_from es (exchange_at es i).initiator (i + 1)) (first_from es (exchange_at es i).responder (i + 1)) j h in
      let last : (node : ℕ) × (takes_part es node j ≡ true) × (last_before es node j ≡ Some i) = elim found [
        | inl first ↦ let t = turned (exchange_at es i).initiator (initiator_part es i) first in ((exchange_at es i).initiator, t.1, t.2)
        | inr second ↦ let t = turned (exchange_at es i).responder (responder_part es i) second in ((exchange_at es i).responder, t.1, t.2)
      ] in
      omega (arith, both_in (last_before es (exchange_at es j).initiator j) (last_before es (exchange_at es j).responder j) i (ends (λ node. last_before es node j ≡ Some i) last.0 j last.1 last.2))

  precedes : j < length es → 0 < times i (predecessors es j) → 0 < times j (successor_list es i)
  precedes within h =
      let found = in_both (last_before es (exchange_at es j).initiator j) (last_before es (exchange_at es j).responder j) i h in
      let next : (node : ℕ) × (takes_part es node i ≡ true) × (first_from es node (i + 1) ≡ Some j) = elim found [
        | inl first ↦ let t = turned_back (exchange_at es j).initiator within (initiator_part es j) first in ((exchange_at es j).initiator, t.0, t.1)
        | inr second ↦ let t = turned_back (exchange_at es j).responder within (responder_part es j) second in ((exchange_at es j).responder, t.0, t.1)
      ] in
      omega (arith, both_in (first_from es (exchange_at es i).initiator (i + 1)) (first_from es (exchange_at es i).responder (i + 1)) j (ends (λ node. first_from es node (i + 1) ≡ Some j) next.0 i next.1 next.2))

pub successors_once : (es : List Exchange) (i j : ℕ) → times j (successor_list es i) ≤ 1
successors_once es i j = let a = first_from es (exchange_at es i).initiator (i + 1) in let b = first_from es (exchange_at es i).responder (i + 1) in elim (cases_lt 0 (times j (as_list a ++ as_list (unless_same a b)))) [
  | inl some ↦ omega (arith, both_in a b j (in_both a b j some))
  | inr none ↦ omega (arith, none)
]

pub predecessors_once : (es : List Exchange) (i j : ℕ) → times j (predecessors es i) ≤ 1
predecessors_once es i j = let a = last_before es (exchange_at es i).initiator i in let b = last_before es (exchange_at es i).responder i in elim (cases_lt 0 (times j (as_list a ++ as_list (unless_same a b)))) [
  | inl some ↦ omega (arith, both_in a b j (in_both a b j some))
  | inr none ↦ omega (arith, none)
]

pub releases_meet : (es : List Exchange) (i j : ℕ) → j < length es → times j (successor_list es i) ≡ times i (predecessors es j)
releases_meet es i j within = elim (cases_lt 0 (times j (successor_list es i))) [
  | inl some ↦ omega (arith, some, follows es i j some, successors_once es i j, predecessors_once es j i)
  | inr none ↦ elim (cases_lt 0 (times i (predecessors es j))) [
    | inl other ↦ absurd (omega (arith, none, precedes es i j within other))
    | inr nothing ↦ omega (arith, none, nothing)
  ]
]

-- a predecessor is an earlier exchange that shares a node
pub predecessor_shares : (es : List Exchange) (i j : ℕ) → 0 < times i (predecessors es j) → (i < j) × (share_node es j i ≡ true)
predecessor_shares es i j h = elim (in_both (last_before es (exchange_at es j).initiator j) (last_before es (exchange_at es j).responder j) i h) [
  | inl first ↦ let t = last_before-is es (exchange_at es j).initiator j i first in (t.0, or_left (takes_part es (exchange_at es j).initiator i) (takes_part es (exchange_at es j).responder i) t.1)
  | inr second ↦ let t = last_before-is es (exchange_at es j).responder j i second in (t.0, or_right (takes_part es (exchange_at es j).initiator i) (takes_part es (exchange_at es j).responder i) t.1)
]

-- a successor is in the list
pub successor_within : (es : List Exchange) (i j : ℕ) → 0 < times j (successor_list es i) → i < length es → j < length es
successor_within es i j h within = elim (in_both (first_from es (exchange_at es i).initiator (i + 1)) (first_from es (exchange_at es i).responder (i + 1)) j h) [
  | inl first ↦ let t = first_is es (exchange_at es i).initiator (i + 1) (length es - (i + 1)) j first in omega (arith, t.1, within)
  | inr second ↦ let t = first_is es (exchange_at es i).responder (i + 1) (length es - (i + 1)) j second in omega (arith, t.1, within)
]
