-- What the predecessors of an exchange tell of all earlier exchanges of its nodes.
-- Serves `predecessors_tell_of_all_earlier`, `Lawful`, `Sets`, `Sharers`, `board` and `planner`.
use Rattle.dependencies.proofs.Common.{◌≡◌, ℕ, zero, suc, ◌<◌, ◌≤◌, Bool, true, false, ◌==◌, if◌then◌else◌, List, [], ◌∷◌, ◌++◌, Option, None, Some, inl, inr, All, refl, sym, ap, ◌∙◌, subst, arith, cases_eq, or_cases, or_left, or_right, eqb-true, false≢true, none-some, same_Some, All-nil, All-cons, All-head, All-tail, Exchange}
use Rattle.dependencies.specs.Sharing.{exchange_at, takes_part, share_node}
use Rattle.dependencies.specs.Neighbours.{last_before, unless_same, as_list, predecessors}

-- the last exchange of a node is an earlier one of its exchanges
pub last_before-is : (es : List Exchange) (node i k : ℕ) → last_before es node i ≡ Some k → (k < i) × (takes_part es node k ≡ true)
last_before-is es node zero k is = absurd (none-some k is)
last_before-is es node (suc i) k is = elim (takes_part es node i) as (λ b. takes_part es node i ≡ b → (if b then Some i else last_before es node i) ≡ Some k → (k < suc i) × (takes_part es node k ≡ true)) [
  | true ↦ λ here same. let this : i ≡ k = same_Some i k same in (omega arith, subst (λ j. takes_part es node j ≡ true) this here)
  | false ↦ λ _ before. let rest = last_before-is es node i k before in (omega (arith, rest.0), rest.1)
] refl is

-- and no exchange of the node lies behind it
pub last_before-reaches : (es : List Exchange) (node i j : ℕ) → j < i → takes_part es node j ≡ true → (k : ℕ) × (last_before es node i ≡ Some k) × (j ≤ k)
last_before-reaches es node zero j below takes = absurd (omega arith)
last_before-reaches es node (suc i) j below takes = elim (takes_part es node i) as (λ b. takes_part es node i ≡ b → (k : ℕ) × ((if b then Some i else last_before es node i) ≡ Some k) × (j ≤ k)) [
  | true ↦ λ _. (i, refl, omega arith)
  | false ↦ λ none. elim (cases_eq j i) [
    | inl here ↦ absurd (false≢true (sym none ∙ ap (takes_part es node) (sym here) ∙ takes))
    | inr other ↦ last_before-reaches es node i j (omega arith) takes
  ]
] refl

-- two exchanges of a node share it
pub share_from : (es : List Exchange) (node i j : ℕ) → takes_part es node i ≡ true → takes_part es node j ≡ true → share_node es i j ≡ true
share_from es node i j first second = elim (or_cases ((exchange_at es i).initiator == node) ((exchange_at es i).responder == node) first) [
  | inl is ↦ or_left _ _ (subst (λ n. takes_part es n j ≡ true) (sym (eqb-true _ _ is)) second)
  | inr is ↦ or_right _ _ (subst (λ n. takes_part es n j ≡ true) (sym (eqb-true _ _ is)) second)
]

-- what holds of both last exchanges holds of each predecessor, and the other way round
both_there : (P : ℕ → Type 0) (a b : ℕ) (same : Bool) → (a == b) ≡ same → All P (a ∷ as_list (if same then None else Some b)) → P b
both_there P a b true is all = subst P (eqb-true a b is) (All-head P a [] all)
both_there P a b false is all = All-head P b [] (All-tail P a (b ∷ []) all)

told_of_both : (P : ℕ → Type 0) (first second : Option ℕ) → All P (as_list first ++ as_list (unless_same first second)) → ((k : ℕ) → first ≡ Some k → P k) × ((k : ℕ) → second ≡ Some k → P k)
told_of_both P None None all = (λ k is. absurd (none-some k is), λ k is. absurd (none-some k is))
told_of_both P None (Some b) all = (λ k is. absurd (none-some k is), λ k is. subst P (same_Some b k is) (All-head P b [] all))
told_of_both P (Some a) None all = (λ k is. subst P (same_Some a k is) (All-head P a [] all), λ k is. absurd (none-some k is))
told_of_both P (Some a) (Some b) all =
    (λ k is. subst P (same_Some a k is) (All-head P a (as_list (unless_same (Some a) (Some b))) all), λ k is. subst P (same_Some b k is) (both_there P a b (a == b) refl all))

both_each : (P : ℕ → Type 0) (a b : ℕ) (same : Bool) → P a → P b → All P (a ∷ as_list (if same then None else Some b))
both_each P a b true of_a of_b = All-cons P a [] of_a (All-nil P)
both_each P a b false of_a of_b = All-cons P a (b ∷ []) of_a (All-cons P b [] of_b (All-nil P))

told_of_each : (P : ℕ → Type 0) (first second : Option ℕ) → ((k : ℕ) → first ≡ Some k → P k) → ((k : ℕ) → second ≡ Some k → P k) → All P (as_list first ++ as_list (unless_same first second))
told_of_each P None None of_first of_second = All-nil P
told_of_each P None (Some b) of_first of_second = All-cons P b [] (of_second b refl) (All-nil P)
told_of_each P (Some a) None of_first of_second = All-cons P a [] (of_first a refl) (All-nil P)
told_of_each P (Some a) (Some b) of_first of_second = both_each P a b (a == b) (of_first a refl) (of_second b refl)

-- each predecessor is an earlier exchange that shares a node
pub predecessors_earlier : (es : List Exchange) (P : ℕ → Type 0) (i : ℕ) → ((j : ℕ) → j < i → share_node es i j ≡ true → P j) → All P (predecessors es i)
predecessors_earlier es P i earlier =
    told_of_each P (last_before es (exchange_at es i).initiator i) (last_before es (exchange_at es i).responder i)
    (λ k is. let last = last_before-is es (exchange_at es i).initiator i k is in earlier k last.0 (or_left (takes_part es (exchange_at es i).initiator k) (takes_part es (exchange_at es i).responder k) last.1))
    (λ k is. let last = last_before-is es (exchange_at es i).responder i k is in earlier k last.0 (or_right (takes_part es (exchange_at es i).initiator k) (takes_part es (exchange_at es i).responder k) last.1))

-- what passes down to earlier exchanges that share a node, and holds of the predecessors, holds of all those
module _ (es : List Exchange) (P : ℕ → Type 0) (i : ℕ) (down : (k j : ℕ) → k < i → j < k → P k → share_node es k j ≡ true → P j) where
  told_on : (node j : ℕ) → ((k : ℕ) → last_before es node i ≡ Some k → P k) → j < i → takes_part es node j ≡ true → P j
  told_on node j last below takes =
      let reached = last_before-reaches es node i j below takes in
      let is = last_before-is es node i reached.0 reached.1 in
      elim (cases_eq j reached.0) [
        | inl here ↦ subst P (sym here) (last reached.0 reached.1)
        | inr other ↦ down reached.0 j is.0 (omega (arith, reached.2)) (last reached.0 reached.1) (share_from es node reached.0 j is.1 takes)
      ]

  pub earlier_from_predecessors : All P (predecessors es i) → (j : ℕ) → j < i → share_node es i j ≡ true → P j
  earlier_from_predecessors all j below shared =
      let told = told_of_both P (last_before es (exchange_at es i).initiator i) (last_before es (exchange_at es i).responder i) all in
      elim (or_cases (takes_part es (exchange_at es i).initiator j) (takes_part es (exchange_at es i).responder j) shared) [
        | inl takes ↦ told_on (exchange_at es i).initiator j told.0 below takes
        | inr takes ↦ told_on (exchange_at es i).responder j told.1 below takes
      ]
