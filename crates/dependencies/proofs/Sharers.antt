-- Exchanges that share a node.
-- Serves `Lawful`, `Moves` and `board`.
use Rattle.dependencies.proofs.Common.{◌≡◌, ◌≢◌, ◌∙◌, ℕ, ◌⊎◌, true, false, ◌==◌, List, inl, inr, refl, sym, subst, or_cases, or_left, or_right, eqb-true, eq-eqb, false≢true, Exchange}
use Rattle.dependencies.specs.Sharing.{exchange_at, takes_part, share_node}
use Rattle.dependencies.proofs.Predecessors.{share_from}

-- a node that takes part is one of the two
pub part_cases : (es : List Exchange) (node i : ℕ) → takes_part es node i ≡ true → ((exchange_at es i).initiator ≡ node) ⊎ ((exchange_at es i).responder ≡ node)
part_cases es node i part = elim (or_cases ((exchange_at es i).initiator == node) ((exchange_at es i).responder == node) part) [
  | inl first ↦ inl (eqb-true (exchange_at es i).initiator node first)
  | inr second ↦ inr (eqb-true (exchange_at es i).responder node second)
]

pub initiator_part : (es : List Exchange) (i : ℕ) → takes_part es (exchange_at es i).initiator i ≡ true
initiator_part es i = or_left ((exchange_at es i).initiator == (exchange_at es i).initiator) ((exchange_at es i).responder == (exchange_at es i).initiator) (eq-eqb (exchange_at es i).initiator (exchange_at es i).initiator refl)

pub responder_part : (es : List Exchange) (i : ℕ) → takes_part es (exchange_at es i).responder i ≡ true
responder_part es i = or_right ((exchange_at es i).initiator == (exchange_at es i).responder) ((exchange_at es i).responder == (exchange_at es i).responder) (eq-eqb (exchange_at es i).responder (exchange_at es i).responder refl)

-- what shares a node has one in common
pub share_common : (es : List Exchange) (i j : ℕ) → share_node es i j ≡ true → (node : ℕ) × (takes_part es node i ≡ true) × (takes_part es node j ≡ true)
share_common es i j share = elim (or_cases (takes_part es (exchange_at es i).initiator j) (takes_part es (exchange_at es i).responder j) share) [
  | inl first ↦ ((exchange_at es i).initiator, initiator_part es i, first)
  | inr second ↦ ((exchange_at es i).responder, responder_part es i, second)
]

pub share_sym : (es : List Exchange) (i j : ℕ) → share_node es i j ≡ true → share_node es j i ≡ true
share_sym es i j share =
    let common = share_common es i j share in
    share_from es common.0 j i common.2 common.1

-- a node that doesn't take part is neither of the two
pub not_initiator : (es : List Exchange) (node i : ℕ) → takes_part es node i ≡ false → node ≢ (exchange_at es i).initiator
not_initiator es node i none is = false≢true (sym none ∙ subst (λ n. takes_part es n i ≡ true) (sym is) (initiator_part es i))

pub not_responder : (es : List Exchange) (node i : ℕ) → takes_part es node i ≡ false → node ≢ (exchange_at es i).responder
not_responder es node i none is = false≢true (sym none ∙ subst (λ n. takes_part es n i ≡ true) (sym is) (responder_part es i))
