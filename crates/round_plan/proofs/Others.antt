-- The others of a node in ascending order: those below it stand at their own number, those above it one earlier.
-- Serves `peer_by` and `Planned`.
use Rattle.round_plan.proofs.Common.{◌≡◌, ◌==◌, ℕ, zero, suc, ◌+◌, ◌<◌, ◌≤◌, Bool, true, false, not, List, ◌∷◌, get_or, cond, refl, ap, ◌∙◌, inl, inr, arith, range_with_len, filter, cases_lt, nat_tests, get_or-range_with_len}
use Rattle.round_plan.specs.Peer.{others}

abbrev is_other : ℕ → ℕ → Bool
is_other node n = not (n == node)

abbrev kept : ℕ → ℕ → ℕ → List ℕ
kept node a n = filter (is_other node) (range_with_len a n)

takes : (node a n : ℕ) → is_other node a ≡ true → kept node a (suc n) ≡ a ∷ kept node (a + 1) n
takes node a n other = ap (λ b. cond b (a ∷ kept node (a + 1) n) (kept node (a + 1) n)) other

leaves : (node a n : ℕ) → is_other node a ≡ false → kept node a (suc n) ≡ kept node (a + 1) n
leaves node a n same = ap (λ b. cond b (a ∷ kept node (a + 1) n) (kept node (a + 1) n)) same

behind : (node a n : ℕ) → node < a → kept node a n ≡ range_with_len a n
behind node a zero lt = refl
behind node a (suc n) lt = takes node a n (grind (arith, nat_tests)) ∙ ap (λ xs. a ∷ xs) (behind node (a + 1) n (omega arith))

below : (node a n i : ℕ) → a + i < node → i < n → get_or (kept node a n) i 0 ≡ a + i
below node a zero i less within = absurd (omega arith)
below node a (suc n) zero less within = ap (λ xs. get_or xs 0 0) (takes node a n (grind (arith, nat_tests))) ∙ omega arith
below node a (suc n) (suc i) less within =
    ap (λ xs. get_or xs (suc i) 0) (takes node a n (grind (arith, nat_tests)))
    ∙ below node (a + 1) n i (omega arith) (omega arith)
    ∙ omega arith

at_node : (node a n i : ℕ) → a ≡ node → i < n → get_or (kept node a (suc n)) i 0 ≡ a + i + 1
at_node node a n i here within =
    ap (λ xs. get_or xs i 0) (leaves node a n (grind (arith, nat_tests)) ∙ behind node (a + 1) n (omega arith))
    ∙ get_or-range_with_len (a + 1) n i 0 within
    ∙ omega arith

above : (node a n i : ℕ) → a ≤ node → node ≤ a + i → i + 1 < n → get_or (kept node a n) i 0 ≡ a + i + 1
above node a zero i low high within = absurd (omega arith)
above node a (suc n) zero low high within = at_node node a n zero (omega arith) (omega arith)
above node a (suc n) (suc i) low high within =
    elim (cases_lt a node) [
      | inl before ↦
          ap (λ xs. get_or xs (suc i) 0) (takes node a n (grind (arith, nat_tests)))
          ∙ above node (a + 1) n i (omega arith) (omega arith) (omega arith)
          ∙ omega arith
      | inr here ↦ at_node node a n (suc i) (omega arith) (omega arith)
    ]

pub other_below : (nodes node place : ℕ) → place < node → node < nodes → get_or (others nodes node) place 0 ≡ place
other_below nodes node place less within = below node 0 nodes place (omega arith) (omega arith) ∙ omega arith

pub other_above : (nodes node place : ℕ) → node ≤ place → place + 1 < nodes → get_or (others nodes node) place 0 ≡ place + 1
other_above nodes node place more within = above node 0 nodes place (omega arith) (omega arith) within ∙ omega arith
