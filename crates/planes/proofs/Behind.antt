-- The least of an owner's numbers that pass a test, key by key.
-- Serves `least_above`, `least_of` and `grids`.
use Rattle.planes.proofs.Common.{◌≡◌, ℕ, zero, suc, ◌+◌, ◌<◌, ◌≤◌, min, cond, nat_lt, List, ◌⊎◌, inl, inr, sym, ◌∙◌, arith, below_more, nat_tests, cases_lt, IsLeastOf, Cells, HasEach, HasNoneAbove, IsNextAbove, IsLeastAbove}

-- one value more, to which the least one is lowered
pub least-more : (most key x y : ℕ) (values : ℕ → ℕ) → IsLeastOf most values key x → y ≡ min x (values key) → values key ≤ most → IsLeastOf most values (key + 1) y
least-more most key x y values before lowered fits = record {
  upto = omega arith;
  fits = below_more (λ k. values k ≤ most) key before.fits fits;
  no_less = below_more (λ k. y ≤ values k) key (λ k lt. omega (arith, before.no_less k lt)) (omega arith);
  is = elim (cases_lt (values key) x) [
    | inl lower ↦ inr (key, omega arith, omega arith)
    | inr not_lower ↦
        let same : x ≡ y = omega arith in
        elim before.is [ inl none ↦ inl (sym same ∙ none) | inr found ↦ inr (found.0, omega arith, found.2 ∙ same) ]
  ];
}

-- numbers that are each what another relation says too
pub each-turned : (nodes : ℕ) (is other : ℕ → ℕ → Type 0) (xs : List ℕ) → HasEach nodes is xs → ((r n : ℕ) → is r n → other r n) → HasEach nodes other xs
each-turned nodes is other xs before turn = record { size = before.size; each = λ r lt. turn r _ (before.each r lt) }

-- of those above a mark
some_above : (cells : Cells) (owner mark keys : ℕ) → HasNoneAbove cells keys owner mark ⊎ ((k : ℕ) × (k < keys) × (mark < cells owner k))
some_above cells owner mark zero = inl (λ k lt. absurd (omega arith))
some_above cells owner mark (suc keys) = elim (cases_lt mark (cells owner keys)) [
  | inl above ↦ inr (keys, omega arith, above)
  | inr not_above ↦ elim (some_above cells owner mark keys) [
    | inr some ↦ inr (some.0, omega arith, some.2)
    | inl none ↦ inl (λ k lt. below_more (λ k. cells owner k ≤ mark) keys none not_above k (omega arith))
  ]
]

pub least_is-above : (most : ℕ) (cells : Cells) (keys owner mark least : ℕ) → IsLeastOf most (λ k. cond (nat_lt mark (cells owner k)) (cells owner k) most) keys least → IsNextAbove most cells keys owner mark least
least_is-above most cells keys owner mark least is = elim is.is [
  | inl all ↦ by_most all
  | inr (k, lt, here) ↦ elim (cases_lt mark (cells owner k)) [
    | inl over ↦ inr (found k lt over (grind (arith, nat_tests)))
    | inr not_over ↦ by_most (grind (arith, nat_tests))
  ]
]
  where
    found : (k : ℕ) → k < keys → mark < cells owner k → cells owner k ≡ least → IsLeastAbove cells keys owner mark least
    found k lt over here = record { key = k; below = lt; is = here; above = omega arith; no_less = λ j le over. grind (arith, nat_tests, is.no_less j le) }

    by_most : least ≡ most → IsNextAbove most cells keys owner mark least
    by_most all = elim (some_above cells owner mark keys) [
      | inl none ↦ inl (none, all)
      | inr (k, lt, over) ↦ let less = is.no_less k lt in let fits = is.fits k lt in inr (found k lt over (grind (arith, nat_tests)))
    ]
