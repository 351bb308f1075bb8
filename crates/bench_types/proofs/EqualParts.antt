-- Work that is shared out in parts of one size.
-- Serves `staleness`.
use Rattle.std.proofs.Common.{◌≡◌, ℕ, zero, suc, ◌+◌, ◌*◌, ◌/◌, ◌<◌, ◌≤◌, List, [], ◌∷◌, get_or, subst, arith}
use Rattle.std.specs.List.{AllZip, range_with_len}
use Rattle.std.proofs.Math.Nat.{lt-div-mul-add}
use Rattle.limits.proofs.Sums.{one_more}

-- what a list has for each number of a range stands at its place
pub at_place : {X : Type 0} (R : ℕ → X → Type 0) (from n : ℕ) (parts : List X) → AllZip R (range_with_len from n) parts → (k : ℕ) (d : X) → k < n
    → R (from + k) (get_or parts k d)
at_place R from zero parts each k d lt = absurd (omega arith)
at_place R from (suc n) [] each k d lt = absurd each
at_place R from (suc n) (f ∷ fs) each zero d lt = let same : from ≡ from + 0 = omega arith in subst (λ m. R m f) same each.0
at_place R from (suc n) (f ∷ fs) each (suc k) d lt =
    let same : from + 1 + k ≡ from + suc k = omega arith in
    subst (λ m. R m (get_or fs k d)) same (at_place R (from + 1) n fs each.1 k d (omega arith))

-- so many parts of a size are enough
pub enough : (n size : ℕ) → 1 ≤ size → n ≤ (n / size + 1) * size
enough n size some = omega (arith, lt-div-mul-add {a = n} {b = size} some, one_more (n / size) size)
