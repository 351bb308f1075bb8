use Rattle.planes.proofs.Common.{◌≡◌, ℕ, ◌+◌, ◌*◌, ◌<◌, map, HasEach, IsLeastOf}
use Rattle.planes.proofs.grids.least_of.Given as goal

abbrev pub invariant-loop-key : goal.invariant-loop-key
invariant-loop-key g l = (values : ℕ → ℕ → ℕ) → ((at r : ℕ) (n : g.row.N.Denot) → at < l.size.keys * l.size.nodes → r < l.size.nodes
    → goal.F-post g l.value at r n → g.N.Number.number n ≡ values at r)
    → HasEach l.size.nodes (λ r n. IsLeastOf g.N.Number.most (λ k. values (k * l.size.nodes + r) r) l.key n) (map g.N.Number.number l.all)
