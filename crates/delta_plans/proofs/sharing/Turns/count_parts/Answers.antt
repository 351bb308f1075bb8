use Rattle.delta_plans.proofs.Common.{◌≡◌, ℕ, ◌+◌, List, Cells, count_between, HasEach, First, Oldest, Newest, by_first, cells_in, marks, weight_from}
use Rattle.delta_plans.proofs.sharing.Turns.count_parts.Goals as goal

-- a part has as many numbers as lie between the two marks that go first
counted : {N : Type 0} (number : N → ℕ) (cells : Cells) (keys size start : ℕ) (first : First) (near far : List N) (xs : List ℕ)
    → HasEach size (λ r n. n ≡ count_between cells keys (start + r) (marks number (by_first first near far) (start + r))
    (marks number (by_first first far near) (start + r))) xs
    → HasEach size (λ r n. n ≡ weight_from first (λ _. 1) cells keys (start + r) (marks number near (start + r)) (marks number far (start + r))) xs
counted number cells keys size start Oldest near far xs has = has
counted number cells keys size start Newest near far xs has = has

pub returns : goal.returns
returns g c =
    let self = c.args.self.now in
    counted g.N.Number.number (cells_in g.N.Number.number self.offer.now) self.offer.now.grid.size.keys _ c.args.owner self.first
    self.near.now self.far.now _ (rw (c.by_first-low.ensures, c.by_first-high.ensures) at c.count_some_between.ensures)
