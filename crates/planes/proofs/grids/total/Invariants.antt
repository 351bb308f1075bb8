use Rattle.planes.proofs.Common.{◌≡◌, ℕ, ◌*◌, ◌≤◌, Bool, map, if◌then◌else◌, sum_below, cell, AnswersAs, MOST_NODES}
use Rattle.planes.proofs.grids.total.Given as goal

abbrev pub invariant-loop-key : goal.invariant-loop-key
invariant-loop-key g l =
    let nodes = l.grid.size.nodes in let cells = cell (map g.N.Number.number l.grid.cells.now) nodes in
    record {
      upto : l.total ≤ l.key * MOST_NODES;
      total : (test : ℕ → ℕ → Bool) → AnswersAs g.N.Number.number (goal.F-post g l.passes) nodes test
          → l.total ≡ sum_below l.key (λ k. sum_below nodes (λ r. if test r (cells r k) then 1 else 0));
    }
