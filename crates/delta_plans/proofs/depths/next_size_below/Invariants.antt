use Rattle.delta_plans.proofs.Common.{ℕ, ◌<◌, ◌≤◌, marks}
use Rattle.delta_plans.proofs.depths.next_size_below.Given as goal

abbrev pub invariant-loop-r : goal.invariant-loop-r
invariant-loop-r g l =
    let number = g.N.Number.number in
    record { below : number l.longest < l.bound; none : (r : ℕ) → r < l.r → marks number l.counts r < l.bound → marks number l.counts r ≤ number l.longest }
