use Rattle.planes.proofs.Common.{ℕ, ◌+◌, ◌≤◌, Bool, length, slice_index, map, AnswersAs, count_passing, ◌≡◌}
use Rattle.planes.proofs.planes.how_many_of.Given as goal

abbrev pub invariant-loop-i : goal.invariant-loop-i
invariant-loop-i g l = record {
  upto : g.N.Number.number l.count ≤ l.i;
  count : (test : ℕ → ℕ → Bool) → AnswersAs g.N.Number.number (goal.F-post g l.passes) (length l.plane) test
      → (count : ℕ) → count ≡ count_passing l.from (λ r. test r (slice_index (map g.N.Number.number l.plane) r))
      → count + g.N.Number.number l.count ≡ count_passing (l.from + l.i) (λ r. test r (slice_index (map g.N.Number.number l.plane) r));
}
