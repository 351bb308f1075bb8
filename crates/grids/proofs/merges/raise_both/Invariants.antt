use Rattle.grids.proofs.Common.{◌≡◌, max, slice_index, map, AreChangedUpto}
use Rattle.grids.proofs.merges.raise_both.Given as goal

abbrev pub invariant-loop-r : goal.invariant-loop-r
invariant-loop-r g l =
    let one = map g.N.Number.number l.initial.first in let other = map g.N.Number.number l.initial.second in
    record {
      first : AreChangedUpto (λ r x y. y ≡ max x (slice_index other r)) one (map g.N.Number.number l.first) l.r;
      second : AreChangedUpto (λ r x y. y ≡ max x (slice_index one r)) other (map g.N.Number.number l.second) l.r;
    }
