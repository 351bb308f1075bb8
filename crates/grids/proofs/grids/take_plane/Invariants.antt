use Rattle.grids.proofs.Common.{◌≡◌, max, slice_index, map, AreChangedUpto, taken_by}
use Rattle.grids.proofs.grids.take_plane.Given as goal

abbrev pub invariant-loop-r : goal.invariant-loop-r
invariant-loop-r g l =
    let number = g.N.Number.number in let old = map number l.initial.plane in
    record {
      plane : AreChangedUpto (λ r x y. y ≡ taken_by number l.sent r l.key x) old (map number l.plane) l.r;
      greatest : AreChangedUpto (λ r x y. y ≡ max x (taken_by number l.sent r l.key (slice_index old r)))
          (map number l.initial.greatest) (map number l.greatest) l.r;
    }
