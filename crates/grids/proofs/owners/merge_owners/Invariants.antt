use Rattle.grids.proofs.Common.{◌*◌, ◌≤◌, slice_index, map, MOST_KEYS}
use Rattle.grids.proofs.ByOwner.{HaveCome}
use Rattle.grids.proofs.owners.merge_owners.Given as goal

abbrev pub invariant-loop-owner : goal.invariant-loop-owner
invariant-loop-owner g l =
    let number = g.N.Number.number in let size = l.marks.size in let one = map number l.initial.first in let other = map number l.initial.second in
    record {
      upto : (l.to_first ≤ l.owner * MOST_KEYS) × (l.to_second ≤ l.owner * MOST_KEYS);
      first : HaveCome size.nodes size.keys other (slice_index (map number l.marks.first.now)) one (map number l.first) l.owner l.to_first;
      second : HaveCome size.nodes size.keys one (slice_index (map number l.marks.second.now)) other (map number l.second) l.owner l.to_second;
    }
