use Rattle.grids.proofs.Common.{◌-◌, ◌≤◌, length, map, AreRaisedUpto}
use Rattle.grids.proofs.merges.merge_planes.Given as goal

abbrev pub invariant-loop-first : goal.invariant-loop-first
invariant-loop-first g l =
    let number = g.N.Number.number in let one = map number l.initial.first in let other = map number l.initial.second in
    record {
      within : l.from ≤ length l.initial.first;
      upto : (l.to_first ≤ l.from) × (l.to_second ≤ l.from);
      first : AreRaisedUpto other (map number l.marks.first.now) one (map number l.first) l.from l.to_first;
      second : AreRaisedUpto one (map number l.marks.second.now) other (map number l.second) l.from l.to_second;
    }

abbrev pub decreases-loop-first : goal.decreases-loop-first
decreases-loop-first g l = length l.initial.first - l.from
