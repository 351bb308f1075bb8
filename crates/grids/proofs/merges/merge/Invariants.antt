use Rattle.grids.proofs.Common.{◌*◌, ◌≤◌, map, MOST_NODES}
use Rattle.grids.proofs.Counted.{AreMergedUpto}
use Rattle.grids.proofs.merges.merge.Given as goal

abbrev pub invariant-loop-key : goal.invariant-loop-key
invariant-loop-key g l =
    let one = map g.N.Number.number l.initial.first in let other = map g.N.Number.number l.initial.second in
    record {
      upto : (l.to_first ≤ l.key * MOST_NODES) × (l.to_second ≤ l.key * MOST_NODES);
      first : AreMergedUpto l.marks.size.nodes other (map g.N.Number.number l.marks.first.now) one (map g.N.Number.number l.first) l.key l.to_first;
      second : AreMergedUpto l.marks.size.nodes one (map g.N.Number.number l.marks.second.now) other (map g.N.Number.number l.second) l.key l.to_second;
    }
