use Rattle.grids.proofs.Common.{ℕ, ◌+◌, ◌≤◌, List, map, AreRaisedUpto}
use Rattle.grids.proofs.merges.merge_some.Given as goal

abbrev pub invariant-loop-i : goal.invariant-loop-i
invariant-loop-i g l =
    let number = g.N.Number.number in
    record {
      upto : (number l.to_first ≤ l.i) × (number l.to_second ≤ l.i);
      done : (one other : List ℕ) (to_first to_second : ℕ) → AreRaisedUpto other (map number l.marks.first.now) one (map number l.initial.first) l.from to_first
          → AreRaisedUpto one (map number l.marks.second.now) other (map number l.initial.second) l.from to_second
          → AreRaisedUpto other (map number l.marks.first.now) one (map number l.first) (l.from + l.i) (to_first + number l.to_first)
          × AreRaisedUpto one (map number l.marks.second.now) other (map number l.second) (l.from + l.i) (to_second + number l.to_second);
    }
