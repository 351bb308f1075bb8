use Rattle.planes.proofs.Common.{map, AreChangedUpto, IsMade}
use Rattle.planes.proofs.planes.change.Given as goal

abbrev pub invariant-loop-r : goal.invariant-loop-r
invariant-loop-r g l =
    AreChangedUpto (IsMade g.N.Number.number (goal.F-post g l.to)) (map g.N.Number.number l.initial.numbers) (map g.N.Number.number l.numbers) l.r
