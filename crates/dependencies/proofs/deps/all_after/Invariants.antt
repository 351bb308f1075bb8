use Rattle.dependencies.proofs.Passes.{IsBackward}
use Rattle.dependencies.proofs.deps.all_after.Given as goal

abbrev pub invariant-loop-i : goal.invariant-loop-i
invariant-loop-i l = IsBackward l.exchanges l.nodes l.i l.next.items l.after.items
