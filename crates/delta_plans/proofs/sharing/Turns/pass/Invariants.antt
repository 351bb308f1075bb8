use Rattle.delta_plans.proofs.Common.{◌≡◌, ◌+◌, HasReached}
use Rattle.delta_plans.proofs.sharing.Turns.pass.Given as goal

abbrev pub invariant-loop-i : goal.invariant-loop-i
invariant-loop-i g l = record { so_far : HasReached g.N.Number.number l.self l.mark l.passed; turn : l.passed.turn ≡ l.fn.reached.turn + l.i }
