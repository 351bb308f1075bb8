use Rattle.std.proofs.Common.{◌≡◌, true, length}
use Rattle.bench_types.proofs.Sinking.{TakesUpTo}
use Rattle.bench_types.proofs.outputs.write_text.Given as goal

abbrev pub invariant-loop-rest : goal.invariant-loop-rest
invariant-loop-rest g l =
    TakesUpTo (g.W.Sink.taken l.initial.writer) (g.W.Sink.taken l.writer) l.text l.rest
    × (g.W.Sink.failed l.initial.writer ≡ true → l.writer ≡ l.initial.writer)

abbrev pub decreases-loop-rest : goal.decreases-loop-rest
decreases-loop-rest g l = length l.rest
