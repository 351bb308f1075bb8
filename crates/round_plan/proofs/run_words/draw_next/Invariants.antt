use Rattle.round_plan.proofs.Streams.{HaveDrawnUpto}
use Rattle.round_plan.proofs.run_words.draw_next.Given as goal

abbrev pub invariant-loop-part : goal.invariant-loop-part
invariant-loop-part l = HaveDrawnUpto l.initial.part-items l.part-items l.part-index
