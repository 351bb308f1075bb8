use Rattle.runs.proofs.Turns.{HaveRun}
use Rattle.runs.proofs.rounds.write_all.Given as goal

abbrev pub invariant-loop-done : goal.invariant-loop-done
invariant-loop-done g l =
    HaveRun g.O.RoundWriter.wrote g.O.RoundWriter.stops l.scenario l.fn.output g.T.MemoryTable.table g.K.RoundHistories.kept l.output l.cluster l.done
