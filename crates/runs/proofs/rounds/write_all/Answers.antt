use Rattle.runs.proofs.Common.{arith, inl, subst}
use Rattle.runs.specs.inner.Rounds.{AreWrittenInTurn}
use Rattle.runs.proofs.InputFacts.{at_fault}
use Rattle.runs.proofs.Turns.{one_more, stops_at_first, stops_next}
use Rattle.runs.proofs.rounds.write_all.Goals as goal

pub returns-in_err-cluster-clause-fault : goal.returns-in_err-cluster-clause-fault
returns-in_err-cluster-clause-fault g c =
    at_fault c.from_residual.result c.in_err-cluster.field-0.0 _ c.from_residual.ensures.1
    (stops_at_first g.O.RoundWriter.wrote g.O.RoundWriter.stops _ _ _ _ (omega (arith, c.rounds-rounds.ensures.limits)) (inl c.in_err-cluster.ensures.only))

pub returns-in_err-cluster-2-clause-fault : goal.returns-in_err-cluster-2-clause-fault
returns-in_err-cluster-2-clause-fault g c =
    at_fault c.from_residual-in_err-cluster-2.result c.in_err-cluster-2.field-0.0 _ c.from_residual-in_err-cluster-2.ensures.1
    (stops_next g.O.RoundWriter.wrote g.O.RoundWriter.stops _ _ _ _ _ _ _ c.loop-done.invariant.written
    (omega (arith, c.loop-done-test.true, c.rounds-done-end.ensures.value)) c.in_err-cluster-2.ensures.fault)

pub loop-done-preserved : goal.loop-done-preserved
loop-done-preserved g c =
    let wrote = c.in_ok-cluster-2.ensures.written in
    one_more g.O.RoundWriter.wrote g.O.RoundWriter.stops _ _ g.T.MemoryTable.table g.K.RoundHistories.kept _ _ _ _ _ c.loop-done.invariant wrote.after wrote.wrote

pub returns-clause-written : goal.returns-clause-written
returns-clause-written g c =
    subst (AreWrittenInTurn g.O.RoundWriter.wrote c.args.scenario.now c.args.output.now c.loop-done.output)
    (omega (arith, c.loop-done-test.false, c.loop-done.auto.done-end, c.rounds-done-end.ensures.value)) c.loop-done.invariant.written
