use Rattle.runs.proofs.Common.{◌∙◌, inl, inr, refl, ap, sym, subst, arith}
use Rattle.runs.specs.inner.Rounds.{AnswersRounds, IsFaultInTurn}
use Rattle.runs.proofs.Turns.{answers_fault, stops_at_first}
use Rattle.runs.proofs.rounds.write_over.Goals as goal
use Rattle.bench_types.specs.declared.faults.Fault.TheVariants.{NoThread}

pub returns-in_err-posts : goal.returns-in_err-posts
returns-in_err-posts g c =
    answers_fault g.O.RoundWriter.wrote g.O.RoundWriter.stops _ _ _ _ _ c.in_err-posts.field-0.0 c.from_residual.ensures.1
    (stops_at_first g.O.RoundWriter.wrote g.O.RoundWriter.stops _ _ _ _ (omega (arith, c.rounds-rounds.ensures.limits))
    (inl c.in_err-posts.ensures.only))

pub returns-in-Err : goal.returns-in-Err
returns-in-Err g c =
    answers_fault g.O.RoundWriter.wrote g.O.RoundWriter.stops _ _ _ _ _ NoThread refl
    (subst (λ now. IsFaultInTurn g.O.RoundWriter.wrote g.O.RoundWriter.stops c.args.scenario c.args.output.now now c.args.resources.now.hands.workers NoThread)
    (ap (λ lent. lent.output.now) (sym c.in-Err.ensures.back) ∙ sym c.take_back-in-Err.ensures ∙ grind arith)
    (stops_at_first g.O.RoundWriter.wrote g.O.RoundWriter.stops _ c.args.output.now _ NoThread (omega (arith, c.rounds-rounds.ensures.limits))
    (inr (refl, omega (arith, c.in-Err.ensures.several, c.in_ok-posts.ensures.workers)))))

pub returns-in-Ok : goal.returns-in-Ok
returns-in-Ok g c =
    let came = c.in-Ok.field-0 in
    subst (λ now. AnswersRounds g.O.RoundWriter.wrote g.O.RoundWriter.stops c.args.scenario c.args.output.now now c.args.resources.now.hands.workers came.held)
    (sym c.take_back.ensures ∙ grind arith)
    (subst (λ workers. AnswersRounds g.O.RoundWriter.wrote g.O.RoundWriter.stops c.args.scenario c.args.output.now came.output.now workers came.held)
    c.in_ok-posts.ensures.workers c.in-Ok.ensures.done.1)
