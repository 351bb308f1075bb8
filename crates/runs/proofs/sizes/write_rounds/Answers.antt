use Rattle.runs.proofs.Turns.{answers_of_fewer}
use Rattle.runs.proofs.sizes.write_rounds.Goals as goal

pub returns : goal.returns
returns g c =
    answers_of_fewer g.O.RoundWriter.wrote g.O.RoundWriter.stops _ _ _ c.workers_worth.result _ _ c.workers_worth.ensures.within c.write_in_few_bits.ensures
