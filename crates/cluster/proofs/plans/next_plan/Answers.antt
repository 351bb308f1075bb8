use Rattle.cluster.proofs.Common.{◌≡◌, ◌+◌, ◌-◌, ap, ◌∙◌, arith, RunWordsView, run_words_of}
use Rattle.cluster.proofs.plans.next_plan.Goals as goal

pub next_round-requires : goal.next_round-requires
next_round-requires g c = omega (arith, ap (λ (v : RunWordsView). v.round) c.requires.words, c.requires.first, c.requires.last)

-- the words of the round
pub round_list_by-requires-clause-words : goal.round_list_by-requires-clause-words
round_list_by-requires-clause-words g c _ _ =
    let e : c.args.of.round - 1 + 1 ≡ c.args.of.round = omega (arith, c.requires.first) in
    c.next_round.ensures ∙ ap (λ (v : RunWordsView). record v { round = v.round + 1 }) c.requires.words ∙ ap (run_words_of c.args.of.scenario.now) e
