use Rattle.round_plan.proofs.Common.{ap, ◌∙◌, next_word}
use Rattle.round_plan.specs.Words.{word_by}
use Rattle.round_plan.proofs.words.draw.Goals as goal

pub returns : goal.returns
unfolding word_by
returns c = ap (λ p. p.0) c.next_word.ensures ∙ ap (λ g. (next_word 10 g).0) c.stream_at.ensures
