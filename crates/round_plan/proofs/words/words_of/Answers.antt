use Rattle.round_plan.proofs.Streams.{words_next}
use Rattle.round_plan.proofs.words.words_of.Goals as goal

pub returns : goal.returns
returns c = words_next c.args.scenario.now.seed c.args.node c.args.round c.stream_at.result c.next_words.result c.stream_at.ensures c.next_words.ensures.words
