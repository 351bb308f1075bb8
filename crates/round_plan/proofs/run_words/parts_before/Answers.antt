use Rattle.round_plan.proofs.Common.{◌+◌, ◌∙◌, ap}
use Rattle.std.proofs.lemmas.List.{length_push}
use Rattle.round_plan.proofs.Streams.{stand_more}
use Rattle.round_plan.proofs.run_words.parts_before.Goals as goal

pub loop-node-preserved : goal.loop-node-preserved
loop-node-preserved c =
    let so_far = c.loop-node.invariant in
    rw c.in_ok-push.ensures.items (
      length_push c.loop-node.parts.items _ ∙ ap (λ n. n + 1) so_far.0,
      stand_more c.args.scenario.now.seed c.args.round c.loop-node.node c.loop-node.parts.items _ so_far.0 so_far.1 c.stream_at.ensures,
    )
