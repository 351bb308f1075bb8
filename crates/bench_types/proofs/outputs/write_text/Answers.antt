use Rattle.std.proofs.Common.{◌∙◌, refl, ap, arith}
use Rattle.std.proofs.lemmas.Bool.{both_ways}
use Rattle.std.proofs.lemmas.Grind.{common_steps}
use Rattle.bench_types.proofs.Sinking.{cut_here, up_to_more}
use Rattle.bench_types.proofs.outputs.write_text.Goals as goal

pub loop-rest-preserved : goal.loop-rest-preserved
loop-rest-preserved g c =
    let so_far = c.loop-rest.invariant in
    let more = up_to_more _ _ _ _ _ c.in-Ok.count so_far.0 c.in-Ok.ensures.appends in
    (rw c.split_at.ensures.back more, λ failed. absurd (both_ways _ refl (c.in-Ok.ensures.stays (ap g.W.Sink.failed (so_far.1 failed) ∙ failed)).0))

pub returns-in-Err-clause-cut : goal.returns-in-Err-clause-cut
returns-in-Err-clause-cut g c =
    let so_far = c.loop-rest.invariant in
    cut_here g.W.Sink _ _ _ _ _ so_far.0 so_far.1 c.in-Err.ensures.kept c.in-Err.ensures.fails c.in-Err.ensures.stays

pub returns-in-Err-flush-clause-cut : goal.returns-in-Err-flush-clause-cut
returns-in-Err-flush-clause-cut g c =
    let so_far = c.loop-rest.invariant in
    cut_here g.W.Sink _ _ _ _ _ so_far.0 so_far.1 c.flush.ensures.kept c.in-Err-flush.ensures.fails c.flush.ensures.stays

pub returns-in-Ok-flush-clause-written : goal.returns-in-Ok-flush-clause-written
returns-in-Ok-flush-clause-written g c = grind (arith, common_steps)
