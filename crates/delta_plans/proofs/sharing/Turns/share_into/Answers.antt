use Rattle.delta_plans.proofs.Common.{◌∙◌, sym, arith, length-take-le}
use Rattle.delta_plans.proofs.TurnSteps.{turns-end}
use Rattle.delta_plans.proofs.sharing.Turns.share_into.Goals as goal

pub unreachable-requires : goal.unreachable-requires
unreachable-requires g c = turns-end c.requires.turns c.loop-reached.invariant.so_far c.loop-reached-test.false

pub loop-reached-preserved : goal.loop-reached-preserved
loop-reached-preserved g c = record { so_far = c.in_default.ensures.reached }

pub pass-requires : goal.pass-requires
pass-requires g c =
    let long = c.count_parts.auto.counts
    ∙ length-take-le c.min-size.result _ (omega (arith, c.min-size.ensures, c.requires.counts, c.loop-reached.auto.counts)) in
    record {
      turns = record {
        are = c.requires.turns;
        has_reached = c.loop-reached.invariant.so_far;
        turn = c.owner_of_turn-owner.ensures.turn;
        in_nodes = omega (arith, long, c.min-size.ensures, c.max.ensures, c.owner_of_turn-owner.ensures.below);
        in_turns = omega (arith, long, c.min-size.ensures, c.max.ensures, c.loop-reached-test.true);
        parts = rw c.count_parts.auto.counts c.count_parts.ensures;
      };
    }

pub loop-reached-smaller : goal.loop-reached-smaller
loop-reached-smaller g c =
    let long = c.count_parts.auto.counts
    ∙ length-take-le c.min-size.result _ (omega (arith, c.min-size.ensures, c.requires.counts, c.loop-reached.auto.counts)) in
    omega (arith, long, c.in_default.ensures.turn, c.min-size.ensures, c.max.ensures, c.owner_of_turn-owner.ensures.below, c.loop-reached-test.true)

pub slice_bounds-parts-end-in-loop-reached : goal.slice_bounds-parts-end-in-loop-reached
slice_bounds-parts-end-in-loop-reached g c =
    sym (length-take-le c.min-size.result _ (omega (arith, c.min-size.ensures, c.requires.counts, c.loop-reached.auto.counts)))
