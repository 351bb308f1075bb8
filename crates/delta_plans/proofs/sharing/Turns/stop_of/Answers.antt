use Rattle.delta_plans.proofs.Common.{◌≡◌, ◌∙◌, arith, marks, weight_to, weights_in}
use Rattle.delta_plans.proofs.TurnSteps.{stop-first, stop-halved}
use Rattle.delta_plans.proofs.sharing.Turns.stop_of.Goals as goal

pub loop-middle-init : goal.loop-middle-init
loop-middle-init g c =
    let near : c.widen-fits.result ≡ marks g.N.Number.number c.args.self.now.near.now c.args.owner = omega (arith, c.number_at.ensures) in
    let far : c.widen-beyond.result ≡ marks g.N.Number.number c.args.self.now.far.now c.args.owner = omega (arith, c.number_at-2.ensures) in
    record {
      so_far = rw (near, far) (stop-first c.args.self.now.first (c.requires.turns.level.farther c.args.owner c.requires.owner).1 c.requires.beyond);
      fits = omega (arith, c.widen-fits.ensures, c.min_with.ensures, c.greatest-most.ensures);
      beyond = omega (arith, c.widen-beyond.ensures, c.min_with-2.ensures, c.greatest-most.ensures);
    }

pub loop-middle-preserved-then-weight-left : goal.loop-middle-preserved-then-weight-left
loop-middle-preserved-then-weight-left g c =
    let self = c.args.self.now in
    let takes = c.weight_from-weight.ensures ∙ (λ i. weight_to g.N.Number.number (weights_in self.offer.now c.args.owner) self c.args.owner
    (c.narrow.ensures i) (c.narrow-in-loop-middle.ensures i)) in
    let halved = stop-halved c.args.self.now.first c.loop-middle.invariant.so_far _ (omega (arith, c.min.ensures))
    (omega (arith, c.min.ensures, c.abs_diff-in-loop-middle.ensures)) takes in
    record { so_far = halved.0 c.if-weight-left.true; fits = omega (arith, c.min.ensures); beyond = omega (arith, c.min.ensures) }

pub weight_from-weight-requires : goal.weight_from-weight-requires
weight_from-weight-requires g c = record { is_offer = c.requires.turns.offer; in_nodes = c.requires.owner }
