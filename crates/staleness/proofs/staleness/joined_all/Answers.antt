use Rattle.staleness.proofs.Common.{◌*◌, sym, subst, arith, Figures}
use Rattle.staleness.specs.inner.Totals.{found_at, AreFew}
use Rattle.staleness.proofs.Totals.{room, total_few}
use Rattle.staleness.proofs.staleness.joined_all.Goals as goal

pub joined-total-requires : goal.joined-total-requires
joined-total-requires c =
    let parts = c.args.parts.now in
    let at = c.loop-part.part-index in
    let none : Figures = record { stale = 0; greatest = 0; leftover = 0 } in
    room (at * 262144) 262144 c.loop-part.total (found_at parts at)
    (subst (AreFew (at * 262144)) (sym c.loop-part.invariant) (total_few (found_at parts) at 262144 (λ i lt. c.requires.few i none (omega (arith, lt, c.loop-part-test.true)))))
    (c.requires.few at none c.loop-part-test.true)
    (omega (arith, c.requires.count, c.loop-part-test.true))
