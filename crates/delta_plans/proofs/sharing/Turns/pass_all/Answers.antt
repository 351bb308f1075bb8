use Rattle.delta_plans.proofs.Common.{◌≡◌, ◌+◌, suc, length, ap, refl, arith, scaled_Fits, parts_count, part_weight}
use Rattle.delta_plans.proofs.WeightLaws.{sum_below-longer}
use Rattle.delta_plans.proofs.TurnSteps.{part-entries, turn-next, turns-few, turns-next, turns-same, within}
use Rattle.delta_plans.proofs.sharing.Turns.pass_all.Goals as goal

pub loop-i-preserved : goal.loop-i-preserved
loop-i-preserved g c =
    let have = c.requires.turns in let turns = c.args.self.now in let owner = c.args.owner in let i = c.loop-i.i in
    let lt = c.loop-i-test.true in let more = ap (parts_count g.N.Number.number turns owner) {x = i + 1} {y = suc i} (omega arith) in
    let upto = sum_below-longer (λ j. part_weight g.N.Number.number (λ _. 1) turns (owner + j)) (i + 1) (length c.args.counts.now) (omega (arith, lt)) in
    let passed = turns-next have.are c.loop-i.invariant (within have i lt).0 (turn-next have i lt) c.number_at.result
    (omega (arith, upto, c.if-reached-count.false, c.count_of_parts-count.ensures, more))
    (part-entries have.are (within have i lt).0 refl c.in-Entries.field-0 c.in-Entries.is) refl c.number_at.ensures in
    turns-same passed (omega arith) (omega (arith, more)) (omega (arith, more))

pub overflow_add-reached-2 : goal.overflow_add-reached-2
overflow_add-reached-2 g c =
    let whole : c.loop-i.i ≡ length c.args.counts.now = omega (arith, c.loop-i-test.false, c.loop-i.auto.i-end) in
    let all = ap (parts_count g.N.Number.number c.args.self.now c.args.owner) whole in
    omega (arith, all, c.count_of_parts-count.ensures, turns-few c.requires.turns.are c.loop-i.invariant)

pub offset_bounds-mark-owner : goal.offset_bounds-mark-owner
offset_bounds-mark-owner g c = search (scaled_Fits, (within c.requires.turns c.loop-i.i c.loop-i-test.true).1)

pub returns-clause-reached : goal.returns-clause-reached
returns-clause-reached g c =
    let whole : c.loop-i.i ≡ length c.args.counts.now = omega (arith, c.loop-i-test.false, c.loop-i.auto.i-end) in
    rw c.count_of_parts-count.ensures (rw whole at c.loop-i.invariant)

pub loop-i-init : goal.loop-i-init
loop-i-init g c = turns-same c.requires.turns.has_reached (omega arith) (omega arith) (omega arith)

pub returns-then-reached-count-clause-reached : goal.returns-then-reached-count-clause-reached
returns-then-reached-count-clause-reached g c = c.requires.turns.has_reached
