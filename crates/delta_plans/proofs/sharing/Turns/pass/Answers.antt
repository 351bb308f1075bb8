use Rattle.delta_plans.proofs.Common.{◌+◌, ◌≤◌, ◌∙◌, arith, scaled_Fits, MOST_KEYS, part_weight}
use Rattle.delta_plans.proofs.TurnSteps.{from-few, part-is, turn-next, turns-few, turns-next, turns-shared, within}
use Rattle.delta_plans.proofs.sharing.Turns.pass.Goals as goal

pub loop-i-preserved : goal.loop-i-preserved
loop-i-preserved g c =
    let have = c.requires.turns in let lt = c.loop-i-test.true in let in_nodes = (within have c.loop-i.i lt).0 in
    record {
      so_far = turns-next have.are c.loop-i.invariant.so_far in_nodes (turn-next have c.loop-i.i lt ∙ omega (arith, c.loop-i.invariant.turn))
          c.number_at-in-loop-i.result c.if-passed-weight.false c.weight_of_part-weight.ensures
          (part-is have c.loop-i.i lt c.number_at.ensures c.widen-count.ensures) c.number_at-in-loop-i.ensures;
      turn = omega (arith, c.loop-i.invariant.turn);
    }

pub overflow_add-passed-in-loop-i : goal.overflow_add-passed-in-loop-i
overflow_add-passed-in-loop-i g c =
    let are = c.requires.turns.are in let count = part-is c.requires.turns c.loop-i.i c.loop-i-test.true c.number_at.ensures c.widen-count.ensures in
    let few : part_weight g.N.Number.number (λ _. 1) c.args.self.now (c.args.owner + c.loop-i.i) ≤ MOST_KEYS = from-few are _ _ _ in
    omega (arith, count, few, turns-few are c.loop-i.invariant.so_far)

pub overflow_add-result : goal.overflow_add-result
overflow_add-result g c =
    let few = from-few c.requires.turns.are (c.args.owner + c.loop-i.i) (g.N.Number.number c.number_at-near.result) (g.N.Number.number c.stop_of-stop.result) in
    omega (arith, c.count_from.ensures, few, turns-few c.requires.turns.are c.loop-i.invariant.so_far)

pub returns-then-passed-weight-clause-shared : goal.returns-then-passed-weight-clause-shared
returns-then-passed-weight-clause-shared g c =
    let have = c.requires.turns in let in_nodes = (within have c.loop-i.i c.loop-i-test.true).0 in
    turns-shared have.are c.loop-i.invariant.so_far in_nodes (turn-next have c.loop-i.i c.loop-i-test.true ∙ omega (arith, c.loop-i.invariant.turn))
    c.stop_of-stop.result c.stop_of-stop.ensures (rw c.number_at-near.ensures at c.count_from.ensures)

pub offset_bounds-mark-here : goal.offset_bounds-mark-here
offset_bounds-mark-here g c = search (scaled_Fits, (within c.requires.turns c.loop-i.i c.loop-i-test.true).1)

pub offset_bounds-mark-here-in-loop-i : goal.offset_bounds-mark-here-in-loop-i
offset_bounds-mark-here-in-loop-i g c = search (scaled_Fits, (within c.requires.turns c.loop-i.i c.loop-i-test.true).1)

pub count_from-requires : goal.count_from-requires
count_from-requires g c = record { is_offer = c.requires.turns.are.offer; in_nodes = (within c.requires.turns c.loop-i.i c.loop-i-test.true).0 }

pub weight_of_part-weight-requires : goal.weight_of_part-weight-requires
weight_of_part-weight-requires g c = record {
  turns = c.requires.turns.are;
  owner = (within c.requires.turns c.loop-i.i c.loop-i-test.true).0;
  count = part-is c.requires.turns c.loop-i.i c.loop-i-test.true c.number_at.ensures c.widen-count.ensures;
}

pub loop-i-init : goal.loop-i-init
loop-i-init g c = record { so_far = c.pass_all.ensures.reached; turn = rw c.if-pass_all.false at c.pass_all.ensures.turn }

pub returns : goal.returns
returns g c =
    record { reached = c.loop-i.invariant.so_far; turn = omega (arith, c.loop-i.invariant.turn, c.loop-i-test.false, c.loop-i.auto.i-end); shared = tt }

pub returns-then-pass_all : goal.returns-then-pass_all
returns-then-pass_all g c = record { reached = c.pass_all.ensures.reached; turn = rw c.if-pass_all.true at c.pass_all.ensures.turn; shared = tt }

pub stop_of-stop-requires : goal.stop_of-stop-requires
stop_of-stop-requires g c = record {
  turns = c.requires.turns.are;
  owner = (within c.requires.turns c.loop-i.i c.loop-i-test.true).0;
  beyond = rw c.weight_of_part-weight.ensures at c.if-passed-weight.true;
}
