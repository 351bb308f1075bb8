use Rattle.grids.proofs.Common.{scaled_fits≤, ◌+◌, ◌*◌, ◌≤◌, length, arith, map, length-map, grid-within, plane-fits, plane-within, rules}
use Rattle.grids.proofs.Counted.{merged-next, planes_counted-all}
use Rattle.grids.proofs.merges.merge.Goals as goal

pub loop-key-preserved : goal.loop-key-preserved
loop-key-preserved g c =
    let number = g.N.Number.number in let nodes = c.args.marks.size.nodes in let key = c.loop-key.key in let held = c.loop-key.invariant in
    let both = c.merge_planes-both.ensures in
    let within = grid-within number nodes c.args.marks.size.keys key c.args.first.now c.requires.marked.grid c.loop-key-test.true in
    let behind : key * nodes + nodes ≤ length (map number c.args.second.now) =
    omega (arith, length-map c.args.first.now number, length-map c.args.second.now number) in
    record {
      upto = (omega arith, omega arith);
      first = merged-next number nodes key _ _ _ _ _ _ _ _ _ _ _ (omega arith) held.second held.first behind within both.first;
      second = merged-next number nodes key _ _ _ _ _ _ _ _ _ _ _ (omega arith) held.first held.second within behind both.second;
    }

pub returns : goal.returns
returns g c =
    let first = planes_counted-all _ _ _ _ _ _ c.loop-key.key _ c.loop-key.invariant.first c.loop-key-test.false c.loop-key.auto.key-end in
    let second = planes_counted-all _ _ _ _ _ _ c.loop-key.key _ c.loop-key.invariant.second c.loop-key-test.false c.loop-key.auto.key-end in
    record { first = first.0; second = second.0; first_count = first.1; second_count = second.1 }

pub overflow_mul-start : goal.overflow_mul-start
overflow_mul-start g c = plane-fits _ _ _ c.loop-key.key c.requires.marked.grid c.loop-key-test.true

pub slice_bounds-one-end : goal.slice_bounds-one-end
slice_bounds-one-end g c = search (rules, plane-within _ _ _ c.loop-key.key c.requires.marked.grid c.loop-key-test.true)

pub slice_bounds-other-end : goal.slice_bounds-other-end
slice_bounds-other-end g c = search (rules, plane-within _ _ _ c.loop-key.key c.requires.marked.grid c.loop-key-test.true)

pub offset_bounds-first-start : goal.offset_bounds-first-start
offset_bounds-first-start g c =
    let within = plane-within _ _ _ c.loop-key.key c.requires.marked.grid c.loop-key-test.true in
    let room : c.loop-key.key * c.args.marks.size.nodes ≤ length c.args.first.now = omega arith in search scaled_fits≤

pub offset_bounds-second-start : goal.offset_bounds-second-start
offset_bounds-second-start g c =
    let within = plane-within _ _ _ c.loop-key.key c.requires.marked.grid c.loop-key-test.true in
    let room : c.loop-key.key * c.args.marks.size.nodes ≤ length c.args.second.now = omega arith in search scaled_fits≤

pub returns-then-are_few-2 : goal.returns-then-are_few-2
returns-then-are_few-2 g c = c.merge_owners.ensures
