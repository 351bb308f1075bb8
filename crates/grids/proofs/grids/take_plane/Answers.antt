use Rattle.grids.proofs.Common.{◌&&◌, ◌<◌, length, nat_lt, nat_le, max, ◌∙◌, arith, if◌then◌else◌, length-map, changed_all, number-at, number-waits, written_next, ◌≤◌, scaled_fits≤}
use Rattle.grids.proofs.grids.take_plane.Goals as goal

pub loop-r-preserved : goal.loop-r-preserved
loop-r-preserved g c =
    let number = g.N.Number.number in let r = c.loop-r.r in
    let cell = number-waits _ _ number c.loop-r.plane r c.index-plane-r.result c.loop-r.invariant.plane (omega arith) c.index-plane-r.is in
    let most = number-waits _ _ number c.loop-r.greatest r c.index-greatest-r.result c.loop-r.invariant.greatest (omega arith) c.index-greatest-r.is in
    let numbers = c.plane_of-numbers.result.now in let in_nodes : r < c.args.sent.grid.size.nodes = omega arith in
    let in_plane : r < length numbers = omega (arith, length-map numbers number) in
    let sent = number-at number numbers r c.index-numbers-r.result in_plane c.index-numbers-r.is ∙ c.plane_of-numbers.ensures.each r in_nodes in
    let again =
    number-at number numbers r c.index-numbers-r-in-loop-r.result in_plane c.index-numbers-r-in-loop-r.is ∙ c.plane_of-numbers.ensures.each r in_nodes in
    let low = number-at number c.args.sent.low.now r c.index-low-r.result (omega arith) c.index-low-r.is in
    let high = number-at number c.args.sent.high.now r c.index-high-r.result (omega arith) c.index-high-r.is in
    -- an owner's number then
    let between = c.is_between.ensures ∙ (λ i. nat_lt (low i) (sent i) && nat_le (sent i) (high i)) in
    let kept = c.max_with-kept.ensures ∙ (λ i. max (cell i) ((c.pick.ensures ∙ (λ j. if between j then again j else c.zero.ensures j)) i)) in
    record {
      plane = written_next _ _ number _ _ c.max_with-kept.result c.loop-r.invariant.plane (omega (arith, length-map c.args.plane.now number)) kept;
      greatest = written_next _ _ number _ _ c.max_with.result c.loop-r.invariant.greatest (omega (arith, length-map c.args.greatest.now number))
          (c.max_with.ensures ∙ (λ i. max (most i) (kept i)));
    }

pub returns : goal.returns
returns g c =
    let number = g.N.Number.number in
    record {
      plane = changed_all _ _ _ _ c.loop-r.invariant.plane (omega (arith, length-map c.args.plane.now number));
      greatest = changed_all _ _ _ _ c.loop-r.invariant.greatest (omega (arith, length-map c.args.greatest.now number));
    }

pub bounds-numbers-r : goal.bounds-numbers-r
bounds-numbers-r g c = omega (arith, length-map c.plane_of-numbers.result.now g.N.Number.number)

pub bounds-numbers-r-in-loop-r : goal.bounds-numbers-r-in-loop-r
bounds-numbers-r-in-loop-r g c = omega (arith, length-map c.plane_of-numbers.result.now g.N.Number.number)

pub offset_bounds-numbers-r-in-loop-r : goal.offset_bounds-numbers-r-in-loop-r
offset_bounds-numbers-r-in-loop-r g c = omega (arith, length-map c.plane_of-numbers.result.now g.N.Number.number)

pub offset_bounds-greatest-r-in-loop-r : goal.offset_bounds-greatest-r-in-loop-r
offset_bounds-greatest-r-in-loop-r g c = let at : c.loop-r.r ≤ length c.args.greatest.now = omega arith in search scaled_fits≤

pub offset_bounds-greatest-r : goal.offset_bounds-greatest-r
offset_bounds-greatest-r g c = let at : c.loop-r.r ≤ length c.loop-r.greatest = omega arith in search scaled_fits≤

pub offset_bounds-plane-r-in-loop-r : goal.offset_bounds-plane-r-in-loop-r
offset_bounds-plane-r-in-loop-r g c = let at : c.loop-r.r ≤ length c.args.plane.now = omega arith in search scaled_fits≤

pub offset_bounds-numbers-r : goal.offset_bounds-numbers-r
offset_bounds-numbers-r g c = omega (arith, length-map c.plane_of-numbers.result.now g.N.Number.number)
