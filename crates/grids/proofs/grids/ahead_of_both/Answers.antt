use Rattle.grids.proofs.Common.{scaled_fits≤, ℕ, ◌+◌, ◌*◌, ◌-◌, ◌≤◌, drop, length-drop, length-take-le, ap, ◌∙◌, arith, length, map, max, nat_lt, slice_index, length-map, with_items_is, cell, count_passing, number_ahead, plane_count, rules, plane-fits, plane-within, sum_next, sym, total-places, total_whole}
use Rattle.grids.proofs.Counted.{answered-all, counted-as, planes_counted-next, planes_counted-all, total-kept}
use Rattle.grids.proofs.grids.ahead_of_both.Goals as goal

pub loop-key-preserved : goal.loop-key-preserved
loop-key-preserved g c =
    let number = g.N.Number.number in let nodes = c.args.grid.size.nodes in
    let key = c.loop-key.key in let plane = slice_index (map number c.plane_of-plane.result.now) in
    let of_peer = slice_index (map number c.plane_of-of_peer.result.now) in
    let low = slice_index (map number c.args.peer.low.now) in let counted = c.change_counting-plane_count in
    let within = plane-within nodes c.args.grid.size.keys (length c.args.grid.cells.now) key c.requires.peer.marks.shape c.loop-key-test.true in
    let room : key * nodes + nodes ≤ length (map number c.deref_mut-all.result.now) =
    omega (arith, within, ap (λ xs. length (map number xs)) c.deref_mut-all.ensures.value, c.in_ok-numbers.ensures.size) in
    let start : ℕ = key * nodes in
    let block = length-take-le (start + nodes - start) (drop start c.loop-key.all)
    (omega (arith, length-drop start c.loop-key.all, length-map c.deref_mut-all.result.now number)) in
    let at_plane = c.plane_of-plane.ensures.each in let at_peer = c.plane_of-of_peer.ensures.each in
    record {
      upto = (omega arith, omega arith);
      kept = planes_counted-next _ _ nodes _ number c.loop-key.all counted.new.numbers key _ _ _ _ _ (omega arith) c.loop-key.invariant.kept room
          (counted-as number _ _ _ _ _ counted.ensures (λ r x. number_ahead (plane r) (of_peer r) (low r)) (λ r _. nat_lt (max (of_peer r) (low r)) (plane r))
          (λ r n all lt called. called.0) (λ r n all lt called. called.1.0))
          (λ r x y lt now. now ∙ (λ i. number_ahead (at_plane r lt i) (at_peer r lt i) (low r)))
          (λ r lt i. nat_lt (max (at_peer r lt i) (low r)) (at_plane r lt i));
      held = sum_next _ key _ _ c.loop-key.invariant.held (plane_count nodes (λ r. nat_lt 0 (plane r)) _ _ _ (omega arith)
          (answered-all number _ (λ all. all.2) _ _ _ counted.ensures.second (λ r _. nat_lt 0 (plane r)) (λ r n all lt called. called.1.1))
          (λ r lt i. nat_lt 0 (at_plane r lt i)));
    }

pub returns : goal.returns
returns g c =
    let number = g.N.Number.number in let nodes = c.args.grid.size.nodes in let keys = c.args.grid.size.keys in
    let all = planes_counted-all _ _ _ _ _ _ _ _ c.loop-key.invariant.kept c.loop-key-test.false c.loop-key.auto.key-end in
    let cells = cell (map number c.args.grid.cells.now) nodes in let is_held = λ (i : ℕ). nat_lt 0 (slice_index (map number c.args.grid.cells.now) i) in
    let peer = cell (map number c.args.peer.cells.now) nodes in
    let size = ap (λ xs. length (map number xs)) c.deref_mut-all.ensures.value ∙ c.in_ok-numbers.ensures.size in
    let items = with_items_is c.in_ok-numbers.numbers c.loop-key.all (c.loop-key.auto.all ∙ c.deref_mut-all.ensures.len) in
    record {
      numbers = rw items (record { size = all.0.size ∙ size ∙ c.requires.peer.marks.shape.whole; each = all.0.each });
      count = rw items (total-kept nodes keys cells peer _ _ _ _ all.1 all.0);
      held = total_whole nodes keys c.loop-key.key _ _ c.loop-key.invariant.held c.loop-key-test.false c.loop-key.auto.key-end
          ∙ sym (total-places nodes keys is_held) ∙ ap (λ n. count_passing n is_held) (sym c.requires.peer.marks.shape.whole);
    }

pub overflow_mul-start : goal.overflow_mul-start
overflow_mul-start g c = plane-fits _ _ _ c.loop-key.key c.requires.peer.marks.shape c.loop-key-test.true

pub plane_of-plane-requires : goal.plane_of-plane-requires
plane_of-plane-requires g c = record { within = plane-within _ _ _ c.loop-key.key c.requires.peer.marks.shape c.loop-key-test.true }

pub plane_of-of_peer-requires : goal.plane_of-of_peer-requires
plane_of-of_peer-requires g c = record { within = omega (arith, plane-within _ _ _ c.loop-key.key c.requires.peer.marks.shape c.loop-key-test.true) }

pub slice_bounds-block-end : goal.slice_bounds-block-end
slice_bounds-block-end g c =
    let within = plane-within _ _ _ c.loop-key.key c.requires.peer.marks.shape c.loop-key-test.true in
    let all = ap (λ xs. length (map g.N.Number.number xs)) c.deref_mut-all.ensures.value in
    let room : c.loop-key.key * c.args.grid.size.nodes + c.args.grid.size.nodes ≤ length c.loop-key.all =
    omega (arith, c.in_ok-numbers.ensures.size, length-map c.deref_mut-all.result.now g.N.Number.number) in
    search rules

pub offset_bounds-all-start : goal.offset_bounds-all-start
offset_bounds-all-start g c =
    let all = ap (λ xs. length (map g.N.Number.number xs)) c.deref_mut-all.ensures.value in
    let within = plane-within _ _ _ c.loop-key.key c.requires.peer.marks.shape c.loop-key-test.true in
    scaled_fits≤ _ _ _ (omega (arith, c.in_ok-numbers.ensures.size, length-map c.deref_mut-all.result.now g.N.Number.number)) c.deref_mut-all.type_inv.1
