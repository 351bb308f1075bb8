use Rattle.planes.proofs.Common.{◌≡◌, ◌<◌, nat_lt, slice_index, ◌∙◌, arith, map, if◌then◌else◌, with_items_is, length-map, cell}
use Rattle.planes.proofs.Counts.{count_le, number_next}
use Rattle.planes.proofs.Places.{each-next}
use Rattle.planes.proofs.grids.counts_above.Goals as goal

pub change-requires : goal.change-requires
change-requires g c = record {
  to = λ r n lt is.
      let number = g.N.Number.number in let below : r < c.args.grid.size.nodes = omega (arith, length-map c.loop-key.all number) in
      let cells = cell (map number c.args.grid.cells.now) c.args.grid.size.nodes in
      let few = count_le c.loop-key.key (λ k. nat_lt (slice_index (map number c.args.low.now) r) (cells r k)) in
      (omega (arith, length-map c.plane_of-plane.result.now number), omega arith, omega (arith, c.loop-key.invariant.each r below, g.met.N.Number.counts_keys));
}

pub loop-key-preserved : goal.loop-key-preserved
loop-key-preserved g c =
    let low = slice_index (map g.N.Number.number c.args.low.now) in let plane = slice_index (map g.N.Number.number c.plane_of-plane.result.now) in
    each-next _ _ _ _ _ _ c.loop-key.invariant c.change.ensures (λ r x y lt counted made.
    number_next _ c.loop-key.key x y {y = if nat_lt (low r) (plane r) then 1 else 0} counted (omega (arith, made.made))
    (λ i. if nat_lt (low r) (c.plane_of-plane.ensures.each r lt i) then 1 else 0))

pub returns : goal.returns
returns g c =
    let all : c.loop-key.key ≡ c.args.grid.size.keys = omega arith in
    rw (with_items_is c.in_ok-counts.counts c.loop-key.all (c.loop-key.auto.all ∙ c.deref_mut-all.ensures.len), ← all) c.loop-key.invariant
