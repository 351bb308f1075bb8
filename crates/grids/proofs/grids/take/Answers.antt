use Rattle.grids.proofs.Common.{inl, refl, length-map, scaled_fits≤, ◌≤◌, length, ◌+◌, ◌*◌, ◌-◌, max, ◌≡◌, ◌∙◌, arith, taken_by, grid-within, plane-fits, plane-within, block-cells, planes-written, planes-all, each-next, raised-next}
use Rattle.grids.proofs.grids.take.Goals as goal

pub loop-key-init : goal.loop-key-init
loop-key-init g c =
    let size = length-map c.args.greatest.now g.N.Number.number ∙ c.requires.may.greatest_count in
    record {
      cells = record { size = refl; below = λ r k lt no. absurd (omega arith); from = λ i le. refl };
      greatest = record { size = size; each = λ r lt. record { rises = omega arith; upto = λ k no. absurd (omega arith); from = inl refl } };
    }

pub loop-key-preserved : goal.loop-key-preserved
loop-key-preserved g c =
    let number = g.N.Number.number in let nodes = c.args.sent.grid.size.nodes in let key = c.loop-key.key in
    let within = grid-within number nodes c.args.sent.grid.size.keys key c.args.cells.now c.requires.may.beside.shape c.loop-key-test.true in
    let block = block-cells _ nodes _ number c.loop-key.cells key (key * nodes + nodes - key * nodes) (omega arith) c.loop-key.invariant.cells within in
    record {
      cells = planes-written _ nodes _ number c.loop-key.cells c.take_plane.new.plane key _ _ (omega arith) c.loop-key.invariant.cells within
          c.take_plane.ensures.plane (λ r x y lt is. is);
      greatest = each-next nodes _ _ _ _ _ c.loop-key.invariant.greatest c.take_plane.ensures.greatest
          (λ r x y lt is now. raised-next _ key r _ x y is (now ∙ (λ i. max x (taken_by number c.args.sent r key (block r lt i)))));
    }

pub returns : goal.returns
returns g c =
    let all : c.loop-key.key ≡ c.args.sent.grid.size.keys = omega arith in
    record {
      cells = planes-all _ _ _ _ c.args.sent.grid.size.keys c.loop-key.key c.loop-key.invariant.cells c.loop-key-test.false;
      greatest = rw (← all) c.loop-key.invariant.greatest;
    }

pub overflow_mul-start : goal.overflow_mul-start
overflow_mul-start g c = plane-fits _ _ _ c.loop-key.key c.requires.may.beside.shape c.loop-key-test.true

pub offset_bounds-cells-start : goal.offset_bounds-cells-start
offset_bounds-cells-start g c =
    let within = plane-within _ _ _ c.loop-key.key c.requires.may.beside.shape c.loop-key-test.true in
    let room : c.loop-key.key * c.args.sent.grid.size.nodes ≤ length c.args.cells.now = omega arith in search scaled_fits≤
