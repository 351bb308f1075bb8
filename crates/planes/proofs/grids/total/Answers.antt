use Rattle.planes.proofs.Common.{◌≡◌, sym, ◌∙◌, ap, arith, length, map, length-map, cell}
use Rattle.planes.proofs.Counts.{sum_next}
use Rattle.planes.proofs.Places.{plane_count, total_whole}
use Rattle.planes.proofs.grids.total.Goals as goal

pub loop-key-preserved : goal.loop-key-preserved
loop-key-preserved g c =
    let plane = c.plane_of-plane.result.now in
    let size : length plane ≡ c.args.grid.size.nodes = sym (length-map plane g.N.Number.number) ∙ c.plane_of-plane.ensures.size in
    record {
      upto = omega (arith, c.loop-key.invariant.upto, c.how_many-total.ensures.upto, size);
      total = λ test is. sum_next _ c.loop-key.key c.loop-key.total c.how_many-total.result (c.loop-key.invariant.total test is)
          (plane_count c.args.grid.size.nodes _ _ (length plane) c.how_many-total.result size
          (c.how_many-total.ensures.count test (λ r n passes lt. is r n passes (omega (arith, lt, size))))
          (λ r lt. ap (test r) (c.plane_of-plane.ensures.each r lt)));
    }

pub returns : goal.returns
returns g c test is =
    let cells = cell (map g.N.Number.number c.args.grid.cells.now) c.args.grid.size.nodes in
    total_whole c.args.grid.size.nodes c.args.grid.size.keys c.loop-key.key (λ r k. test r (cells r k)) c.loop-key.total (c.loop-key.invariant.total test is)
    c.loop-key-test.false c.loop-key.auto.key-end

pub how_many-total-requires : goal.how_many-total-requires
how_many-total-requires g c =
    let size = sym (length-map c.plane_of-plane.result.now g.N.Number.number) ∙ c.plane_of-plane.ensures.size in
    record { room = omega (arith, size, c.requires.grid.few_nodes); passes = λ r n lt. c.requires.passes r n (omega (arith, lt, size)) }

pub overflow_add-total : goal.overflow_add-total
overflow_add-total g c =
    let grid = c.requires.grid in let size = sym (length-map c.plane_of-plane.result.now g.N.Number.number) ∙ c.plane_of-plane.ensures.size in
    omega (arith, c.loop-key.invariant.upto, c.how_many-total.ensures.upto, size, grid.few_nodes, grid.few_keys, c.loop-key-test.true)
