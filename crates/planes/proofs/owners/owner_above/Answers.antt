use Rattle.planes.proofs.Common.{◌≡◌, ◌+◌, ◌*◌, nat_lt, ◌∙◌, arith, rules, map, length, if◌then◌else◌, cell}
use Rattle.planes.proofs.Elementwise.{number-at}
use Rattle.planes.proofs.Counts.{one_le, sum_next}
use Rattle.planes.proofs.Places.{plane-within}
use Rattle.planes.proofs.owners.owner_above.Goals as goal

pub loop-key-preserved : goal.loop-key-preserved
loop-key-preserved g c =
    let number = g.N.Number.number in let nodes = c.args.grid.size.nodes in
    let within = plane-within nodes c.args.grid.size.keys (length c.args.grid.cells.now) c.loop-key.key c.requires.place.shape c.loop-key-test.true in
    let at_cell = number-at number c.args.grid.cells.now (c.loop-key.key * nodes + c.args.owner) c.index-cells-key.result
    (omega (arith, within, c.requires.place.within)) c.index-cells-key.is in
    let bit : c.from-count.result ≡ (if c.is_above.result then 1 else 0) = search rules in
    let cells = cell (map number c.args.grid.cells.now) nodes c.args.owner in
    record {
      upto = omega (arith, bit, one_le c.is_above.result);
      count =
          sum_next (λ k. if nat_lt (number c.args.low) (cells k) then 1 else 0) c.loop-key.key c.loop-key.count c.from-count.result c.loop-key.invariant.count
          (bit ∙ (λ i. if c.is_above.ensures i then 1 else 0) ∙ (λ i. if nat_lt (number c.args.low) (at_cell i) then 1 else 0));
    }
