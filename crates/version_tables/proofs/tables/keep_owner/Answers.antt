use Rattle.version_tables.proofs.Common.{◌+◌, ◌*◌, ◌-◌, ◌≤◌, arith, length, map, grid-within, plane-within, planes-written}
use borrow.Author.Rules.{scaled_fits≤}
use Rattle.version_tables.proofs.tables.keep_owner.Goals as goal

pub loop-key-preserved : goal.loop-key-preserved
loop-key-preserved g c =
    let number = g.N.Number.number in let nodes = c.args.size.nodes in let key = c.loop-key.key in
    planes-written _ nodes (map number c.args.cells.now) number c.loop-key.cells c.keep_one.new.numbers key (key * nodes + nodes - key * nodes) _ (omega arith)
    c.loop-key.invariant (grid-within number nodes c.args.size.keys key c.args.cells.now c.requires.grid c.loop-key-test.true) c.keep_one.ensures
    (λ r x y lt is. is)

pub offset_bounds-cells-start : goal.offset_bounds-cells-start
offset_bounds-cells-start g c =
    let within = plane-within _ _ _ c.loop-key.key c.requires.grid c.loop-key-test.true in
    let room : c.loop-key.key * c.args.size.nodes ≤ length c.args.cells.now = omega (arith, within) in search scaled_fits≤
