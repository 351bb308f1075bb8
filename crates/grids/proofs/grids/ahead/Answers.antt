use Rattle.grids.proofs.Common.{scaled_fits≤, ◌≤◌, ◌<◌, sym, ap, arith, length, get_or-map, map, ◌∙◌, length-map, cell}
use Rattle.grids.proofs.Counted.{masked-once}
use Rattle.grids.proofs.grids.ahead.Goals as goal

pub returns-then-has_none_upto : goal.returns-then-has_none_upto
returns-then-has_none_upto g c =
    let number = g.N.Number.number in let nodes = c.args.grid.size.nodes in let low = c.args.peer.low.now in let above = c.in_ok-above.ensures in
    let within : c.args.peer.own < length low = omega (arith, c.requires.among, c.requires.marks.count) in
    let mark = sym (get_or-map number low c.args.peer.own c.index-peer-own.result 0 within) in
    let all = masked-once nodes c.args.grid.size.keys c.args.peer.own _ (cell (map number c.args.grid.cells.now) nodes)
    (cell (map number c.args.peer.cells.now) nodes) (map number low) (map number c.in_ok-above.above.numbers.items) c.in_ok-above.above.count
    (length-map low number ∙ c.requires.marks.count) (c.has_no_other_mark.ensures.0 c.if-has_no_other_mark.true) mark
    (rw c.deref.ensures.value at (c.has_none_upto.ensures.0 c.if-has_none_upto.true)) above.numbers above.count in
    record { numbers = all.0; count = all.1; held = above.held }

pub offset_bounds-peer-own : goal.offset_bounds-peer-own
offset_bounds-peer-own g c = let within : c.args.peer.own ≤ length c.args.peer.low.now = omega arith in search scaled_fits≤

pub has_none_upto-requires : goal.has_none_upto-requires
has_none_upto-requires g c =
    let above = c.in_ok-above.ensures.numbers.size in let shape = c.requires.marks.shape in
    let size = ap length c.deref.ensures.value ∙ sym (length-map c.in_ok-above.above.numbers.items g.N.Number.number) ∙ above in
    record { grid = record { whole = size; few_nodes = shape.few_nodes; few_keys = shape.few_keys }; among = c.requires.among }
