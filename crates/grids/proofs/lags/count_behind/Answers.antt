use Rattle.grids.proofs.Common.{rules, map, min, nat_lt, slice_index, number-at}
use Rattle.grids.proofs.Counted.{counted-as, places-counted}
use Rattle.grids.proofs.lags.count_behind.Goals as goal

pub returns : goal.returns
returns g c =
    let number = g.N.Number.number in let cells = slice_index (map number c.args.grid.cells.now) in
    let last = slice_index (map number c.args.last.now) in let behind = c.change_counting-behind in
    let all = places-counted _ _ c.args.grid.size.nodes c.args.grid.size.keys _ _ _ behind.result.0 c.requires.beside.beside.shape
    (counted-as number _ _ _ _ _ behind.ensures (λ i x. min x (cells i)) (λ i _. nat_lt (cells i) (last i))
    (λ i n all lt called. search (rules, number-at number c.args.grid.cells.now i))
    (λ i n all lt called. search (rules, number-at number c.args.grid.cells.now i, number-at number c.args.last.now i))) in
    record { least = all.0; count = all.1 }
