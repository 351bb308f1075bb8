use Rattle.grids.proofs.Common.{◌≡◌, length, map, nat_lt, slice_index, ap, rules, sym, subst, ◌∙◌, with_items_is, length-map, count_passing, number-at, number_kept, IsGrid}
use Rattle.grids.proofs.Counted.{answered-all, counted-as, places-counted}
use Rattle.grids.proofs.grids.above_peer.Goals as goal

pub returns : goal.returns
returns g c =
    let number = g.N.Number.number in let size = c.args.grid.size in
    let old = c.deref_mut.result.now in let cells = slice_index (map number c.args.grid.cells.now) in
    let peer = slice_index (map number c.args.peer.now) in let at_cells = number-at number c.args.grid.cells.now in
    let at_peer = number-at number c.args.peer.now in let masked = c.change_counting-count in
    let as_many : length old ≡ length c.args.grid.cells.now =
    ap length c.deref_mut.ensures.value ∙ sym (length-map c.in_ok-numbers.numbers.items number) ∙ c.in_ok-numbers.ensures.size in
    let all = places-counted _ _ size.nodes size.keys _ _ _ masked.result.0 (subst (IsGrid size.nodes size.keys) (sym as_many) c.requires.grid)
    (counted-as number _ _ _ _ _ masked.ensures (λ r x. number_kept (peer r) (cells r)) (λ r _. nat_lt (peer r) (cells r))
    (λ r n all lt called. search (rules, at_cells r, at_peer r)) (λ r n all lt called. search (rules, at_cells r, at_peer r))) in
    record {
      numbers = rw (with_items_is c.in_ok-numbers.numbers masked.new.numbers (masked.auto.numbers ∙ c.deref_mut.ensures.len)) (record {
        size = all.0.size ∙ length-map old number ∙ as_many ∙ c.requires.grid.whole;
        each = all.0.each;
      });
      count = all.1;
      held = answered-all number _ (λ all. all.2) old _ _ masked.ensures.second (λ r _. nat_lt 0 (cells r)) (λ r n all lt called. search (rules, at_cells r))
          ∙ ap (λ n. count_passing n (λ r. nat_lt 0 (cells r))) as_many;
    }
