use Rattle.grids.proofs.Common.{◌≡◌, ℕ, ◌+◌, ◌*◌, nat_lt, max, sym, ◌∙◌, arith, rules, if◌then◌else◌, length-map, get_or-map, number-at, one_le, sum_next, plane-within, planes-all}
use Rattle.grids.proofs.ByOwner.{place-fits, owner-next}
use Rattle.grids.proofs.owners.raise_owner.Goals as goal

pub offset_bounds-cells-key : goal.offset_bounds-cells-key
offset_bounds-cells-key g c = search place-fits

pub bounds-cells-key : goal.bounds-cells-key
bounds-cells-key g c = omega (arith, plane-within _ _ _ c.loop-key.key c.requires.0.shape c.loop-key-test.true)

pub loop-key-preserved : goal.loop-key-preserved
loop-key-preserved g c =
    let number = g.N.Number.number in let low = number c.args.low in let place : ℕ = c.loop-key.key * c.args.others.size.nodes + c.args.owner in
    let within = plane-within _ _ _ c.loop-key.key c.requires.0.shape c.loop-key-test.true in
    let other = number-at number c.args.others.cells.now place c.index-numbers-key.result (omega arith) c.index-numbers-key.is in
    let held = c.loop-key.invariant in
    let at_cell = sym (get_or-map number c.loop-key.cells place c.index-cells-key.result 0 (omega arith)) ∙ held.cells.from place (omega arith) in
    let above = c.is_above-is_above.ensures ∙ (λ i. nat_lt low (other i)) in
    let bit : c.from-count.result ≡ (if c.is_above-is_above.result then 1 else 0) = search rules in
    record {
      cells = owner-next _ _ _ _ c.requires.1 number _ c.loop-key.key c.raised_to.result held.cells (omega (arith, length-map c.args.cells.now number))
          (c.raised_to.ensures ∙ (λ i. max (at_cell i) (if above i then other i else 0)));
      upto = omega (arith, bit, one_le c.is_above-is_above.result);
      count = sum_next _ c.loop-key.key c.loop-key.count c.from-count.result held.count (bit ∙ (λ i. if above i then 1 else 0));
    }

pub returns : goal.returns
returns g c =
    let all : c.loop-key.key ≡ c.args.others.size.keys = omega arith in
    record {
      cells = planes-all _ _ _ _ c.args.others.size.keys c.loop-key.key c.loop-key.invariant.cells c.loop-key-test.false;
      upto = omega arith;
      count = rw (← all) c.loop-key.invariant.count;
    }
