use Rattle.grids.proofs.Common.{ℕ, ◌+◌, nat_lt, max, ◌∙◌, arith, if◌then◌else◌, number-at, number-waits, counted_next, counted-same, one_le, ◌≤◌, length, scaled_fits≤}
use Rattle.grids.proofs.merges.merge_some.Goals as goal

pub loop-i-preserved : goal.loop-i-preserved
loop-i-preserved g c =
    let number = g.N.Number.number in let at : ℕ = c.args.from + c.loop-i.i in
    let first_low = number-at number c.args.marks.first.now at c.index-first_low-r.result (omega arith) c.index-first_low-r.is in
    let second_low = number-at number c.args.marks.second.now at c.index-second_low-r.result (omega arith) c.index-second_low-r.is in
    record {
      upto = (omega (arith, one_le c.is_above-comes.result), omega (arith, one_le c.is_above-goes.result));
      done = λ one other to_first to_second before_first before_second.
          let parts = c.loop-i.invariant.done one other to_first to_second before_first before_second in
          let first = number-waits _ one number c.loop-i.first at c.index-first-r.result parts.0.numbers (omega arith) c.index-first-r.is in
          let second = number-waits _ other number c.loop-i.second at c.index-second-r.result parts.1.numbers (omega arith) c.index-second-r.is in
          let comes = c.is_above-comes.ensures ∙ (λ i. nat_lt (first_low i) (second i)) in
          let goes = c.is_above-goes.ensures ∙ (λ i. nat_lt (second_low i) (first i)) in (
            counted_next _ one _ number c.loop-i.first at _ to_first _ _ _ c.raised_to.result parts.0 (omega arith) (omega arith)
                (c.raised_to.ensures ∙ (λ i. max (first i) (if comes i then second i else 0))) c.plus-to_first.ensures (λ i. if comes i then 1 else 0),
            counted_next _ other _ number c.loop-i.second at _ to_second _ _ _ c.raised_to-in-loop-i.result parts.1 (omega arith) (omega arith)
                (c.raised_to-in-loop-i.ensures ∙ (λ i. max (second i) (if goes i then first i else 0))) c.plus-to_second.ensures (λ i. if goes i then 1 else 0),
          );
    }

pub returns : goal.returns
returns g c = record {
  upto = (omega arith, omega arith);
  done = λ one other to_first to_second before behind.
      let parts = c.loop-i.invariant.done one other to_first to_second before behind in (
        counted-same _ one _ _ _ _ _ _ parts.0 (omega arith) (omega arith),
        counted-same _ other _ _ _ _ _ _ parts.1 (omega arith) (omega arith),
      );
}

pub offset_bounds-second-r-in-loop-i : goal.offset_bounds-second-r-in-loop-i
offset_bounds-second-r-in-loop-i g c = let at : c.args.from + c.loop-i.i ≤ length c.args.second.now = omega arith in search scaled_fits≤

pub offset_bounds-first-r-in-loop-i : goal.offset_bounds-first-r-in-loop-i
offset_bounds-first-r-in-loop-i g c = let at : c.args.from + c.loop-i.i ≤ length c.args.first.now = omega arith in search scaled_fits≤
