use Rattle.grids.proofs.Common.{scaled_fits≤, ◌≡◌, ℕ, ◌+◌, ◌<◌, ◌≤◌, ap, ◌∙◌, arith, length, length-map, if◌then◌else◌, map, map-set, get_or-set_other, subst, AreChangedUpto, number-at, number-waits, written_next, count_next, one_le}
use Rattle.grids.proofs.counts.change_some_counting.Goals as goal

pub loop-i-preserved : goal.loop-i-preserved
loop-i-preserved g c =
    let number = g.N.Number.number in let held = c.loop-i.invariant in let at : ℕ = c.args.from + c.loop-i.i in
    let within : at < length c.args.numbers.now = omega arith in let n = c.index-numbers-r.result in let all = c.to-number.result in
    let waits = number-at number c.loop-i.numbers at n (omega arith) c.index-numbers-r.is ∙ held.rest at (omega arith) in
    record {
      upto = (omega (arith, one_le all.1), omega (arith, one_le all.2));
      numbers = λ made is old before.
          let part = held.numbers made is old before in let was = number-waits _ old number c.loop-i.numbers at n part (omega arith) c.index-numbers-r.is in
          subst (AreChangedUpto _ old _) (omega arith) (written_next _ old number c.loop-i.numbers at all.0 part
          (omega (arith, part.size, length-map c.loop-i.numbers number)) (is at n all within c.to-number.ensures ∙ ap (made at) was));
      rest = λ r le. rw (map-set number c.loop-i.numbers at all.0)
          (get_or-set_other (map number c.loop-i.numbers) at r (number all.0) 0 (λ e. omega arith) ∙ held.rest r (omega arith));
      first = λ test is old same before was. count_next _ at _ before _ _ (held.first test is old same before was) (omega arith) c.plus-first.ensures
          (ap (λ b. if b then 1 else 0) (is at n all within c.to-number.ensures ∙ ap (test at) (waits ∙ same at (omega arith))));
      second = λ test is old same before was. count_next _ at _ before _ _ (held.second test is old same before was) (omega arith) c.plus-second.ensures
          (ap (λ b. if b then 1 else 0) (is at n all within c.to-number.ensures ∙ ap (test at) (waits ∙ same at (omega arith))));
    }

pub returns : goal.returns
returns g c =
    let all : c.loop-i.i ≡ c.args.size = omega arith in
    rw (← all, c.widen.ensures, c.widen-2.ensures) c.loop-i.invariant

pub offset_bounds-numbers-r-in-loop-i : goal.offset_bounds-numbers-r-in-loop-i
offset_bounds-numbers-r-in-loop-i g c = let at : c.args.from + c.loop-i.i ≤ length c.args.numbers.now = omega arith in search scaled_fits≤
