use Rattle.round_plan.proofs.Common.{◌≡◌, ◌+◌, length, get_or, drop, sym, ap, ◌∙◌, arith, length-drop, get_or-drop, get_or-take, length-take-le, next_version}
use Rattle.round_plan.specs.Writes.{number_by}
use Rattle.round_plan.proofs.owners.numbers_by.Goals as goal

pub returns-after-loop-place : goal.returns-after-loop-place
returns-after-loop-place c = (
  c.loop-place.invariant.0,
  λ k lt.
      c.loop-place.invariant.1 k (omega arith)
      ∙ omega arith
      ∙ ap (λ way. number_by way (get_or c.args.words.now (8 + k) 0) (next_version (c.args.count_before + k))) (sym c.in-Cycle.is),
)

pub returns-in-Random : goal.returns-in-Random
returns-in-Random c =
    let taken = c.copy_from_slice.ensures.after in
    let count : length c.args.words.now ≡ 16 = omega arith in (
      omega (arith, ap length taken, count, length-take-le 8 (drop 8 c.args.words.now) (omega (arith, count, length-drop 8 c.args.words.now))),
      λ k lt.
          ap (λ ns. get_or ns k 0) taken
          ∙ get_or-take 8 (drop 8 c.args.words.now) k 0 lt
          ∙ get_or-drop 8 c.args.words.now k 0
          ∙ ap (λ way. number_by way (get_or c.args.words.now (8 + k) 0) (next_version (c.args.count_before + k))) (sym c.in-Random.is),
    )
