use Rattle.planner.proofs.Common.{◌∙◌, ap, sym, [], ◌∷◌, ◌++◌, into_iter_items}
use Rattle.planner.proofs.Places.{left_more, standing_more, standing_same}
use Rattle.planner.proofs.plays.all_of.Goals as goal

pub loop-place-preserved-in-Continue-branch-2 : goal.loop-place-preserved-in-Continue-branch-2
loop-place-preserved-in-Continue-branch-2 g c =
    let at = c.loop-place in (
      left_more at.yielded (into_iter_items at.place-iterator) (into_iter_items c.next.new.self) c.args.places.items c.in-Some.place at.invariant.0 c.in-Some.ensures.steps.0,
      c.in_ok-push.ensures.items ∙ ap (λ l. l ++ c.in-Some-place.x ∷ []) at.invariant.1 ∙ sym (standing_more at.yielded c.in-Some.place c.in-Some-place.x c.in-Some-place.is),
    )

pub loop-place-preserved : goal.loop-place-preserved
loop-place-preserved g c =
    let at = c.loop-place in (
      left_more at.yielded (into_iter_items at.place-iterator) (into_iter_items c.next.new.self) c.args.places.items c.in-Some.place at.invariant.0 c.in-Some.ensures.steps.0,
      at.invariant.1 ∙ sym (standing_same at.yielded c.in-Some.place c.in_default.not-Some),
    )
