use Rattle.std.proofs.Common.{◌≡◌, ◌∷◌, ◌++◌, [], ℕ, zero, suc, List, length, slice_get, Some, arith, subst}
use Rattle.std.proofs.lemmas.Option.{none-some, same_Some, slice_get_within}
use Rattle.crew.specs.Parts.{TellsOfPart}
use Rattle.crew.proofs.parts.take_all.Goals as goal

each_push : {X : Type 0} (P : ℕ → X → Type 0) (xs : List X) (y : X) → ((i : ℕ) (x : X) → slice_get xs i ≡ Some x → P i x) → P (length xs) y
    → (i : ℕ) (x : X) → slice_get (xs ++ y ∷ []) i ≡ Some x → P i x
each_push P [] y all last zero x e = subst (P 0) (same_Some y x e) last
each_push P [] y all last (suc i) x e = absurd (none-some x e)
each_push P (z ∷ zs) y all last zero x e = all 0 x e
each_push P (z ∷ zs) y all last (suc i) x e = each_push (λ k. P (suc k)) zs y (λ k. all (suc k)) last i x e

pub loop-place-init : goal.loop-place-init
loop-place-init g c = record {
  count = c.requires.empty;
  room = c.requires.room;
  each = λ i answer is. absurd (omega (arith, c.requires.empty, slice_get_within c.args.answers.items i answer is));
}

pub loop-place-preserved : goal.loop-place-preserved
loop-place-preserved g c =
    let count = c.loop-place.invariant.count in
    let full : c.loop-place.place ≡ length c.loop-place.answers.items = omega (arith, count, c.loop-place.answers.ok.0) in
    let tells_of : ℕ → g.row.S-Answer.Denot → Type 0 = TellsOfPart g.S.Parted.tells c.args.shared.now.divided.whole c.args.shared.now.divided.bounds.items in
    let told : tells_of c.loop-place.place c.wait_for-answer.result =
    subst (λ d. TellsOfPart g.S.Parted.tells d.whole d.bounds.items c.loop-place.place c.wait_for-answer.result)
    c.requires.shared.labelled c.wait_for-answer.ensures.kept in
    record {
      count = omega (arith, count, c.push_reserved.ensures.len);
      room = omega (arith, c.loop-place.invariant.room, c.push_reserved.ensures.capacity);
      each = rw c.push_reserved.ensures.items
          (each_push tells_of c.loop-place.answers.items c.wait_for-answer.result c.loop-place.invariant.each
          (subst (λ n. tells_of n c.wait_for-answer.result) full told));
    }
