use Rattle.std.proofs.Common.{◌≡◌, ◌<◌, ◌+◌, ℕ, List, length, get_or, slice_index, arith, ap, sym, subst, refl, ◌∙◌}
use Rattle.std.proofs.lemmas.Grind.{get_or_default_zero}
use Rattle.crew.specs.Named.{tray_count}
use Rattle.crew.specs.Parts.{TellsOfPart}
use Rattle.crew.proofs.parts.LookJobJob.carry_out.Goals as goal

-- what is at two bounds next to each other
module _ {S : Type 0} (of : S → ℕ → ℕ → Type 0) (v w : S) (xs ys : List ℕ) (i x y : ℕ) where
  bound : (k z : ℕ) → xs ≡ ys → k < length ys → z ≡ get_or xs k z → z ≡ slice_index ys k
  bound k z same within is = is ∙ ap (λ zs. get_or zs k z) same ∙ get_or_default_zero ys k z within

  at_bounds : v ≡ w → xs ≡ ys → i + 1 < length ys → x ≡ get_or xs i x → y ≡ get_or xs (i + 1) y
      → of w (slice_index ys i) (slice_index ys (i + 1)) ≡ of v x y
  at_bounds whole same within from to = rw (whole, bound i x same (omega (arith, within)) from, bound (i + 1) y same within to) refl

pub look-answer-requires : goal.look-answer-requires
look-answer-requires g c =
    let place = c.self.inside.place in
    let of = c.self.invariant.of_shared in
    subst (λ (t : Type 0). t)
    (at_bounds g.S.Parted.may _ _ _ _ place _ _ (ap (λ s. s.divided.whole) c.deref.ensures) (ap (λ s. s.divided.bounds.items) c.deref.ensures)
    (omega (arith, of.one_each, c.self.invariant.within)) c.index.ensures c.index-2.ensures)
    (of.may_each place (omega (arith, of.one_each, c.self.invariant.within)))

pub leave-requires-clause-within : goal.leave-requires-clause-within
leave-requires-clause-within g c = subst (λ s. c.self.inside.place < tray_count s.trays) (sym c.deref-2.ensures) c.self.invariant.within

pub leave-requires-clause-kept : goal.leave-requires-clause-kept
leave-requires-clause-kept g c =
    let place = c.self.inside.place in
    let of = c.self.invariant.of_shared in
    subst (λ d. TellsOfPart g.S.Parted.tells d.whole d.bounds.items place c.look-answer.result)
    (sym (ap (λ s. s.trays.table.shared.key.value.0.value) c.deref-2.ensures ∙ of.labelled))
    (subst (λ (t : Type 0). t)
    (sym (at_bounds (λ s from to. g.S.Parted.tells s from to c.look-answer.result) _ _ _ _ place _ _
    (ap (λ s. s.divided.whole) c.deref.ensures) (ap (λ s. s.divided.bounds.items) c.deref.ensures)
    (omega (arith, of.one_each, c.self.invariant.within)) c.index.ensures c.index-2.ensures))
    c.look-answer.ensures)
