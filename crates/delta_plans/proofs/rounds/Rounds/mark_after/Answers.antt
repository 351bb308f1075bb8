use Rattle.delta_plans.proofs.Common.{◌≡◌, length, map, max, get_or, ap, ◌∙◌, arith, length-map, with_items_is, made-as, by_first, ◌-◌}
use Rattle.delta_plans.proofs.rounds.Rounds.mark_after.Goals as goal

pub returns : goal.returns
returns g c =
    let number = g.N.Number.number in let start = c.deref_mut.ensures.value ∙ c.in_ok-mark.ensures.items in
    let size = c.requires.rounds.too_large.is_offer.low in
    let round : c.match-self.round ≡ by_first c.args.self.now.first c.args.count (c.args.self.now.ends.rounds - c.args.count) =
    elim c.match-self.branch [ goal.in-Newest w ↦ rw w.in-Newest.is w.round-is | goal.in-Oldest w ↦ rw w.in-Oldest.is w.round-is ] in
    let whole = with_items_is c.in_ok-mark.mark c.change.new.numbers (c.change.auto.numbers ∙ c.deref_mut.ensures.len) in (
      rw (whole, ← round) (record {
        size = c.change.ensures.size ∙ length-map c.deref_mut.result.now number ∙ ap length start ∙ size;
        each = λ r lt. made-as number _ r _ _ (λ x. max x (get_or (map number c.row-row.result.now) r 0))
            (c.change.ensures.each r (omega (arith, lt, length-map c.deref_mut.result.now number, ap length start, size))) (λ n m call. call)
            ∙ (λ i. max (get_or (map number (start i)) r 0) (c.row-row.ensures.each r lt i));
      }),
      tt,
    )
