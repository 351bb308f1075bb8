use Rattle.delta_plans.proofs.Common.{AreChanged, all_writes, refl, ◌≡◌, get_or, map, set, ap, ◌∙◌, arith, nat_tests, get_or-set_other, get_or-set_same, length-set, map-set, with_items_is}
use Rattle.delta_plans.specs.Offers.{told_by}
use Rattle.delta_plans.proofs.told_marks.told.Goals as goal

pub returns-clause-told : goal.returns-clause-told
returns-clause-told g c =
    let number = g.N.Number.number in let most = g.N.Number.most in let node = c.args.node in let new = c.match-kind.told.items in
    let put : AreChanged (λ r x y. y ≡ told_by c.args.kind (all_writes c.args.owners.lists.now r) x) (map number c.args.greatest.now) (map number new) =
    elim c.match-kind.branch [
      | goal.in-Scuttle w ↦ rw (w.told-is, w.in-Scuttle.is, c.in_ok-told.ensures.items) (record { size = refl; each = λ r lt. refl })
      | goal.in-Precise w ↦
          let whole = with_items_is c.in_ok-told.told w.put_starts.new.numbers (w.put_starts.auto.numbers ∙ w.deref_mut.ensures.len) in
          rw (w.told-is, w.in-Precise.is, whole) (rw (w.deref_mut.ensures.value, c.in_ok-told.ensures.items) at w.put_starts.ensures)
    ] in
    let size = put.size ∙ c.requires.known.count in let here = get_or-set_same (map number new) node most 0 (omega (arith, c.requires.node, size)) in
    rw (map-set number new node c.greatest.result, c.greatest.ensures) (record {
      size = length-set (map number new) node most ∙ size;
      each = λ r lt.
          let own = λ (e : r ≡ node). ap (λ k. get_or (set (map number new) node most) k 0) e ∙ here in
          grind (arith, nat_tests, own, put.each r (omega (arith, lt, c.requires.known.count)), get_or-set_other (map number new) node r most 0);
    })
