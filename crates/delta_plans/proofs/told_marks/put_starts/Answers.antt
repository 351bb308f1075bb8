use Rattle.delta_plans.proofs.Common.{◌≡◌, ◌<◌, get_or, sym, ap, ◌∙◌, arith, map, nat_tests, entries_of, list_of_owner, start_of, length-map}
use Rattle.delta_plans.proofs.Starts.{start_own}
use Rattle.delta_plans.proofs.told_marks.put_starts.Goals as goal

pub returns-then-none_upto : goal.returns-then-none_upto
returns-then-none_upto g c =
    let numbers = map g.N.Number.number c.args.numbers.now in let bases = map g.N.Number.number c.args.owners.bases.now in
    record {
      size = c.lower.ensures.least.size;
      each = λ r lt.
          let writes = entries_of (list_of_owner c.args.owners.lists.now r) in let known = c.requires.each r (omega (arith, lt, c.requires.count)) in
          let behind : get_or bases r 0 < get_or numbers r 0 → start_of writes (get_or numbers r 0) ≡ get_or bases r 0 = λ over.
          start_own (list_of_owner c.args.owners.lists.now r) _ known.writes (omega (arith, over, known.based)) known.within ∙ sym known.based in
          let none : get_or numbers r 0 ≡ 0 → start_of writes (get_or numbers r 0) ≡ 0 = ap (start_of writes) in
          let own = c.none_upto.ensures.0 c.if-none_upto.true r lt in
          grind (arith, nat_tests, c.lower.ensures.least.each r lt, own, behind, none);
    }

pub lower-requires : goal.lower-requires
lower-requires g c = record { plane = sym (length-map _ _) ∙ c.requires.base_count ∙ sym c.requires.count ∙ length-map _ _ }

pub none_upto-requires-clause-high : goal.none_upto-requires-clause-high
none_upto-requires-clause-high g c = sym (length-map _ _) ∙ c.requires.base_count ∙ sym c.requires.count ∙ length-map _ _
