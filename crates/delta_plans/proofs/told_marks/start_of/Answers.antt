use Rattle.delta_plans.proofs.Common.{arith, nat_tests, sym, ◌∙◌, list_of_owner, length, ◌<◌}
use Rattle.delta_plans.proofs.Starts.{start_own}
use Rattle.delta_plans.proofs.told_marks.start_of.Goals as goal

pub returns-then-is_above : goal.returns-then-is_above
returns-then-is_above g c =
    let known = c.requires.is_known in
    let over : length (list_of_owner c.args.owners.lists.now c.args.owner).earlier < g.N.Number.number c.args.number =
    grind (arith, nat_tests, c.if-is_above.true, c.is_above.ensures, c.number_at-base.ensures, known.based) in
    c.number_at-base.ensures ∙ known.based ∙ sym (start_own (list_of_owner c.args.owners.lists.now c.args.owner) _ known.writes over known.within)
