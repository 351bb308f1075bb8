use Rattle.delta_plans.proofs.Common.{sym, ◌∙◌}
use Rattle.delta_plans.proofs.WeightLaws.{owner-entries}
use Rattle.delta_plans.proofs.sharing.Turns.weight_from.Goals as goal

pub returns-in-Entries-default : goal.returns-in-Entries-default
returns-in-Entries-default g c =
    c.count_from.ensures ∙ sym (owner-entries c.requires.is_offer c.in-Entries-default.field-0-0 c.in-Entries-default.is-0 c.args.owner c.requires.in_nodes _ _)
