use Rattle.delta_plans.proofs.TurnSteps.{part-entries, part-none}
use Rattle.delta_plans.proofs.sharing.Turns.weight_of_part.Goals as goal

pub returns-in-Entries : goal.returns-in-Entries
returns-in-Entries g c = part-entries c.requires.turns c.requires.owner c.requires.count c.in-Entries.field-0 c.in-Entries.is

pub returns-in-Bytes : goal.returns-in-Bytes
returns-in-Bytes g c = part-none c.requires.turns c.requires.owner c.requires.count c.if-count-eq0.true

pub weight_from-requires : goal.weight_from-requires
weight_from-requires g c = record { is_offer = c.requires.turns.offer; in_nodes = c.requires.owner }
