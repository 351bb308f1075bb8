-- One tactic at a goal that a field let through makes false, so that the check says so quickly.
use Rattle.scenario.proofs.Common.{rules}
use Rattle.scenario.proofs.fields.only_fields.Goals as goal

pub returns-else-has_only : goal.returns-else-has_only
returns-else-has_only c = search rules
