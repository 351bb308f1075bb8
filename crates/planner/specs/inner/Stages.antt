-- How far an exchange is, where there is one. Source: this project.
use Rattle.std.specs.Prelude.{ℕ, Bool, true, List, Option, None, Some}
use Rattle.planner.specs.declared.schedules.Stage.{Stage}
use Rattle.planner.specs.Stages.{is_over, stage_in}

-- there is none, or it is done
abbrev pub none_or_over : List Stage → Option ℕ → Bool
none_or_over stages None = true
none_or_over stages (Some i) = is_over (stage_in stages i)
