use Rattle.planner.proofs.Common.{◌≡◌, List, [], ◌∷◌, length, map, replicate, refl, ap, ◌∙◌, Exchange}
use Rattle.planner.specs.declared.schedules.Stage.TheVariants.{Waiting}
use Rattle.planner.specs.Stages.{standing_of, waiting_at_first}
use Rattle.planner.proofs.schedules.Schedule.new.Goals as goal

all_wait : (es : List Exchange) → replicate (length es) Waiting ≡ map waiting_at_first es
all_wait [] = refl
all_wait (e ∷ es) = ap (λ stages. Waiting ∷ stages) (all_wait es)

pub returns-in-Ok-clause-opens : goal.returns-in-Ok-clause-opens
returns-in-Ok-clause-opens c = ap (standing_of c.args.deps) (c.in-Ok.ensures.waiting ∙ ap (λ n. replicate n Waiting) c.len.ensures.value ∙ all_wait c.args.deps.exchanges)
