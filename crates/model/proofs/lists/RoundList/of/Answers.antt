use Rattle.model.proofs.Common.{refl, arith}
use Rattle.model.proofs.lists.RoundList.of.Goals as goal

pub invariant_of-result : goal.invariant_of-result
invariant_of-result c = grind arith

pub returns-then-is_lawful-clause-lawful : goal.returns-then-is_lawful-clause-lawful
returns-then-is_lawful-clause-lawful c = (λ _. invariant_of-result c, λ _. refl)
