use Rattle.model.proofs.ExchangeLaws.{whole_within_budget}
use Rattle.model.proofs.laws.enough_budget_cuts_nothing.Goals as goal

pub returns : goal.returns
returns c = whole_within_budget
