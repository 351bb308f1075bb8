use Rattle.round_plan.proofs.Listed.{IsListed}
use Rattle.round_plan.proofs.rounds.round_list_by.Given as goal

abbrev pub invariant-loop-choice : goal.invariant-loop-choice
invariant-loop-choice g l = IsListed l.scenario l.round l.choice-index l.exchanges.items l.unreached
