use Rattle.std.proofs.Common.{ap, ◌∙◌}
use Rattle.bench_types.specs.declared.exchanges.Fate.TheVariants as fate
use Rattle.model.specs.Exchanged.{sent_until}
use Rattle.exchange.proofs.Cases.{lost1_case}
use Rattle.exchange.proofs.exchanges.exchange.Goals as goal

pub returns-then-plan-clause-ok : goal.returns-then-plan-clause-ok
returns-then-plan-clause-ok c =
    lost1_case c.args.rules.now c.args.plan.now c.args.initiator.now.table c.args.responder.now.table _ _ c.in_ok-digest1.ensures.ok c.if-plan.true
    (λ size2 back forth. c.sent_before_an_answer.ensures size2 back forth ∙ ap (λ size1. sent_until fate.Lost1 size1 size2 back forth) c.size.ensures)
