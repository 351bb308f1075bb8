use Rattle.std.proofs.Common.{sym, ◌∙◌}
use Rattle.bench_types.specs.declared.exchanges.Fate.TheVariants as fate
use Rattle.model.specs.Exchanged.{last_fate, sent_until}
use Rattle.exchange.proofs.Cases.{lost2_case, both_case}
use Rattle.exchange.proofs.exchanges.exchange_deltas.Goals as goal

pub returns-then-plan-clause-ok : goal.returns-then-plan-clause-ok
returns-then-plan-clause-ok c =
    lost2_case c.args.rules.now c.args.plan.now c.args.initiator.now.table c.args.responder.now.table _ _ c.requires.digest1 c.requires.digest2 c.requires.came _
    (c.in_ok-back.ensures.delta c.args.initiator.now.table (sym c.node.ensures.value) c.requires.digest1) _ c.if-plan.true
    (λ forth. c.sent_back.ensures c.in_ok-back.back forth c.counts_of-counts_back.ensures.sent c.counts_of-counts_back.ensures.cut ∙ (λ i. sent_until fate.Lost2 (c.size-size1.ensures i) (c.size-size2.ensures i) c.in_ok-back.back forth))

pub returns-clause-ok : goal.returns-clause-ok
returns-clause-ok c =
    both_case c.args.rules.now c.args.plan.now c.args.initiator.now.table c.args.responder.now.table _ _ c.requires.digest1 c.requires.digest2 c.requires.came _
    (c.in_ok-back.ensures.delta c.args.initiator.now.table (sym c.node.ensures.value) c.requires.digest1) _ _ _ _ c.if-plan.false
    (c.in_ok-forth.ensures.delta c.args.responder.now.table (sym c.node-2.ensures.value) c.requires.digest2)
    c.in_ok-take_deltas.ensures.initiator c.in_ok-take_deltas.ensures.responder
    (c.sent_both.ensures c.in_ok-back.back c.in_ok-forth.forth c.counts_of-counts_back.ensures.sent c.counts_of-counts_back.ensures.cut c.counts_of-counts_forth.ensures.sent c.counts_of-counts_forth.ensures.cut
    ∙ (λ i. sent_until (last_fate c.args.plan.now.lost3) (c.size-size1.ensures i) (c.size-size2.ensures i) c.in_ok-back.back c.in_ok-forth.forth))
