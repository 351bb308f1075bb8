use Rattle.version_tables.proofs.Common.{sym, ◌∙◌, [], exchanged, sent_until, table_in, DeltaView, Lost1}
use Rattle.version_tables.proofs.Merged.{both-stay, laid-both, merged-whole}
use Rattle.version_tables.proofs.exchanges.exchange.Goals as goal

pub returns-then-plan-clause-ok : goal.returns-then-plan-clause-ok
returns-then-plan-clause-ok g c =
    let none : DeltaView = record { items = []; cut = 0 } in
    let p = table_in g.H.Written.lists c.args.initiator.now in let q = table_in g.H.Written.lists c.args.responder.now in
    let sent = c.sent_before_an_answer.ensures 0 none none ∙ (λ i. sent_until Lost1 (c.digest_size-digest1.ensures.size i) 0 none none) in
    (λ i. exchanged c.args.course.now.rules.now (record c.args.course.now.plan.now { lost1 = c.if-plan.true i }) p q)
    ∙ (λ i. record { initiator = p; responder = q; sent = sym sent i })

pub merge-came-requires : goal.merge-came-requires
merge-came-requires g c =
    both-stay c.args.course.now.rules.now c.args.course.now.plan.now
    (laid-both c.requires.known c.requires.may.both c.digest_size-digest1-then-may_merge.ensures.kept c.digest_size-digest2.ensures.kept)
    c.requires.may.rotation (c.may_merge.ensures.0 c.if-may_merge.true)

pub returns-then-may_merge-clause-ok : goal.returns-then-may_merge-clause-ok
returns-then-may_merge-clause-ok g c =
    merged-whole c.args.course.now.rules.now c.args.course.now.plan.now
    (laid-both c.requires.known c.requires.may.both c.digest_size-digest1-then-may_merge.ensures.kept c.digest_size-digest2.ensures.kept)
    c.requires.may.rotation (c.may_merge.ensures.0 c.if-may_merge.true)
    c.merge-came.ensures c.digest_size-digest1-then-may_merge.result c.digest_size-digest2.result c.digest_size-digest1-then-may_merge.ensures.size
    c.digest_size-digest2.ensures.size c.if-plan.false c.if-not-plan.true c.if-not-plan-2.true c.sent_both.result c.sent_both.ensures
