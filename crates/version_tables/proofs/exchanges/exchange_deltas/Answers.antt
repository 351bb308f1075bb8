use Rattle.version_tables.proofs.Common.{refl, ap, sym, ◌∙◌, map, delta_of_views, exchanged, sent_until, table_in, Lost2}
use Rattle.version_tables.proofs.Taken.{as-many, as-read, exchange_whole, laid-both, marks-come, may-arrive, same-taken, turned}
use Rattle.version_tables.proofs.exchanges.exchange_deltas.Goals as goal

pub returns-then-plan-clause-ok : goal.returns-then-plan-clause-ok
returns-then-plan-clause-ok g c =
    let delta = c.in_ok-back.ensures.delta in let plan = c.args.course.now.plan.now in let rules = c.args.course.now.rules.now in
    let p = table_in g.H.Written.lists c.args.initiator.now in let q = table_in g.H.Written.lists c.args.responder.now in
    let back = delta_of_views rules plan.rotation g.H.Written.lists c.args.responder.now c.args.initiator.now in
    let sent = c.sent_back.ensures back back delta.marks.count delta.marks.left
    ∙ (λ i. sent_until Lost2 (c.digest_size-digest1.ensures.size i) (delta.digest i) back back) in
    (λ i. exchanged rules (record plan { lost1 = c.requires.came i; lost2 = c.if-plan.true i }) p q)
    ∙ (λ i. record { initiator = p; responder = q; sent = sym sent i })

pub take_unless-requires-clause-may : goal.take_unless-requires-clause-may
take_unless-requires-clause-may g c =
    let both = laid-both c.requires.known c.requires.may.both c.greatest.ensures.kept c.greatest-2.ensures.kept in
    let top = ap (map g.N.Number.number) (c.deref.ensures.value ∙ c.in_ok-responder_before.ensures.items) ∙ c.greatest-2.ensures.value in
    let back = marks-come c.in_ok-back.ensures.delta c.of-first.ensures top c.what_comes-came.ensures in
    may-arrive (turned both) back _ c.cells-came_back.ensures.value (λ _ _ _ _. refl) refl

pub take_unless-requires-2-clause-may : goal.take_unless-requires-2-clause-may
take_unless-requires-2-clause-may g c =
    let both = laid-both c.requires.known c.requires.may.both c.greatest.ensures.kept c.greatest-2.ensures.kept in
    let p_top = ap (map g.N.Number.number) (c.deref-2.ensures.value ∙ c.in_ok-initiator_before.ensures.items) ∙ c.greatest.ensures.value in
    let q_top = ap (map g.N.Number.number) (c.deref.ensures.value ∙ c.in_ok-responder_before.ensures.items) ∙ c.greatest-2.ensures.value in
    let back = marks-come c.in_ok-back.ensures.delta c.of-first.ensures q_top c.what_comes-came.ensures in
    let forth = marks-come c.in_ok-forth.ensures.delta c.of-first.ensures p_top c.what_comes-went.ensures in
    let took = as-read _ _ _ _ _ _ c.cells-came_back.ensures.value c.take_unless.ensures in let e = c.args.course.now.plan.now in
    may-arrive both forth _ c.cells-came_forth.ensures.value (same-taken e both back forth _ _ took) (as-many e both back forth _ _ took)

pub returns-clause-ok : goal.returns-clause-ok
returns-clause-ok g c =
    let both = laid-both c.requires.known c.requires.may.both c.greatest.ensures.kept c.greatest-2.ensures.kept in
    let p_top = ap (map g.N.Number.number) (c.deref-2.ensures.value ∙ c.in_ok-initiator_before.ensures.items) ∙ c.greatest.ensures.value in
    let q_top = ap (map g.N.Number.number) (c.deref.ensures.value ∙ c.in_ok-responder_before.ensures.items) ∙ c.greatest-2.ensures.value in
    let back = marks-come c.in_ok-back.ensures.delta c.of-first.ensures q_top c.what_comes-came.ensures in
    let forth = marks-come c.in_ok-forth.ensures.delta c.of-first.ensures p_top c.what_comes-went.ensures in
    exchange_whole c.args.course.now.plan.now both back forth _ c.take_unless.new.table
    (as-read _ _ _ _ _ _ c.cells-came_back.ensures.value c.take_unless.ensures) c.in_ok-forth.forth.digest c.in_ok-back.back.digest
    c.in_ok-forth.ensures.delta.digest c.in_ok-back.ensures.delta.digest c.requires.came c.if-plan.false c.what_comes-came.ensures.nothing _
    c.what_comes-went.ensures.nothing c.take_unless-2.new.table
    (as-read _ _ _ _ _ _ c.cells-came_forth.ensures.value c.take_unless-2.ensures) c.sent_both.result c.sent_both.ensures
