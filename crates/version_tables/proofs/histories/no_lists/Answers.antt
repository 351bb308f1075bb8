use Rattle.version_tables.proofs.Common.{◌+◌, ◌∙◌, ap, ◌∷◌, [], length-append, get_or_append_left, get_or_push, get_or_past, arith, no_writes, subst, AreNoWrites}
use Rattle.version_tables.proofs.histories.no_lists.Goals as goal

pub loop-preserved : goal.loop-preserved
loop-preserved c =
    let xs = c.loop.lists.items in rw (c.in_ok-push.ensures.items, c.new.ensures) (record {
      count = length-append xs _ ∙ ap (λ n. n + 1) c.loop.invariant.count;
      empty = λ owner. grind (arith, get_or_append_left xs (no_writes ∷ []), get_or_push xs no_writes no_writes, get_or_past, c.loop.invariant.empty owner);
    })

pub returns-clause-lists : goal.returns-clause-lists
returns-clause-lists c =
    subst (λ n. AreNoWrites n c.loop.lists.items) {x = c.loop.counter} (omega (arith, c.loop-test.false, c.loop.auto.counter-end)) c.loop.invariant
