use Rattle.owner_lists.proofs.Common.{Some, sym, ap, ◌∙◌, write_of_entry, entry_kept}
use Rattle.owner_lists.proofs.Last.{first_here, first_later, first_nowhere}
use Rattle.owner_lists.proofs.lists.first_from.Goals as goal

pub returns-then-write-key : goal.returns-then-write-key
returns-then-write-key c =
    let k = c.index-writes-at.result in
    let same = sym c.index-writes-at.is in
    sym (c.loop-at.invariant
    ∙ first_here c.args.writes.now c.args.key c.loop-at.at k c.loop-at-test.true (ap (λ x. x.key) same ∙ c.if-write-key.true)
    ∙ ap (λ x. Some (write_of_entry (entry_kept x))) same
    ∙ (λ i. Some (record (write_of_entry (entry_kept k)) { key = c.if-write-key.true i })))

pub loop-at-preserved : goal.loop-at-preserved
loop-at-preserved c =
    let k = c.index-writes-at.result in
    c.loop-at.invariant
    ∙ first_later c.args.writes.now c.args.key c.loop-at.at k c.loop-at-test.true (λ same. c.if-write-key.false (ap (λ x. x.key) c.index-writes-at.is ∙ same))

pub returns : goal.returns
returns c = sym (c.loop-at.invariant ∙ first_nowhere c.args.writes.now c.args.key c.loop-at.at c.loop-at-test.false)
