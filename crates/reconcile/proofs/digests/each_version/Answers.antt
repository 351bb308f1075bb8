use Rattle.reconcile.proofs.Common.{◌+◌, length, sym, ap, ◌∙◌, rules, subst, take_at}
use Rattle.reconcile.specs.inner.Inside.{with_row}
use Rattle.reconcile.proofs.Dense.{AreFilled, row-fits, filled-more, length-with_row}
use Rattle.reconcile.proofs.digests.each_version.Goals as goal

pub set_row-requires : goal.set_row-requires
set_row-requires c =
    let t = c.args.table.now.table in
    rw c.deref_mut.ensures.value
    (row-fits t c.entries_of.ensures.proper c.loop-owner.owner c.version_index-in-loop-owner.result c.entries_of.result.now c.loop-owner.versions.items (search rules) (search rules) c.entries_of.ensures.entries c.loop-owner.invariant)

pub loop-owner-preserved : goal.loop-owner-preserved
loop-owner-preserved c =
    let t = c.args.table.now.table in
    let vs = c.loop-owner.versions.items in
    let next = filled-more t c.entries_of.ensures.proper c.loop-owner.owner c.version_index-in-loop-owner.result c.entries_of.result.now vs (search rules) (search rules) c.entries_of.ensures.entries c.loop-owner.invariant in
    let new_is = c.set_row.ensures ∙ ap (with_row c.version_index-in-loop-owner.result c.entries_of.result.now) c.deref_mut.ensures.value in
    let long = ap length new_is ∙ length-with_row c.version_index-in-loop-owner.result c.entries_of.result.now vs ∙ sym c.loop-owner.versions.ok.0 in
    subst (AreFilled t (c.loop-owner.owner + 1)) (sym (take_at c.set_row.new.versions _ c.loop-owner.versions.len long ∙ new_is)) next
