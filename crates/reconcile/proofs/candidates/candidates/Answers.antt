use Rattle.reconcile.proofs.Common.{◌+◌, ap, sym, ◌∙◌, subst, absent}
use Rattle.reconcile.specs.inner.Newer.{AreCandidates}
use Rattle.reconcile.proofs.Newer.{row-keys, newer-row, candidates-own, candidates-more}
use Rattle.reconcile.proofs.candidates.candidates.Goals as goal
use Rattle.reconcile.proofs.candidates.candidates.Goals.{then-owner-receiver+in_ok-push_newer, else-owner-receiver}

pub push_newer-requires-clause-keys : goal.push_newer-requires-clause-keys
push_newer-requires-clause-keys c = rw c.requires.keys (row-keys c.args.table.now.table c.loop-owner.owner absent c.entries_of.result.now c.nodes-owner-end.ensures.proper c.entries_of.ensures.entries)

pub loop-owner-preserved : goal.loop-owner-preserved
loop-owner-preserved c =
    let t = c.args.table.now.table in
    let told = c.args.digest.now in
    let so_far = c.loop-owner.invariant in
    let owner = c.loop-owner.owner in
    elim c.if-owner-receiver.branch [
      | then-owner-receiver+in_ok-push_newer w ↦
          subst (AreCandidates t told c.args.receiver (owner + 1)) (sym (ap (λ v. v.items) w.found-is ∙ w.in_ok-push_newer.ensures.items))
          (candidates-more t told c.args.receiver owner c.loop-owner.found.items w.entries_of.result.now w.if-owner-receiver.true so_far (newer-row t told owner w.entries_of.result.now w.entries_of.ensures.proper w.entries_of.ensures.entries))
      | else-owner-receiver w ↦
          subst (λ v. AreCandidates t told c.args.receiver (owner + 1) v.items) (sym w.found-is)
          (candidates-own t told c.args.receiver owner c.loop-owner.found.items w.if-owner-receiver.false so_far)
    ]
