use Rattle.reconcile.proofs.Common.{◌≡◌, [], ◌∷◌, ◌++◌, true, false, get_or, sym, ap, ◌∙◌, append-nil, Entry, mark_of, is_before}
use Rattle.reconcile.specs.Digests.{told_mark_at}
use Rattle.reconcile.specs.inner.Newer.{item_with}
use Rattle.reconcile.proofs.Newer.{newer_items-more}
use Rattle.reconcile.proofs.Told.{told_up_to-each}
use Rattle.reconcile.proofs.candidates.push_newer.Goals as goal
use Rattle.reconcile.proofs.candidates.push_newer.Goals.{then-is_before+in_ok-push, else-is_before}

pub loop-entry-preserved : goal.loop-entry-preserved
loop-entry-preserved c =
    let digest = c.args.digest.now in
    let owner = c.args.owner in
    let row = c.args.row.now in
    let at = c.loop-entry.entry-index in
    let lt = c.loop-entry-test.true in
    let none : Entry = record { key = 0; generation = 0; version = 0; value = 0; born = 0 } in
    let e = get_or row at none in
    let version = c.versions_of-versions.ensures.each e.key (c.requires.keys at none lt) ∙ sym (told_up_to-each digest.versions digest.keys owner e.key c.requires.kind) in
    let told : record { generation = c.generation-generation.result; version = get_or c.versions_of-versions.result.now e.key 0 } ≡ told_mark_at digest owner e.key =
    λ i. record { generation = c.generation-generation.ensures i; version = version i } in
    let test : is_before (told_mark_at digest owner e.key) (mark_of e) ≡ c.is_before.result = sym (c.is_before.ensures ∙ (λ i. is_before (told i) (c.mark.ensures i))) in
    elim c.if-is_before.branch [
      | then-is_before+in_ok-push w ↦
          ap (λ v. v.items) w.found-is ∙ w.in_ok-push.ensures.items
          ∙ ap (λ is. is ++ item_with owner e ∷ []) c.loop-entry.invariant
          ∙ newer_items-more digest owner row at c.args.found.now.items none true lt (test ∙ w.if-is_before.true)
      | else-is_before w ↦
          ap (λ v. v.items) w.found-is ∙ sym (append-nil c.loop-entry.found.items)
          ∙ ap (λ is. is ++ []) c.loop-entry.invariant
          ∙ newer_items-more digest owner row at c.args.found.now.items none false lt (test ∙ w.if-is_before.false)
    ]
