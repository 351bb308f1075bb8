use Rattle.reconcile.proofs.Common.{◌≡◌, ◌+◌, ◌<◌, get_or, refl, sym, ap, ◌∙◌, subst, arith, rules, eqb-true, Mark, IsUpTo, before-false}
use Rattle.reconcile.proofs.Found.{AreFound, none_there, told_alike, greatest_there, found-own, found-none, found-more}
use Rattle.reconcile.proofs.suffixes.suffixes_above.Goals as goal
use Rattle.reconcile.proofs.suffixes.suffixes_above.Goals.{then-owner-receiver+then-told-owner+in_ok-push, else-owner-receiver, else-owner-receiver-via-then-owner-receiver+else-told-owner, else-owner-receiver-via-else-owner-receiver}
use Rattle.reconcile.proofs.suffixes.suffixes_above.Goals.{then-owner-receiver-2+then-is_before+in_ok-push-2, else-owner-receiver-2, else-owner-receiver-2-via-then-owner-receiver-2+else-is_before, else-owner-receiver-2-via-else-owner-receiver-2}
use Rattle.reconcile.proofs.suffixes.suffixes_above.Goals.{then-is_empty+then-is_empty-2+else-loop-owner-test, else-is_empty+else-loop-owner-else-is_empty-test}

pub loop-owner-preserved : goal.loop-owner-preserved
loop-owner-preserved c =
    let t = c.args.table.now.table in
    let told = c.args.digest.now in
    let owner = c.loop-owner.owner in
    let suffixes = c.loop-owner.suffixes.items in
    let so_far = c.loop-owner.invariant in
    let proper = c.nodes-owner-end.ensures.proper in
    let gs_told = c.generations-generations_told.result.now in
    let gs_held = c.generations-generations_held.result.now in
    let versions_told = c.all_greatest-told.result.now in
    let versions_held = c.greatest_versions-held.result.now in
    let mark : Mark = record { generation = get_or gs_told owner 0; version = get_or versions_told owner 0 } in
    let held : Mark = record { generation = 0; version = get_or versions_held owner 0 } in
    let lt : owner < t.nodes = omega (arith, c.loop-owner-test.true, c.nodes-owner-end.ensures.value) in
    let none_held = none_there gs_held owner (eqb-true _ 0 (sym c.is_empty-then-is_empty.ensures ∙ c.if-is_empty-2.true)) in
    elim c.if-owner-receiver.branch [
      | then-owner-receiver+then-told-owner+in_ok-push w ↦
          let alike = told_alike owner w.mark_in.result gs_told versions_told w.mark_in.ensures.generation w.mark_in.ensures.version told (sym c.generations-generations_told.ensures) c.all_greatest-told.ensures.versions in
          subst (AreFound t told c.args.receiver (owner + 1)) (sym (ap (λ v. v.items) w.suffixes-is ∙ w.in_ok-push.ensures.items))
          (found-more t told c.args.receiver owner suffixes so_far w.mark_in.result w.above-entries.result.now w.if-owner-receiver.true alike w.above-entries.ensures.entries _ (search rules) (search rules))
      | else-owner-receiver w ↦
          let alike = told_alike owner mark gs_told versions_told refl refl told (sym c.generations-generations_told.ensures) c.all_greatest-told.ensures.versions in
          let greatest = greatest_there owner held gs_held versions_held (sym none_held) refl t lt c.generations-generations_held.ensures.generations c.greatest_versions-held.ensures.versions in
          subst (AreFound t told c.args.receiver (owner + 1)) (sym (ap (λ v. v.items) w.suffixes-is))
          (elim w.else-owner-receiver.branch [
            | else-owner-receiver-via-then-owner-receiver+else-told-owner w' ↦
                found-none t told c.args.receiver owner suffixes so_far mark w'.if-owner-receiver.true alike proper
                (subst (λ m. IsUpTo m mark) greatest (record { generation = omega arith; version = λ _. w'.if-told-owner.false }))
            | else-owner-receiver-via-else-owner-receiver w' ↦ found-own t told c.args.receiver owner suffixes so_far w'.if-owner-receiver.false
          ])
    ]

pub loop-owner-else-is_empty-preserved : goal.loop-owner-else-is_empty-preserved
loop-owner-else-is_empty-preserved c =
    let t = c.args.table.now.table in
    let told = c.args.digest.now in
    let owner = c.loop-owner-else-is_empty.owner in
    let suffixes = c.loop-owner-else-is_empty.suffixes.items in
    let so_far = c.loop-owner-else-is_empty.invariant in
    let proper = c.nodes-owner-end-else-is_empty.ensures.proper in
    let gs_told = c.generations-generations_told.result.now in
    let gs_held = c.generations-generations_held.result.now in
    let mark = c.mark_in-mark.result in
    let lt : owner < t.nodes = omega (arith, c.loop-owner-else-is_empty-test.true, c.nodes-owner-end-else-is_empty.ensures.value) in
    let alike = told_alike owner mark gs_told c.all_greatest-told.result.now c.mark_in-mark.ensures.generation c.mark_in-mark.ensures.version told (sym c.generations-generations_told.ensures) c.all_greatest-told.ensures.versions in
    elim c.if-owner-receiver-2.branch [
      | then-owner-receiver-2+then-is_before+in_ok-push-2 w ↦
          subst (AreFound t told c.args.receiver (owner + 1)) (sym (ap (λ v. v.items) w.suffixes-is ∙ w.in_ok-push-2.ensures.items))
          (found-more t told c.args.receiver owner suffixes so_far mark w.above-entries-then-is_before.result.now w.if-owner-receiver-2.true alike w.above-entries-then-is_before.ensures.entries _ (search rules) (search rules))
      | else-owner-receiver-2 w ↦
          subst (AreFound t told c.args.receiver (owner + 1)) (sym (ap (λ v. v.items) w.suffixes-is))
          (elim w.else-owner-receiver-2.branch [
            | else-owner-receiver-2-via-then-owner-receiver-2+else-is_before w' ↦
                let held = w'.mark_in-then-owner-receiver-2.result in
                let greatest = greatest_there owner held gs_held c.greatest_versions-held.result.now w'.mark_in-then-owner-receiver-2.ensures.generation w'.mark_in-then-owner-receiver-2.ensures.version t lt c.generations-generations_held.ensures.generations c.greatest_versions-held.ensures.versions in
                found-none t told c.args.receiver owner suffixes so_far mark w'.if-owner-receiver-2.true alike proper
                (subst (λ m. IsUpTo m mark) greatest (before-false mark held (sym w'.is_before.ensures ∙ w'.if-is_before.false)))
            | else-owner-receiver-2-via-else-owner-receiver-2 w' ↦ found-own t told c.args.receiver owner suffixes so_far w'.if-owner-receiver-2.false
          ])
    ]

found : (c : goal.Joined-is_empty) → AreFound c.args.table.now.table c.args.digest.now c.args.receiver c.args.table.now.table.nodes c.if-is_empty.suffixes.items
found c =
    let t = c.args.table.now.table in
    let told = c.args.digest.now in
    elim c.if-is_empty.branch [
      | then-is_empty+then-is_empty-2+else-loop-owner-test w ↦
          let all : w.loop-owner.owner ≡ t.nodes = omega (arith, w.loop-owner.auto.owner-end, w.loop-owner-test.false, w.nodes-owner-end.ensures.value) in
          subst (λ v. AreFound t told c.args.receiver t.nodes v.items) (sym w.suffixes-is) (subst (λ n. AreFound t told c.args.receiver n w.loop-owner.suffixes.items) all w.loop-owner.invariant)
      | else-is_empty+else-loop-owner-else-is_empty-test w ↦
          let all : w.loop-owner-else-is_empty.owner ≡ t.nodes = omega (arith, w.loop-owner-else-is_empty.auto.owner-end, w.loop-owner-else-is_empty-test.false, w.nodes-owner-end-else-is_empty.ensures.value) in
          subst (λ v. AreFound t told c.args.receiver t.nodes v.items) (sym w.suffixes-is) (subst (λ n. AreFound t told c.args.receiver n w.loop-owner-else-is_empty.suffixes.items) all w.loop-owner-else-is_empty.invariant)
    ]

pub returns-clause-all : goal.returns-clause-all
returns-clause-all c = (found c).all

pub returns-clause-rise : goal.returns-clause-rise
returns-clause-rise c = (found c).rise

pub returns-clause-suffixes : goal.returns-clause-suffixes
returns-clause-suffixes c = (found c).are
