use Rattle.cluster.proofs.Common.{ℕ, ◌∙◌, [], arith, Table, Settings, ap, sym, subst, get_or_default, on_ok_weaker, with_own_writes, own_writes, count_before, IfSome, AreWritesOf}
use Rattle.cluster.specs.calls.Plans.{AreWritesOfAll}
use Rattle.cluster.proofs.Lent.{lent_written, may_write_lent, planned_now, writes_now}
use Rattle.cluster.specs.inner.InMemory.{IsOwnerIn, IsWritten, MayWriteNow, WritesIn}
use Rattle.cluster.proofs.starts.begin_node.Given as given
use Rattle.cluster.proofs.starts.begin_node.Goals.{After-write_own, After-write_own-in-None}
use Rattle.cluster.proofs.starts.begin_node.Goals as goal

abbrev with_writes : Settings → ℕ → ℕ → Table → Table
with_writes s round n t = with_own_writes t (own_writes s n round (count_before s n round))

pub of_node-words-requires : goal.of_node-words-requires
of_node-words-requires g c = rw c.requires.plan.words (record { node = c.requires.before.node.node; begun = c.requires.round.first })

-- the writes that were worked out beforehand, and those that are now
beforehand : (g : given.Over) (c : After-write_own g)
    → MayWriteNow g.T.MemoryTable.table g.K.RoundHistories.kept c.args.start.now.scenario.now c.args.start.now.round c.args.node
    c.restart.new.table c.restart.new.histories c.index.result.now
beforehand g c =
    let s = c.args.start.now.scenario.now in
    let n = c.args.node in
    let all = subst (λ o. IfSome o (λ v. AreWritesOfAll s c.args.start.now.round v.items)) c.in-Some.is c.requires.plan.writes in
    let below = c.requires.before.node.node in
    let at = get_or_default c.in-Some.writes.items n [] c.index.result.now (omega (arith, all.count, below)) ∙ sym c.index.ensures in
    writes_now g.T.MemoryTable.table g.K.RoundHistories.kept s c.args.start.now.round n c.args.table.now c.restart.new.table c.args.histories.now
    c.restart.new.histories c.index.result.now c.requires.before c.restart.ensures.others c.restart.ensures.owner
    (planned_now all below c.restart.ensures.owner.writes at)

now : (g : given.Over) (c : After-write_own-in-None g)
    → MayWriteNow g.T.MemoryTable.table g.K.RoundHistories.kept c.args.start.now.scenario.now c.args.start.now.round c.args.node
    c.restart.new.table c.restart.new.histories c.writes_by-writes.result
now g c =
    writes_now g.T.MemoryTable.table g.K.RoundHistories.kept c.args.start.now.scenario.now c.args.start.now.round c.args.node c.args.table.now
    c.restart.new.table c.args.histories.now c.restart.new.histories c.writes_by-writes.result c.requires.before c.restart.ensures.others
    c.restart.ensures.owner
    (subst (λ k. AreWritesOf c.args.start.now.scenario.now c.args.node c.args.start.now.round k c.writes_by-writes.result) c.count-count.ensures
    c.writes_by-writes.ensures)

pub write_own-requires-clause-may : goal.write_own-requires-clause-may
write_own-requires-clause-may g c _ _ =
    let s = c.args.start.now.scenario.now in
    let n = c.args.node in
    let all = subst (λ o. IfSome o (λ v. AreWritesOfAll s c.args.start.now.round v.items)) c.in-Some.is c.requires.plan.writes in
    let below = c.requires.before.node.node in
    let at = get_or_default c.in-Some.writes.items n [] c.index.result.now (omega (arith, all.count, below)) ∙ sym c.index.ensures in
    may_write_lent g.T.MemoryTable.table g.K.RoundHistories.kept _ _ _ _ _ _ _
    (writes_now g.T.MemoryTable.table g.K.RoundHistories.kept s c.args.start.now.round n c.args.table.now c.restart.new.table c.args.histories.now
    c.restart.new.histories c.index.result.now c.requires.before c.restart.ensures.others c.restart.ensures.owner
    (planned_now all below c.restart.ensures.owner.writes at))
    c.as_slice.ensures.value c.as_slice.ensures.limit
    g.K.RoundHistories.may_write c.requires.round

pub write_own-requires-in-None-clause-may : goal.write_own-requires-in-None-clause-may
write_own-requires-in-None-clause-may g c _ _ =
    may_write_lent g.T.MemoryTable.table g.K.RoundHistories.kept _ _ _ _ _ _ _
    (writes_now g.T.MemoryTable.table g.K.RoundHistories.kept c.args.start.now.scenario.now c.args.start.now.round c.args.node c.args.table.now
    c.restart.new.table c.args.histories.now c.restart.new.histories c.writes_by-writes.result c.requires.before c.restart.ensures.others
    c.restart.ensures.owner
    (subst (λ k. AreWritesOf c.args.start.now.scenario.now c.args.node c.args.start.now.round k c.writes_by-writes.result) c.count-count.ensures
    c.writes_by-writes.ensures))
    c.as_slice-in-None.ensures.value
    c.as_slice-in-None.ensures.limit g.K.RoundHistories.may_write c.requires.round

-- what the writes leave
left : (g : given.Over) (c : After-write_own g)
    → WritesIn g.T.MemoryTable.table g.K.RoundHistories.kept c.as_slice.result.now c.restart.new.table c.write_own.new.table c.restart.new.histories
    c.write_own.new.histories
    → IsOwnerIn g.T.MemoryTable.table g.K.RoundHistories.kept c.args.start.now.scenario.now c.args.start.now.round c.args.node
    c.write_own.new.table c.write_own.new.histories
    × IsWritten g.T.MemoryTable.table c.args.start.now.scenario.now c.args.start.now.round c.args.node c.restart.new.table c.write_own.new.table
left g c is =
    lent_written g.T.MemoryTable.table g.K.RoundHistories.kept _ _ _ _ _ _ _ (beforehand g c) c.as_slice.ensures.value c.as_slice.ensures.limit _ _
    c.requires.round.first is

left_now : (g : given.Over) (c : After-write_own-in-None g)
    → WritesIn g.T.MemoryTable.table g.K.RoundHistories.kept c.as_slice-in-None.result.now c.restart.new.table c.write_own-in-None.new.table
    c.restart.new.histories c.write_own-in-None.new.histories
    → IsOwnerIn g.T.MemoryTable.table g.K.RoundHistories.kept c.args.start.now.scenario.now c.args.start.now.round c.args.node
    c.write_own-in-None.new.table c.write_own-in-None.new.histories
    × IsWritten g.T.MemoryTable.table c.args.start.now.scenario.now c.args.start.now.round c.args.node c.restart.new.table
    c.write_own-in-None.new.table
left_now g c is =
    lent_written g.T.MemoryTable.table g.K.RoundHistories.kept _ _ _ _ _ _ _ (now g c) c.as_slice-in-None.ensures.value
    c.as_slice-in-None.ensures.limit _ _ c.requires.round.first is

pub returns-in-Some-clause-owner : goal.returns-in-Some-clause-owner
returns-in-Some-clause-owner g c = on_ok_weaker c.write_own.result (λ is. (left g c is).0) c.write_own.ensures.written

pub returns-in-Some-clause-table : goal.returns-in-Some-clause-table
returns-in-Some-clause-table g c =
    on_ok_weaker c.write_own.result
    (λ is. (left g c is).1 ∙ ap (with_writes c.args.start.now.scenario.now c.args.start.now.round c.args.node) c.restart.ensures.table)
    c.write_own.ensures.written

pub returns-in-None-clause-owner : goal.returns-in-None-clause-owner
returns-in-None-clause-owner g c = on_ok_weaker c.write_own-in-None.result (λ is. (left_now g c is).0) c.write_own-in-None.ensures.written

pub returns-in-None-clause-table : goal.returns-in-None-clause-table
returns-in-None-clause-table g c =
    on_ok_weaker c.write_own-in-None.result
    (λ is. (left_now g c is).1 ∙ ap (with_writes c.args.start.now.scenario.now c.args.start.now.round c.args.node) c.restart.ensures.table)
    c.write_own-in-None.ensures.written
