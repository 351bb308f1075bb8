use Rattle.cluster.proofs.Common.{◌≡◌, ◌-◌, ap, sym, ◌∙◌, subst, arith, begun_generation, list_of_owner, generation_upto_le}
use Rattle.cluster.proofs.Standing.{none_restarts, restarted_forgot, restarted_kept, restarted_same, stays_same, stays_without}
use Rattle.cluster.proofs.starts.restart.Goals as goal

pub forget-requires : goal.forget-requires
forget-requires g c =
    let is = c.requires.before.node.owner in
    let lists = (g.K.RoundHistories.kept c.args.histories.now).lists in
    record {
      may = record {
        owner = omega (arith, is.table.node, c.requires.before.node.node, c.requires.before.node.one_each);
        generation = is.generation ∙ sym is.list_generation ∙ ap (λ m. (list_of_owner lists m).generation) (sym is.table.node);
        few = omega (arith, is.generation, generation_upto_le c.args.start.now.scenario.now c.args.node (c.args.start.now.round - 1), c.requires.before.last);
      };
    }

pub returns-then-forgets_now-clause-owner : goal.returns-then-forgets_now-clause-owner
returns-then-forgets_now-clause-owner g c =
    let s = c.args.start.now.scenario.now in
    let old = (g.K.RoundHistories.kept c.args.histories.now).lists in
    let new = (g.K.RoundHistories.kept c.forget.new.self).lists in
    let list : list_of_owner new c.args.node ≡ begun_generation (list_of_owner old c.args.node) =
    subst (λ m. list_of_owner new m ≡ begun_generation (list_of_owner old m)) c.requires.before.node.owner.table.node c.forget.ensures.kept.lists.changed in
    rw (c.forget.ensures.table, list) (restarted_forgot s c.args.start.now.round c.args.node c.requires.before.first (g.T.MemoryTable.table c.args.table.now)
    (list_of_owner old c.args.node) c.requires.before.node.owner (sym c.if-forgets_now.ensures))

pub returns-else-forgets_now-clause-owner : goal.returns-else-forgets_now-clause-owner
returns-else-forgets_now-clause-owner g c =
    let s = c.args.start.now.scenario.now in
    let list = list_of_owner (g.K.RoundHistories.kept c.args.histories.now).lists c.args.node in
    rw c.restart.ensures (restarted_kept s c.args.start.now.round c.args.node c.requires.before.first (g.T.MemoryTable.table c.args.table.now) list
    c.requires.before.node.owner (sym c.if-forgets_now.ensures))

-- where no restart is due, none forgets
pub returns-else-restarts_now-clause-owner : goal.returns-else-restarts_now-clause-owner
returns-else-restarts_now-clause-owner g c =
    restarted_same c.args.start.now.scenario.now c.args.start.now.round c.args.node c.requires.before.first (g.T.MemoryTable.table c.args.table.now)
    (list_of_owner (g.K.RoundHistories.kept c.args.histories.now).lists c.args.node) c.requires.before.node.owner
    (stays_without c.args.start.now.scenario.now c.args.node c.args.start.now.round (sym c.if-restarts_now.ensures))

pub returns-else-restarts_now-clause-table : goal.returns-else-restarts_now-clause-table
returns-else-restarts_now-clause-table g c =
    sym (stays_same c.args.start.now.scenario.now c.args.node c.args.start.now.round (g.T.MemoryTable.table c.args.table.now) (sym c.if-restarts_now.ensures))

-- where no node restarts, this one doesn't
pub returns-then-not-start-clause-owner : goal.returns-then-not-start-clause-owner
returns-then-not-start-clause-owner g c =
    let s = c.args.start.now.scenario.now in
    let list = list_of_owner (g.K.RoundHistories.kept c.args.histories.now).lists c.args.node in
    let none = none_restarts s c.args.node c.args.start.now.round (sym c.requires.plan.restarts ∙ c.if-not-start.true) in
    restarted_same s c.args.start.now.round c.args.node c.requires.before.first (g.T.MemoryTable.table c.args.table.now) list
    c.requires.before.node.owner (stays_without s c.args.node c.args.start.now.round none)

pub returns-then-not-start-clause-table : goal.returns-then-not-start-clause-table
returns-then-not-start-clause-table g c =
    let s = c.args.start.now.scenario.now in
    let none = none_restarts s c.args.node c.args.start.now.round (sym c.requires.plan.restarts ∙ c.if-not-start.true) in
    sym (stays_same s c.args.node c.args.start.now.round (g.T.MemoryTable.table c.args.table.now) none)

pub returns-then-forgets_now-clause-table : goal.returns-then-forgets_now-clause-table
returns-then-forgets_now-clause-table g c = rw (sym c.if-forgets_now.ensures) c.forget.ensures.table

pub returns-else-forgets_now-clause-table : goal.returns-else-forgets_now-clause-table
returns-else-forgets_now-clause-table g c = rw (sym c.if-forgets_now.ensures, sym c.if-restarts_now.ensures) c.restart.ensures
