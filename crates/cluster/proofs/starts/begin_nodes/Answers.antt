use borrow.Author.Rules.{scaled_fits≤}
use Rattle.cluster.proofs.Common.{IfOk-weaker, length, length-map, ◌≤◌, Err, Ok, OnOk, Result, get_or, map, refl, sym, subst, arith, AreWrittenBy, HistoriesView}
use Rattle.cluster.specs.inner.InMemory.{HasBegun}
use Rattle.cluster.proofs.Ahead.{counts_told}
use Rattle.cluster.proofs.starts.begin_nodes.Given as given
use Rattle.cluster.proofs.Begins.{begun_none, before_next, begun_next, begun_all}
use Rattle.cluster.proofs.Standing.{next_round, still_ended, written_by}
use Rattle.cluster.specs.calls.Standing.{StandAfterRound}
use Rattle.cluster.specs.calls.Clusters.{HaveEnded}
use Rattle.cluster.proofs.starts.begin_nodes.Goals as goal

pub loop-node-init : goal.loop-node-init
loop-node-init g c = (begun_none c.requires.standing, c.requires.ended)

pub bounds-tables-at : goal.bounds-tables-at
bounds-tables-at g c =
    omega (
      arith,
      c.loop-node-test.true,
      c.nodes-node-end.ensures.value,
      c.loop-node.invariant.0.table_count,
      length-map c.loop-node.tables g.T.MemoryTable.table,
    )

pub offset_bounds-tables-at : goal.offset_bounds-tables-at
offset_bounds-tables-at g c =
    let room : c.loop-node.node ≤ length c.args.tables.now =
    omega (
      arith,
      c.loop-node-test.true,
      c.nodes-node-end.ensures.value,
      c.requires.standing.table_count,
      length-map c.args.tables.now g.T.MemoryTable.table,
    ) in search scaled_fits≤

pub begin_node-requires-clause-before : goal.begin_node-requires-clause-before
begin_node-requires-clause-before g c _ _ = record {
  first = c.requires.round.first;
  last = c.requires.round.last;
  node = before_next g.T.MemoryTable.table c.args.start.now.scenario.now c.args.start.now.round (map g.T.MemoryTable.table c.args.tables.now)
      c.loop-node.tables (g.K.RoundHistories.kept c.loop-node.histories).lists c.loop-node.node c.loop-node.invariant.0
      (omega (arith, c.loop-node-test.true, c.nodes-node-end.ensures.value))
      c.index-tables-at.result (get_or c.loop-node.tables c.loop-node.node c.index-tables-at.result) refl;
  ended = c.loop-node.invariant.1;
}

pub loop-node-preserved : goal.loop-node-preserved
loop-node-preserved g c = (
  begun_next g.T.MemoryTable.table c.args.start.now.scenario.now c.args.start.now.round (map g.T.MemoryTable.table c.args.tables.now) c.loop-node.tables
      (g.K.RoundHistories.kept c.loop-node.histories).lists c.loop-node.node c.loop-node.invariant.0
      (omega (arith, c.loop-node-test.true, c.nodes-node-end.ensures.value)) c.index-tables-at.result
      c.begin_node.new.table (g.K.RoundHistories.kept c.begin_node.new.histories).lists
      c.in_ok-begin_node.ensures.table c.in_ok-begin_node.ensures.owner c.in_ok-begin_node.ensures.others.others,
  still_ended c.in_ok-begin_node.ensures.others.beside c.loop-node.invariant.1,
)

pub end_writes-requires-clause-left : goal.end_writes-requires-clause-left
end_writes-requires-clause-left g c = omega (arith, next_round c.requires.round.first c.loop-node.invariant.1, c.requires.round.last)

pub end_writes-requires-clause-written : goal.end_writes-requires-clause-written
end_writes-requires-clause-written g c =
    subst (λ r. AreWrittenBy r (g.K.RoundHistories.kept c.loop-node.histories).lists) (sym (next_round c.requires.round.first c.loop-node.invariant.1))
    (written_by c.args.start.now.scenario.now c.args.start.now.round _ _ (begun_all _ _ _ _ _ c.loop-node.node c.loop-node.invariant.0
    (omega (arith, c.loop-node-test.false, c.loop-node.auto.node-end, c.nodes-node-end.ensures.value))).1)

-- all nodes have begun
has_begun : (g : given.Over) (c : goal.In_ok-end_writes g)
    → HasBegun g.T.MemoryTable.table g.K.RoundHistories.kept g.K.Exchanging.fits c.args.start.now.scenario.now c.args.start.now.round
    c.args.tables.now c.loop-node.tables c.end_writes.new.self
has_begun g c =
    let s = c.args.start.now.scenario.now in
    let begun = begun_all _ _ _ _ _ c.loop-node.node c.loop-node.invariant.0
    (omega (arith, c.loop-node-test.false, c.loop-node.auto.node-end, c.nodes-node-end.ensures.value)) in
    let kept = c.in_ok-end_writes.ensures.kept in
    record {
      standing = subst (λ (h : HistoriesView). StandAfterRound s c.args.start.now.round (map g.T.MemoryTable.table c.loop-node.tables)
          h.lists) (sym kept) begun.1;
      tables = begun.0;
      ended = subst (HaveEnded s c.args.start.now.round) (sym kept)
          (record { keys = c.loop-node.invariant.1.keys; rounds = next_round c.requires.round.first c.loop-node.invariant.1 });
      fits = c.in_ok-end_writes.ensures.fits;
    }

always : {A E P : Type 0} (r : Result A E) → P → OnOk r P
always (Ok x) p = p
always (Err e) p = tt

pub counts_of-requires-clause-one_each : goal.counts_of-requires-clause-one_each
counts_of-requires-clause-one_each g c _ _ = (has_begun g c).standing.list_count

pub returns-clause-begun : goal.returns-clause-begun
returns-clause-begun g c = always c.counts_of.result (has_begun g c.before)

pub returns-clause-counted : goal.returns-clause-counted
returns-clause-counted g c =
    IfOk-weaker c.counts_of.result _ _
    (λ counts are. counts_told c.args.start.now.scenario.now c.args.start.now.round _ _ counts are (has_begun g c.before).standing)
    c.counts_of.ensures.counts
