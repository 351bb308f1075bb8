use Rattle.staleness.proofs.Common.{◌≡◌, ◌<◌, ap, ◌∙◌, subst, arith, length, false, AreAbove, absent, copy_figures, lists_in, IsProper, tables_in, length-tables_in, table_indexed}
use Rattle.staleness.specs.inner.Totals.{total_below}
use Rattle.staleness.proofs.Totals.{nodes_read}
use Rattle.staleness.proofs.Skipped.{same_rows, total_skipped}
use Rattle.staleness.proofs.staleness.figures_of_node.Goals as goal
use Rattle.staleness.proofs.staleness.figures_of_node.Goals.{In-loop-owner, After-loop-owner}

-- an owner is one of the nodes
owner_below : (c : In-loop-owner) → c.loop-owner.owner < length c.args.tables.now
owner_below c =
    omega (arith, c.loop-owner-test.true, c.nodes-owner-end.ensures.value, nodes_read c.args.round c.args.tables.now (lists_in c.args.lists.now) c.requires.countable c.args.node c.index-tables-node.result c.requires.node c.index-tables-node.is)

pub entries_of-own-requires : goal.entries_of-own-requires
entries_of-own-requires c =
    let below = owner_below (goal.at.entries_of-own-requires c).In-loop-owner in
    omega (arith, below, nodes_read c.args.round c.args.tables.now (lists_in c.args.lists.now) c.requires.countable c.loop-owner.owner c.index-tables-owner.result below c.index-tables-owner.is)

pub bounds-current-owner : goal.bounds-current-owner
bounds-current-owner c = omega (arith, owner_below (goal.at.bounds-current-owner c).In-loop-owner, c.requires.current.count)

pub figures_of_copy-requires-clause-owner : goal.figures_of_copy-requires-clause-owner
figures_of_copy-requires-clause-owner c = owner_below (goal.at.figures_of_copy-requires-clause-owner c).In-loop-owner

pub loop-owner-preserved-then-eq : goal.loop-owner-preserved-then-eq
loop-owner-preserved-then-eq c =
    let node = c.args.node in
    let owner = c.loop-owner.owner in
    let tables = c.args.tables.now in
    let lists = lists_in c.args.lists.now in
    let below = owner_below (goal.at.loop-owner-preserved-then-eq c).In-loop-owner in
    let of_node = table_indexed tables node c.index-tables-node-in-loop-owner.result c.requires.node c.index-tables-node-in-loop-owner.is in
    let of_owner = table_indexed tables owner c.index-tables-owner.result below c.index-tables-owner.is in
    let own = c.entries_of-own.result.now in
    let copy_is = same_rows c.entries_of-copy.result.now own c.eq.result c.eq.ensures c.if-eq.true in
    record {
      is = total_skipped c.args.round (tables_in tables) lists c.requires.countable node owner
          (omega (arith, c.requires.node, length-tables_in tables)) (omega (arith, below, length-tables_in tables))
          (subst IsProper of_node c.entries_of-copy.ensures.proper) (subst IsProper of_owner c.entries_of-own.ensures.proper) own
          (subst (λ t. AreAbove t owner absent own) of_node (subst (AreAbove c.index-tables-node-in-loop-owner.result.table owner absent) copy_is c.entries_of-copy.ensures.entries))
          (subst (λ t. AreAbove t owner absent own) of_owner c.entries_of-own.ensures.entries)
          ((c.requires.current.each owner false below).0 c.if-current-owner.true)
          c.loop-owner.total c.loop-owner.invariant.is;
      few = record {
        stale = omega (arith, c.loop-owner.invariant.few.stale);
        leftover = omega (arith, c.loop-owner.invariant.few.leftover);
      };
    }

pub returns : goal.returns
returns c =
    let tables = c.args.tables.now in
    let lists = lists_in c.args.lists.now in
    let nodes = nodes_read c.args.round tables lists c.requires.countable c.args.node c.index-tables-node.result c.requires.node c.index-tables-node.is in
    let all : c.loop-owner.owner ≡ length (tables_in tables) = omega (arith, c.loop-owner-test.false, c.loop-owner.auto.owner-end, c.nodes-owner-end.ensures.value, nodes, length-tables_in tables) in
    let limit = c.nodes-owner-end.ensures.proper.nodes_limit in
    record {
      are = c.loop-owner.invariant.is ∙ ap (λ n. total_below n (copy_figures c.args.round (tables_in tables) lists c.args.node)) all;
      few = record {
        stale = omega (arith, c.loop-owner.invariant.few.stale, all, nodes, limit, length-tables_in tables);
        leftover = omega (arith, c.loop-owner.invariant.few.leftover, all, nodes, limit, length-tables_in tables);
      };
      nodes_limit = omega (arith, nodes, limit, length-tables_in tables);
    }
