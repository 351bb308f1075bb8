use Rattle.staleness.proofs.Common.{◌≡◌, ◌+◌, ◌<◌, Bool, List, [], length, sym, ap, ◌∙◌, subst, arith, IsTrue, ◌↔◌, lists_in, list_read, length-lists_in, length-tables_in, tables_in, table_indexed, table_of_node, writes_of_owner, written, Table, Write}
use Rattle.staleness.specs.inner.Totals.{IsCurrent, AreCurrent}
use Rattle.staleness.proofs.Skipped.{current_more}
use Rattle.staleness.proofs.Totals.{born_read}
use Rattle.staleness.proofs.staleness.current_nodes.Goals as goal

pub is_current-requires-clause-born : goal.is_current-requires-clause-born
is_current-requires-clause-born c =
    born_read c.args.round (tables_in c.args.tables.now) c.args.lists.now c.requires c.loop-node.node c.index-lists-node.result
    (omega (arith, c.loop-node-test.true, length-tables_in c.args.tables.now)) c.index-lists-node.is

pub loop-node-preserved : goal.loop-node-preserved
loop-node-preserved c =
    let node = c.loop-node.node in
    let tables = c.args.tables.now in
    let lists = c.args.lists.now in
    let below : node < length lists = omega (arith, c.loop-node-test.true, c.requires.one_list_each, length-lists_in lists, length-tables_in tables) in
    let table_is = table_indexed tables node c.index-tables-node.result c.loop-node-test.true c.index-tables-node.is in
    let list_is : writes_of_owner (lists_in lists) node ≡ written c.index-lists-node.result = list_read lists node c.index-lists-node.result [] below ∙ sym (ap written c.index-lists-node.is) in
    let told : (t : Table) (ws : List Write) → Type 0 = λ t ws. IsTrue c.is_current.result ↔ IsCurrent c.args.round t ws in
    let here : told (table_of_node (tables_in tables) node) (writes_of_owner (lists_in lists) node) =
    subst (λ t. told t (writes_of_owner (lists_in lists) node)) table_is
    (subst (λ ws. told c.index-tables-node.result.table ws) (sym list_is) c.is_current.ensures) in
    subst (AreCurrent c.args.round (tables_in tables) (lists_in lists) (node + 1)) (sym {A = List Bool} c.in_ok-push.ensures.items)
    (current_more c.args.round (tables_in tables) (lists_in lists) node c.loop-node.current.items c.is_current.result c.loop-node.invariant here)
