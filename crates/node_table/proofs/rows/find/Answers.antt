use Rattle.node_table.proofs.Common.{sym}
use Rattle.node_table.proofs.InLayout.{entry_in-found, entry_in-absent}
use Rattle.node_table.proofs.rows.find.Goals as goal

pub returns-then-index-row : goal.returns-then-index-row
returns-then-index-row c = sym (entry_in-found c.args.row.now c.args.key c.index_of-index.result _ c.index_of-index.ensures c.if-index-row.true)

pub returns-else-index-row : goal.returns-else-index-row
returns-else-index-row c = sym (entry_in-absent c.args.row.now c.args.key c.index_of-index.result c.index_of-index.ensures c.if-index-row.false)
