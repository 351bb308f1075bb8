use Rattle.node_table.proofs.Common.{sym, ap, ◌∙◌, count_of}
use Rattle.node_table.proofs.InLayout.{count_is}
use Rattle.node_table.proofs.tables.NodeTable.count.Goals as goal

pub returns : goal.returns
returns c = sym (count_is c.self.inside.layout c.self.invariant) ∙ ap (λ k. count_of k.table) c.self.view_is
