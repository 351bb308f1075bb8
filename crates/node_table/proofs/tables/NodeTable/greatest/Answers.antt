use Rattle.node_table.proofs.Common.{sym, ap, ◌∙◌, greatest_mark}
use Rattle.node_table.proofs.InLayout.{greatest_past}
use Rattle.node_table.proofs.tables.NodeTable.greatest.Goals as goal

pub returns-else-owner-self : goal.returns-else-owner-self
returns-else-owner-self c = sym (greatest_past c.self.inside.layout c.self.invariant c.args.owner c.if-owner-self.false) ∙ ap (λ k. greatest_mark k.table c.args.owner) c.self.view_is
