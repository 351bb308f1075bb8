use Rattle.node_table.proofs.Common.{sym, ap, ◌∙◌, entry_at, entry_in}
use Rattle.node_table.proofs.InLayout.{entry_at-in, row_past}
use Rattle.node_table.proofs.tables.NodeTable.get.Goals as goal

pub returns-then-owner-self : goal.returns-then-owner-self
returns-then-owner-self c =
    c.find.ensures ∙ ap (λ row. entry_in row c.args.key) c.row.ensures
    ∙ sym (entry_at-in c.self.inside.layout c.args.owner c.args.key)
    ∙ ap (λ k. entry_at k.table c.args.owner c.args.key) c.self.view_is

pub returns-else-owner-self : goal.returns-else-owner-self
returns-else-owner-self c =
    sym (ap (λ row. entry_in row c.args.key) (row_past c.self.inside.layout c.self.invariant c.args.owner c.if-owner-self.false))
    ∙ sym (entry_at-in c.self.inside.layout c.args.owner c.args.key)
    ∙ ap (λ k. entry_at k.table c.args.owner c.args.key) c.self.view_is
