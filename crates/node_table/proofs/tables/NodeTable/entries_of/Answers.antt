use Rattle.node_table.proofs.Common.{subst, sym, ◌<◌, absent}
use Rattle.node_table.specs.Entries.{AreAbove}
use Rattle.node_table.proofs.InLayout.{whole_row}
use Rattle.node_table.proofs.tables.NodeTable.entries_of.Goals as goal

pub returns-clause-entries : goal.returns-clause-entries
returns-clause-entries c =
    subst (λ k. AreAbove k.table c.args.owner absent c.row.result.now) c.self.view_is
    (subst (AreAbove _ c.args.owner absent) (sym c.row.ensures) (whole_row c.self.inside.layout c.self.invariant c.args.owner (subst (λ k. c.args.owner < k.table.nodes) (sym c.self.view_is) c.requires)))
