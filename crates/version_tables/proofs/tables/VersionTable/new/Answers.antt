use Rattle.version_tables.proofs.OwnCalls.{lies-kept, lies-table, starts}
use Rattle.version_tables.proofs.tables.VersionTable.new.Goals as goal

pub invariant_of-result : goal.invariant_of-result
invariant_of-result g c =
    lies-kept (starts g.H.Written.lists _ _ _ c.requires.node c.requires.sizes c.in_ok-cells.ensures c.in_ok-greatest.ensures)

pub returns-clause-empty : goal.returns-clause-empty
returns-clause-empty g c =
    lies-table (starts g.H.Written.lists _ _ _ c.requires.node c.requires.sizes c.in_ok-cells.ensures c.in_ok-greatest.ensures)
