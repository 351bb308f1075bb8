use Rattle.version_tables.proofs.Common.{◌+◌, ◌∙◌, ap, list_of_owner, write_numbered}
use Rattle.version_tables.proofs.NextWrites.{next-write}
use Rattle.version_tables.proofs.carrying.HistoriesRoundHistoriesVersionTable.write.Goals as goal

pub write_own-requires-clause-next : goal.write_own-requires-clause-next
write_own-requires-clause-next g c =
    let known = c.in_ok-number.ensures.known in
    rw (c.in_ok-number.ensures.number, c.node-node.ensures.value) (next-write g.H.Written.lists c.args.table.now c.node-node.ensures.kept
    (list_of_owner c.args.self.now.lists c.args.table.now.node) (known.writes c.args.table.now.node) (known.so_far c.args.table.now.node).begins
    c.requires.may.beside.generation c.requires.may.beside.greatest g.N.Number.most c.args.key c.args.value (c.args.self.now.rounds + 1) c.requires.may.may)

pub returns-clause-table : goal.returns-clause-table
returns-clause-table g c =
    let number = rw c.node-node.ensures.value at c.in_ok-number.ensures.number in
    c.write_own.ensures _ (ap (write_numbered (g.H.Written.lists c.args.table.now.node)) number ∙ c.requires.may.may.is)
