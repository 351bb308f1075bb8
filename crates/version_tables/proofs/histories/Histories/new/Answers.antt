use Rattle.version_tables.proofs.Common.{arith}
use Rattle.version_tables.proofs.HistoryCalls.{histories-empty, nodes-are}
use Rattle.version_tables.proofs.histories.Histories.new.Goals as goal

pub invariant_of-result : goal.invariant_of-result
invariant_of-result g c =
    nodes-are (histories-empty g.H.Written.lists g.N.Number.most c.args.nodes c.args.keys c.in_ok-no_lists.field-0.items
    (omega (arith, g.met.N.Number.counts_keys)) c.requires c.in_ok-no_lists.ensures.lists c.in_ok-zeros.ensures
    c.in_ok-zeros-2.ensures c.in_ok-zeros-3.ensures c.in_ok-zeros-4.ensures)
