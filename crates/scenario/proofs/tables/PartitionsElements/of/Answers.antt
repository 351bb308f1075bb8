use Rattle.scenario.proofs.Common.{table_view}
use Rattle.scenario.proofs.Lawful.{apart_lawful}
use Rattle.scenario.proofs.tables.PartitionsElements.of.Goals as goal

pub returns-clause-lawful : goal.returns-clause-lawful
returns-clause-lawful c =
    let (ascending, apart) = apart_lawful c.args.nodes c.requires (table_view c.in_ok-table.table.now) c.in_ok-apart.apart.items c.in_ok-apart.ensures.ok in
    record { from = c.in_ok-from.ensures.within; to = c.in_ok-to.ensures.within; ascending = ascending; apart = apart }
