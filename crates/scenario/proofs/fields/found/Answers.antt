use Rattle.scenario.proofs.Common.{table_get}
use Rattle.scenario.proofs.fields.found.Goals as goal

pub returns : goal.returns
returns c =
    rw (← c.name.ensures) (table_get c.get.result c.name.result.now c.args.table.now.entries c.get.ensures.value)
