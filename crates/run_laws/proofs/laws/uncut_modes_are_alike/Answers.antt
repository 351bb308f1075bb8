use Rattle.run_laws.proofs.Alike.{tables_alike, rows_alike}
use Rattle.run_laws.proofs.laws.uncut_modes_are_alike.Goals as goal

pub returns : goal.returns
returns c s lawful rules round first none none' = (
  tables_alike s lawful.nodes.0 lawful.nodes.1 lawful.keys.0 lawful.keys.1 rules round first none none',
  rows_alike s lawful.nodes.0 lawful.nodes.1 lawful.keys.0 lawful.keys.1 rules round first none none',
)
