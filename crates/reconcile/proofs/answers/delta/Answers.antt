use Rattle.reconcile.proofs.Told.{answered}
use Rattle.reconcile.proofs.answers.delta.Goals as goal

pub returns-in-Scuttle-clause-of_tables : goal.returns-in-Scuttle-clause-of_tables
returns-in-Scuttle-clause-of_tables c = (answered c.args.mode c.args.rotation c.args.budget c.args.table.now.table c.args.receiver c.args.digest.now c.scuttle_delta.result c.nodes.ensures.proper c.requires.nodes c.requires.keys c.scuttle_delta.ensures.ok).0

pub returns-in-Scuttle-clause-sound : goal.returns-in-Scuttle-clause-sound
returns-in-Scuttle-clause-sound c = (answered c.args.mode c.args.rotation c.args.budget c.args.table.now.table c.args.receiver c.args.digest.now c.scuttle_delta.result c.nodes.ensures.proper c.requires.nodes c.requires.keys c.scuttle_delta.ensures.ok).1

pub returns-in-Precise-clause-of_tables : goal.returns-in-Precise-clause-of_tables
returns-in-Precise-clause-of_tables c = (answered c.args.mode c.args.rotation c.args.budget c.args.table.now.table c.args.receiver c.args.digest.now c.precise_delta.result c.nodes.ensures.proper c.requires.nodes c.requires.keys c.precise_delta.ensures.ok).0

pub returns-in-Precise-clause-sound : goal.returns-in-Precise-clause-sound
returns-in-Precise-clause-sound c = (answered c.args.mode c.args.rotation c.args.budget c.args.table.now.table c.args.receiver c.args.digest.now c.precise_delta.result c.nodes.ensures.proper c.requires.nodes c.requires.keys c.precise_delta.ensures.ok).1
