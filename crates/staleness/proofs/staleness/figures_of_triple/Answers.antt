use Rattle.staleness.proofs.Common.{tables_in, length-tables_in, arith}
use Rattle.staleness.proofs.Totals.{born_read}
use Rattle.staleness.proofs.staleness.figures_of_triple.Goals as goal

pub staleness_of-staleness-requires-clause-born : goal.staleness_of-staleness-requires-clause-born
staleness_of-staleness-requires-clause-born c =
    born_read c.args.round (tables_in c.args.tables.now) c.args.lists.now c.requires.countable c.args.triple.owner c.index-lists-owner.result
    (omega (arith, c.requires.owner, length-tables_in c.args.tables.now)) c.index-lists-owner.is
