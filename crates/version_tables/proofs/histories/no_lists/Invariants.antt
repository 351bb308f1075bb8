use Rattle.version_tables.proofs.Common.{AreNoWrites}
use Rattle.version_tables.proofs.histories.no_lists.Given as goal

abbrev pub invariant-loop : goal.invariant-loop
invariant-loop l = AreNoWrites l.counter l.lists.items
