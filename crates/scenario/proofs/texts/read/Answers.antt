use Rattle.scenario.proofs.Common.{table_view}
use Rattle.scenario.proofs.OnlyFaultsOfCheck.{OnlyFaultsOfCheck-answer}
use Rattle.scenario.proofs.Order.{first_of-answer, no_fault-answer}
use Rattle.scenario.proofs.Sayings.{Says-answer}
use Rattle.scenario.proofs.texts.read.Goals as goal

pub returns-clause-first : goal.returns-clause-first
returns-clause-first c = rw c.in_ok-table.ensures.ok (first_of-answer (table_view c.in_ok-table.table) _ c.checked.ensures.refused)

pub returns-clause-says : goal.returns-clause-says
returns-clause-says c = rw c.in_ok-table.ensures.ok (Says-answer (table_view c.in_ok-table.table) _ c.checked.ensures.ok)

pub returns-clause-only : goal.returns-clause-only
returns-clause-only c = OnlyFaultsOfCheck-answer (table_view c.in_ok-table.table) _ c.checked.ensures.refused

pub returns-clause-no_fault : goal.returns-clause-no_fault
returns-clause-no_fault c = rw c.in_ok-table.ensures.ok (no_fault-answer (table_view c.in_ok-table.table) _ c.checked.ensures.ok)
