use Rattle.reconcile.proofs.Common.{◌≡◌, ◌++◌, take}
use Rattle.reconcile.specs.inner.Newer.{newer_items}
use Rattle.reconcile.proofs.candidates.push_newer.Given as goal

abbrev pub invariant-loop-entry : goal.invariant-loop-entry
invariant-loop-entry l = l.found.items ≡ l.initial.found.items ++ newer_items l.digest l.owner (take l.entry-index l.row)
