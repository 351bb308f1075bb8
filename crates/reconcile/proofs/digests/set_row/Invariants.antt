use Rattle.reconcile.proofs.Common.{◌≡◌, ◌+◌, ◌<◌, drop, length, All, Entry}
use Rattle.reconcile.specs.inner.Inside.{with_row}
use Rattle.reconcile.proofs.digests.set_row.Given as goal

abbrev pub invariant-loop-entry : goal.invariant-loop-entry
invariant-loop-entry l = record {
  rest : with_row l.start (drop l.entry-index l.row) l.versions ≡ with_row l.start l.row l.initial.versions;
  fits : All (λ (e : Entry). l.start + e.key < length l.versions) l.row;
}
