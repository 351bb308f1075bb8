-- The delta that answers a digest: its candidates are the sender's items above the marks that the digest tells.
-- Source: this project.
use Rattle.std.specs.Prelude.{◌≡◌, ℕ}
use Rattle.bench_types.specs.declared.exchanges.Mode.{Mode}
use Rattle.bench_types.specs.declared.exchanges.Budget.{Budget}
use Rattle.bench_types.specs.Mode.{digest_kind}
use Rattle.model.specs.Table.{Table, items_of}
use Rattle.model.specs.Candidates.{items_above}
use Rattle.reconcile.specs.Digests.{DigestView, IsDigestOf, told_mark}
use Rattle.model.specs.Deltas.{DeltaView, delta_of, delta_between}

-- what a table sends to a receiver whose digest this is
abbrev pub answer_of : Mode → ℕ → Budget → Table → ℕ → DigestView → DeltaView
answer_of mode rotation budget from receiver told =
    delta_of mode from.nodes rotation budget (items_above (told_mark told) receiver (items_of from))

-- it is the delta to every table of the receiver that this is the digest of
abbrev pub IsDeltaToReceiver : Mode → ℕ → Budget → Table → ℕ → DigestView → DeltaView → Type 0
IsDeltaToReceiver mode rotation budget from receiver told delta =
    (to : Table) → to.node ≡ receiver → IsDigestOf (digest_kind mode) to told
    → delta ≡ delta_between mode rotation budget from to
