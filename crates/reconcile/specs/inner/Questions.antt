-- What a delta answers. Source: this project.
use Rattle.std.specs.Prelude.{◌≡◌, ◌<◌}
use Rattle.bench_types.specs.declared.exchanges.DigestKind.{DigestKind}
use Rattle.bench_types.specs.Mode.{digest_kind}
use Rattle.model.specs.Table.{IsProper}
use Rattle.model.specs.Deltas.{DeltaView}
use Rattle.reconcile.specs.Answers.{answer_of}
use Rattle.reconcile.specs.Digests.{IsOfKind}
use Rattle.reconcile.specs.declared.questions.Question.{Question}

-- a digest of this kind, in a mode of it, asks a table of as many nodes
pub record IsAsked (kind : DigestKind) (q : Question) : Type 0 where
  pub mode : digest_kind q.turns.mode ≡ kind
  pub proper : IsProper q.table.now.table
  pub of_kind : IsOfKind kind q.digest.now
  pub told : q.digest.now.nodes ≡ q.table.now.table.nodes
  pub nodes : q.turns.nodes ≡ q.table.now.table.nodes
  pub rotation : q.turns.rotation < q.turns.nodes

-- the delta that answers
abbrev pub answer_to : Question → DeltaView
answer_to q = answer_of q.turns.mode q.turns.rotation q.budget q.table.now.table q.receiver q.digest.now
