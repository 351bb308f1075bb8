use Rattle.owner_writes.proofs.Common.{ap, ◌∙◌, arith, begun_generation}
use Rattle.owner_writes.proofs.Keeping.{view_begun, kept_begun}
use Rattle.owner_writes.proofs.writes.OwnerWrites.begin_generation.Goals as goal

pub invariant_of-self : goal.invariant_of-self
invariant_of-self c = kept_begun _ _ _ c.self.invariant _ (omega (arith, c.len-self-inside.ensures, c.self.inside.kept.ok.0))

pub returns : goal.returns
returns c = view_begun _ c.self.inside.earlier _ _ (omega (arith, c.len-self-inside.ensures, c.self.inside.kept.ok.0)) ∙ ap begun_generation c.self.view_is
