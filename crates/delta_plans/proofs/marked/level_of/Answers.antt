use Rattle.delta_plans.proofs.Common.{inl, inr}
use Rattle.delta_plans.proofs.marked.level_of.Goals as goal

pub returns-in-PreciseOldest : goal.returns-in-PreciseOldest
returns-in-PreciseOldest g c =
    let rounds = rw c.of-first.ensures at c.level.ensures in
    elim c.in-PreciseOldest.is [ inl oldest ↦ rw oldest (rw oldest at rounds) | inr newest ↦ rw newest (rw newest at rounds) ]

pub level-requires : goal.level-requires
level-requires g c = c.requires

pub breadth-requires : goal.breadth-requires
breadth-requires g c = record { offer = c.requires.too_large }
