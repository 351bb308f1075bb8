use Rattle.owner_lists.proofs.Common.{sym, subst, begun_generation}
use Rattle.owner_lists.specs.inner.Kept.{IsKeptList}
use Rattle.owner_lists.proofs.Keeping.{list_begun}
use Rattle.owner_lists.proofs.lists.OwnerList.begin_generation.Goals as goal

pub invariant_of-self : goal.invariant_of-self
invariant_of-self c =
    let l = c.self.inside in
    subst (λ v. IsKeptList v c.clear.new.self.items) (sym c.begin_generation.ensures)
    (subst (IsKeptList (begun_generation l.writes)) (sym c.clear.ensures.items) (list_begun l.writes l.latest.items c.self.invariant))
