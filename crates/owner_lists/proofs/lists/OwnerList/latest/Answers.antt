use Rattle.owner_lists.proofs.Common.{sym, subst, written}
use Rattle.owner_lists.specs.Latest.{IsLatest}
use Rattle.owner_lists.proofs.lists.OwnerList.latest.Goals as goal

pub returns : goal.returns
returns c =
    let l = c.self.inside in
    subst (λ ws. IsLatest ws (written c.args.self.now)) (sym c.deref.ensures.value) (subst (λ v. IsLatest l.latest.items (written v)) c.self.view_is c.self.invariant.ends)
