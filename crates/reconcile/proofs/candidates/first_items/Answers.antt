use Rattle.reconcile.proofs.Common.{[], ◌∷◌, take, get_or, sym, subst, take_more, no_item}
use Rattle.reconcile.specs.inner.Parcels.{AddsFitting}
use Rattle.reconcile.proofs.Adding.{adds-append}
use Rattle.reconcile.proofs.candidates.first_items.Goals as goal

pub loop-item-preserved : goal.loop-item-preserved
loop-item-preserved c =
    let is = c.args.items.now in
    let at = c.loop-item.item-index in
    subst (λ xs. AddsFitting xs c.in_ok-parcel.parcel c.add.new.self) (sym (take_more is at no_item c.loop-item-test.true))
    (adds-append (take at is) (get_or is at no_item ∷ []) c.in_ok-parcel.parcel c.loop-item.parcel c.add.new.self c.loop-item.invariant c.in_ok-add.ensures.added)
