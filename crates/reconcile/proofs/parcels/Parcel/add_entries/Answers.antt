use Rattle.reconcile.proofs.Common.{[], ◌∷◌, map, take, get_or, subst}
use Rattle.reconcile.specs.inner.Newer.{item_with}
use Rattle.reconcile.specs.inner.Parcels.{AddsFitting}
use Rattle.reconcile.proofs.Adding.{adds-append}
use Rattle.reconcile.proofs.Ranked.{no_entry}
use Rattle.reconcile.proofs.SuffixLayers.{map-more}
use Rattle.reconcile.proofs.parcels.Parcel.add_entries.Goals as goal

pub loop-entry-preserved : goal.loop-entry-preserved
loop-entry-preserved c =
    let es = c.args.entries.now in
    let at = c.loop-entry.entry-index in
    let item = item_with c.args.owner (get_or es at no_entry) in
    subst (λ is. AddsFitting is c.args.self.now c.add.new.self) (map-more (item_with c.args.owner) es at no_entry c.loop-entry-test.true)
    (adds-append (map (item_with c.args.owner) (take at es)) (item ∷ []) c.args.self.now c.loop-entry.self c.add.new.self c.loop-entry.invariant c.in_ok-add.ensures.added)
