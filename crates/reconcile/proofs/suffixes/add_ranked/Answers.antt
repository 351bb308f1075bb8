use Rattle.reconcile.proofs.Common.{map, take, get_or, subst, flat_map}
use Rattle.reconcile.specs.inner.Newer.{item_with}
use Rattle.reconcile.specs.inner.Parcels.{AddsFitting}
use Rattle.reconcile.specs.inner.Suffixes.{ranked}
use Rattle.reconcile.proofs.Adding.{adds-append}
use Rattle.reconcile.proofs.SuffixLayers.{no_suffix, suffixes-more}
use Rattle.reconcile.proofs.suffixes.add_ranked.Goals as goal

pub loop-suffix-preserved : goal.loop-suffix-preserved
loop-suffix-preserved c =
    let suffixes = c.args.suffixes.now in
    let at = c.loop-suffix.suffix-index in
    let part = ranked c.args.rank in
    let suffix = get_or suffixes at no_suffix in
    let sends = subst (λ es. AddsFitting (map (item_with suffix.owner) es) c.loop-suffix.parcel c.add_entries.new.self) c.entries_ranked.ensures c.in_ok-add_entries.ensures.added in
    subst (λ is. AddsFitting is c.args.parcel.now c.add_entries.new.self) (suffixes-more part suffixes at no_suffix c.loop-suffix-test.true)
    (adds-append (flat_map part (take at suffixes)) (part suffix) c.args.parcel.now c.loop-suffix.parcel c.add_entries.new.self c.loop-suffix.invariant sends)
