use Rattle.reconcile.proofs.Common.{◌≡◌, ◌+◌, ◌-◌, ◌<◌, ◌≤◌, All, ap, sym, ◌∙◌, subst, arith, flat_map, amount_of, Item, item_share}
use Rattle.reconcile.specs.inner.Parcels.{first_within}
use Rattle.reconcile.specs.inner.Suffixes.{items_of_suffixes, of_length, layer_of, layered, lengths_first, reversed}
use Rattle.reconcile.proofs.Adding.{some_share, adds-under}
use Rattle.reconcile.proofs.Layers.{layered-next, layered-left, layered-full, layered-whole}
use Rattle.reconcile.proofs.SuffixLayers.{layer-length, within-length}
use Rattle.reconcile.proofs.suffixes.by_length.Goals as goal
use Rattle.reconcile.proofs.suffixes.by_length.Goals.{then-parcel-eq0-via-then-parcel-eq0, then-parcel-eq0-via-else-parcel-eq0+then-len-found}

pub loop-shorter-preserved : goal.loop-shorter-preserved
loop-shorter-preserved c =
    let suffixes = c.args.suffixes.now in
    let all = items_of_suffixes suffixes in
    let most = c.longest-most.result in
    let at = c.loop-shorter.shorter in
    let fits = c.longest-most.ensures.within in
    let so_far = c.loop-shorter.invariant in
    let adds = adds-under c.args.budget _ c.loop-shorter.parcel c.add_long.new.parcel so_far.budget c.in_ok-add_long.ensures.added in
    let layer : flat_map (of_length (most - at)) suffixes ≡ layer_of (lengths_first all) all (reversed most + at) =
    sym (ap (layer_of (lengths_first all) all) {x = reversed most + at} {y = reversed (most - at)} (omega (arith, fits, c.requires.few)) ∙ layer-length suffixes c.requires.suffixes (most - at) (omega (arith, fits, c.requires.few)) c.requires.few) in
    record {
      budget = adds.same;
      items = layered-next (item_share c.args.budget) (some_share c.args.budget) (lengths_first all) all (reversed most) (amount_of c.args.budget) at c.loop-shorter.parcel.items.items c.add_long.new.parcel.items.items _ c.loop-shorter.parcel.left so_far.items so_far.left layer adds.added;
      left = layered-left (item_share c.args.budget) (some_share c.args.budget) (lengths_first all) all (reversed most) (amount_of c.args.budget) at _ c.loop-shorter.parcel.left c.add_long.new.parcel.left so_far.left layer adds.left;
    }

pub returns-then-parcel-eq0-clause-layers : goal.returns-then-parcel-eq0-clause-layers
returns-then-parcel-eq0-clause-layers c =
    let suffixes = c.args.suffixes.now in
    let all = items_of_suffixes suffixes in
    let most = c.longest-most.result in
    let at = c.loop-shorter.shorter in
    let so_far = c.loop-shorter.invariant in
    let items = c.loop-shorter.parcel.items.items in
    let layers : at + (most - at) ≡ most = omega arith in
    let within = within-length suffixes c.requires.suffixes most (omega (arith, c.longest-most.ensures.within, c.requires.few)) c.longest-most.ensures.all in
    record {
      least = reversed most;
      layers = most;
      within = within;
      is = elim c.then-parcel-eq0.branch [
        | then-parcel-eq0-via-then-parcel-eq0 w ↦ layered-full (item_share c.args.budget) (some_share c.args.budget) (lengths_first all) all (reversed most) (amount_of c.args.budget) at (most - at) items c.loop-shorter.parcel.left so_far.items so_far.left w.if-parcel-eq0.true
        | then-parcel-eq0-via-else-parcel-eq0+then-len-found w ↦
            layered-whole (item_share c.args.budget) (some_share c.args.budget) (lengths_first all) all (reversed most) (amount_of c.args.budget) at (most - at) items so_far.items
            (subst (λ n. All (λ (i : Item). (reversed most ≤ lengths_first all i) × (lengths_first all i < reversed most + n)) all) (sym layers) within)
            (omega (arith, w.if-len-found.true, w.len.ensures, c.loop-shorter.parcel.items.ok.0, c.requires.found))
      ]
          ∙ ap (λ n. first_within c.args.budget (layered (lengths_first all) all (reversed most) n)) layers;
    }

pub returns-clause-layers : goal.returns-clause-layers
returns-clause-layers c =
    let suffixes = c.args.suffixes.now in
    let all = items_of_suffixes suffixes in
    let most = c.longest-most.result in
    record {
      least = reversed most;
      layers = most;
      within = within-length suffixes c.requires.suffixes most (omega (arith, c.longest-most.ensures.within, c.requires.few)) c.longest-most.ensures.all;
      is = c.loop-shorter.invariant.items ∙ ap (λ n. first_within c.args.budget (layered (lengths_first all) all (reversed most) n)) {x = c.loop-shorter.shorter} {y = most} (omega arith);
    }
