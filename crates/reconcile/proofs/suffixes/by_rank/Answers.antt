use Rattle.reconcile.proofs.Common.{◌≡◌, ◌+◌, ◌-◌, ◌≤◌, ltb, length, All, ap, sym, ◌∙◌, subst, arith, rules, filter, flat_map, filter_same, amount_of, item_share, rank_among}
use Rattle.reconcile.specs.inner.Parcels.{first_within}
use Rattle.reconcile.specs.inner.Suffixes.{items_of_suffixes, AreSuffixes, ranked, layer_of, layered}
use Rattle.reconcile.specs.declared.suffixes.Suffix.{Suffix}
use Rattle.reconcile.proofs.Adding.{some_share, adds-under}
use Rattle.reconcile.proofs.Layers.{layered-next, layered-left, layered-full}
use Rattle.reconcile.proofs.SuffixLayers.{layer-ranked, within-ranked, layer-kept, kept-suffixes}
use Rattle.reconcile.proofs.suffixes.by_rank.Goals as goal

pub loop-rank-preserved : goal.loop-rank-preserved
loop-rank-preserved c =
    let all = items_of_suffixes c.args.suffixes.now.items in
    let suffixes = c.loop-rank.suffixes.items in
    let at = c.loop-rank.rank in
    let so_far = c.loop-rank.invariant in
    let adds = adds-under c.args.budget _ c.loop-rank.parcel c.add_ranked.new.parcel so_far.budget c.in_ok-add_ranked.ensures.added in
    let kept : c.retain.new.self.items ≡ filter (λ (r : Suffix). ltb (at + 1) (length r.entries.now)) suffixes =
    filter_same _ (λ (r : Suffix). ltb (at + 1) (length r.entries.now)) _ (λ x b f' k. search rules) _ _ c.retain.ensures.filtered in
    let layer : flat_map (ranked at) c.deref-in-loop-rank.result.now ≡ layer_of (rank_among all) all (0 + at) =
    ap (λ rs. flat_map (ranked at) rs) c.deref-in-loop-rank.ensures.value ∙ so_far.kept at (omega arith)
    ∙ sym (ap (layer_of (rank_among all) all) {x = 0 + at} {y = at} (omega arith) ∙ layer-ranked c.args.suffixes.now.items c.requires.suffixes at) in
    record {
      budget = adds.same;
      items = layered-next (item_share c.args.budget) (some_share c.args.budget) (rank_among all) all 0 (amount_of c.args.budget) at c.loop-rank.parcel.items.items c.add_ranked.new.parcel.items.items _ c.loop-rank.parcel.left so_far.items so_far.left layer adds.added;
      left = layered-left (item_share c.args.budget) (some_share c.args.budget) (rank_among all) all 0 (amount_of c.args.budget) at _ c.loop-rank.parcel.left c.add_ranked.new.parcel.left so_far.left layer adds.left;
      are = subst AreSuffixes (sym kept) (kept-suffixes (λ (r : Suffix). ltb (at + 1) (length r.entries.now)) suffixes so_far.are);
      kept = λ n le. ap (flat_map (ranked n)) kept ∙ layer-kept n (at + 1) suffixes so_far.are.rising le ∙ so_far.kept n (omega (arith, le));
    }

pub returns-then-parcel-eq0-clause-layers : goal.returns-then-parcel-eq0-clause-layers
returns-then-parcel-eq0-clause-layers c =
    let suffixes = c.args.suffixes.now.items in
    let all = items_of_suffixes suffixes in
    let most = c.longest-rank-end.result in
    let at = c.loop-rank.rank in
    let so_far = c.loop-rank.invariant in
    record {
      least = 0;
      layers = most;
      within = within-ranked suffixes c.requires.suffixes most (subst (All (λ (r : Suffix). length r.entries.now ≤ most)) c.deref.ensures.value c.longest-rank-end.ensures.all);
      is = layered-full (item_share c.args.budget) (some_share c.args.budget) (rank_among all) all 0 (amount_of c.args.budget) at (most - at) c.loop-rank.parcel.items.items c.loop-rank.parcel.left so_far.items so_far.left c.if-parcel-eq0.true
          ∙ ap (λ n. first_within c.args.budget (layered (rank_among all) all 0 n)) {x = at + (most - at)} {y = most} (omega arith);
    }

pub returns-clause-layers : goal.returns-clause-layers
returns-clause-layers c =
    let suffixes = c.args.suffixes.now.items in
    let all = items_of_suffixes suffixes in
    let most = c.longest-rank-end.result in
    record {
      least = 0;
      layers = most;
      within = within-ranked suffixes c.requires.suffixes most (subst (All (λ (r : Suffix). length r.entries.now ≤ most)) c.deref.ensures.value c.longest-rank-end.ensures.all);
      is = c.loop-rank.invariant.items ∙ ap (λ n. first_within c.args.budget (layered (rank_among all) all 0 n)) {x = c.loop-rank.rank} {y = most} (omega arith);
    }
