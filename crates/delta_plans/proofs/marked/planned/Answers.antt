use Rattle.delta_plans.proofs.Common.{ap, ◌∙◌, arith, by_first, first_sent}
use Rattle.delta_plans.proofs.MarkedLaws.{share-marked, whole-marked, whole-size}
use Rattle.delta_plans.proofs.marked.planned.Goals as goal

pub returns-then-fits : goal.returns-then-fits
returns-then-fits g c =
    let offer = c.args.offer.now in
    let same = c.in_ok-mark.ensures.items ∙ c.by_first.ensures ∙ ap (λ first. by_first first offer.high.now offer.low.now) c.of-first.ensures in
    record {
      size = whole-size g.N.Number.number g.N.Number.most offer c.requires.offer (first_sent c.args.mode) _ same;
      marked = whole-marked g.N.Number.number g.N.Number.most offer c.requires.offer c.args.rotation (c.fits.ensures.0 c.if-fits.true) c.args.mode _ same;
      only = tt;
    }

pub overflow_sub-cut : goal.overflow_sub-cut
overflow_sub-cut g c =
    let is = share-marked g.N.Number.number g.N.Number.most c.args.offer.now c.requires.offer c.args.rotation c.args.mode c.in_ok-level.ensures.0
    c.in_ok-share.share.marks.items (rw (c.of-first.ensures, c.deref.ensures.value, c.deref-2.ensures.value) at c.in_ok-share.ensures.0.shared) in
    omega (arith, is.left, c.requires.offer.found)

pub returns : goal.returns
returns g c = record {
  size = c.in_ok-share.ensures.0.size;
  marked = share-marked g.N.Number.number g.N.Number.most c.args.offer.now c.requires.offer c.args.rotation c.args.mode c.in_ok-level.ensures.0
      c.in_ok-share.share.marks.items (rw (c.of-first.ensures, c.deref.ensures.value, c.deref-2.ensures.value) at c.in_ok-share.ensures.0.shared);
  only = tt;
}

pub level_of-requires : goal.level_of-requires
level_of-requires g c =
    record { too_large = record { is_offer = c.requires.offer; beyond = grind (arith, c.fits.ensures, c.if-fits.false) }; are_ends_of = c.requires.ends }
