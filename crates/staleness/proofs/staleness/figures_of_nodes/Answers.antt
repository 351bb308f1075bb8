use Rattle.staleness.proofs.Common.{◌≡◌, ℕ, ◌-◌, ◌<◌, List, length, ap, sym, ◌∙◌, subst, arith, AllZip, range_with_len, nat_range, IfOk-then, nat_range-All, lists_in, tables_in, length-tables_in}
use Rattle.staleness.specs.inner.Totals.{IsCounted}
use Rattle.staleness.proofs.staleness.figures_of_nodes.Goals as goal

-- what threads make of each node, in order
in_order : {X : Type 0} (R : ℕ → X → Type 0) {from to count : ℕ} (nodes : List ℕ) (made : List X) → from ≡ 0 → to ≡ count → nodes ≡ nat_range from to → AllZip R nodes made → AllZip R (range_with_len 0 count) made
in_order R {count = count} nodes made from_is to_is are each =
    let whole : count - 0 ≡ count = omega arith in
    subst (λ ns. AllZip R ns made) (are ∙ (λ i. nat_range (from_is i) (to_is i)) ∙ ap (range_with_len 0) whole) each

pub collect-requires-clause-ready : goal.collect-requires-clause-ready
collect-requires-clause-ready g c κs within =
    let n = length c.args.tables.now in
    let ends = c.into_par_iter.ensures in
    rw (c.map.ensures.base, c.map.ensures.f, c.with_min_len.ensures.base, ends.0, ends.1) (λ k d lt. ((c.requires, c.in_ok-current.ensures, nat_range-All (λ node. node < n) 0 n (λ node low high. high) k d lt), λ y p. tt))

pub returns : goal.returns
returns g c =
    let ends = c.into_par_iter.ensures in
    IfOk-then c.collect.result _ _ c.collect.ensures (λ v h.
    let made = rw (c.map.ensures.base, c.map.ensures.f, c.with_min_len.ensures.base) at h.1 in
    rw h.2 (in_order (IsCounted c.args.round (tables_in c.args.tables.now) (lists_in c.args.lists.now)) made.0 _ ends.0 (ends.1 ∙ sym (length-tables_in c.args.tables.now)) made.1 made.2))
