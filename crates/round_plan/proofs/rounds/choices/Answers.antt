use Rattle.round_plan.proofs.Common.{◌<◌, ◌≡◌, ◌-◌, map, ap, ◌∙◌, arith, subst, range_with_len, AllZip-map, nat_range, IfOk-then, nat_range-All}
use Rattle.round_plan.specs.inner.Rounds.{IsNodeInRound, chosen_of}
use Rattle.round_plan.proofs.rounds.choices.Goals as goal

-- the closure may be called at each node
pub collect-requires-clause-ready : goal.collect-requires-clause-ready
collect-requires-clause-ready g c _ _ =
    let end = (λ i. (c.map.ensures.base i).base.end) ∙ (λ i. (c.with_min_len.ensures.base i).end) ∙ c.into_par_iter.ensures.1 ∙ c.nodes.ensures.value in
    let inside = nat_range-All (λ n. IsNodeInRound c.args.drawn.scenario.now n c.args.drawn.round) _ _
    (λ n low high. (subst (λ m. n < m) end high, c.args.drawn.lawful.0, c.args.drawn.lawful.1)) in
    rw c.map.ensures.f (λ k d lt. ((inside k d lt, c.args.drawn.drawn), λ y p. tt))

pub returns : goal.returns
returns g c =
    let ends = c.into_par_iter.ensures in
    let whole : c.nodes.result - 0 ≡ c.args.drawn.scenario.now.nodes = omega (arith, c.nodes.ensures.value) in
    let f = c.map.result.f in
    let base = (λ i. (c.map.ensures.base i).base) ∙ c.with_min_len.ensures.base in
    IfOk-then c.collect.result _ _ c.collect.ensures (λ v h.
    let places = h.1.1 ∙ (λ i. nat_range (base i).start (base i).end) ∙ (λ i. nat_range (ends.0 i) (ends.1 i)) ∙ ap (range_with_len 0) whole in
    h.2 ∙ AllZip-map (chosen_of f.0.now f.1.now) h.1.0 h.0 h.1.2
    ∙ (λ i. map (chosen_of (c.map.ensures.f i).0.now (c.map.ensures.f i).1.now) (places i)))
