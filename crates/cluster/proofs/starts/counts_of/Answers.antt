use Rattle.cluster.proofs.Common.{List, ℕ, ◌≡◌, ◌++◌, ◌∙◌, ◌∷◌, [], sym, ap, arith, length, length-map, length-take-le, map, map_more, take, take-length, no_writes}
use Rattle.cluster.specs.inner.Steps.{counted_in}
use Rattle.cluster.proofs.starts.counts_of.Goals as goal

pub loop-owner-preserved : goal.loop-owner-preserved
loop-owner-preserved g c =
    let lists = (g.K.RoundHistories.kept c.args.histories.now).lists in
    let owner = c.loop-owner.owner in (
      c.push_reserved.ensures.items ∙ ap (λ (ks : List ℕ). ks ++ c.count.result ∷ []) c.loop-owner.invariant.0
          ∙ ap (λ k. map counted_in (take owner lists) ++ k ∷ []) c.count.ensures
          ∙ sym (map_more counted_in lists owner no_writes (omega (arith, c.loop-owner-test.true, c.requires.one_each, c.nodes-nodes.ensures.value))),
      c.push_reserved.ensures.capacity ∙ c.loop-owner.invariant.1,
    )

pub push_reserved-requires : goal.push_reserved-requires
push_reserved-requires g c =
    let lists = (g.K.RoundHistories.kept c.args.histories.now).lists in
    let owner = c.loop-owner.owner in
    let made = length-take-le owner lists (omega (arith, c.loop-owner-test.true, c.requires.one_each, c.nodes-nodes.ensures.value)) in
    omega (
      arith,
      c.loop-owner.counts.ok.0,
      ap length c.loop-owner.invariant.0,
      length-map (take owner lists) counted_in,
      made,
      c.loop-owner.invariant.1,
      c.loop-owner-test.true,
    )

pub returns-clause-counts : goal.returns-clause-counts
returns-clause-counts g c =
    let lists = (g.K.RoundHistories.kept c.args.histories.now).lists in
    let all : c.loop-owner.owner ≡ length lists =
    omega (arith, c.loop-owner-test.false, c.loop-owner.auto.owner-end, c.requires.one_each, c.nodes-nodes.ensures.value) in
    c.loop-owner.invariant.0 ∙ ap (λ n. map counted_in (take n lists)) all ∙ ap (map counted_in) (take-length lists)
