use Rattle.planes.proofs.Common.{◌≡◌, ℕ, ◌+◌, ◌*◌, ◌<◌, ◌∙◌, ap, arith, rules, inl, length, length-map, with_items_is, MOST_KEYS, MOST_NODES}
use Rattle.planes.proofs.Places.{plane-within, grid-few, each-next}
use Rattle.planes.proofs.Behind.{each-turned, least-more}
use Rattle.std.proofs.iter.Serving.{serving}
use Rattle.planes.proofs.grids.least_of.Goals as goal

pub loop-key-preserved : goal.loop-key-preserved
loop-key-preserved g c values is =
    let start : ℕ = c.loop-key.key * c.args.size.nodes in
    let within = plane-within c.args.size.nodes c.args.size.keys (c.args.size.keys * c.args.size.nodes) c.loop-key.key c.requires.grid c.loop-key-test.true in
    each-next c.args.size.nodes _ _ _ _ _ (c.loop-key.invariant values is) c.change.ensures
    (λ r x y lt before made.
    let here : start + r < c.args.size.keys * c.args.size.nodes = omega (arith, within, lt) in
    least-more g.N.Number.most c.loop-key.key x y (λ k. values (k * c.args.size.nodes + r) r) before
    (search (rules, is (start + r) r)) (search (rules, is (start + r) r)))

pub returns : goal.returns
returns g c values is =
    let all : c.loop-key.key ≡ c.args.size.keys = omega arith in
    rw (with_items_is c.in_ok-least.least c.loop-key.all (c.loop-key.auto.all ∙ c.deref_mut-all.ensures.len), ← all) (c.loop-key.invariant values is)

pub loop-key-init : goal.loop-key-init
loop-key-init g c values is = rw c.deref_mut-all.ensures.value (each-turned _ _ _ _ c.in_ok-least.ensures (λ r n now. record {
  upto = omega (arith, now, c.greatest.ensures);
  fits = λ k lt. absurd (omega arith);
  no_less = λ k lt. absurd (omega arith);
  is = inl (now ∙ c.greatest.ensures);
}))

pub change-requires : goal.change-requires
change-requires g c = record {
  to = λ r n lt is.
      let start : ℕ = c.loop-key.key * c.args.size.nodes in
      let within = plane-within c.args.size.nodes c.args.size.keys (c.args.size.keys * c.args.size.nodes) c.loop-key.key c.requires.grid c.loop-key-test.true in
      let numbers = c.in_ok-least.ensures in let size = ap length c.deref_mut-all.ensures.value in
      let below : r < c.args.size.nodes = omega (arith, lt, c.loop-key.auto.all, size, numbers.size, length-map c.in_ok-least.least.items g.N.Number.number) in
      let here : start + r < c.args.size.keys * c.args.size.nodes = omega (arith, within, below) in let asks = c.requires.value (start + r) r here below in
      let few : start + r < MOST_KEYS * MOST_NODES = omega (arith, here, grid-few _ _ _ c.requires.grid) in
      grind serving;
}
