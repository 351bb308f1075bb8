use Rattle.std.specs.Prelude.{Option, Some, IfSome}
use Rattle.cluster.proofs.Common.{◌≡◌, ◌+◌, ◌<◌, if◌then◌else◌, length, get_or, ap, subst, sym, ◌∙◌, arith, writes_before, AreWritesOf}
use Rattle.cluster.proofs.Ahead.{AreWritesUpto, writes_more, counted_before, all_writes_of}
use Rattle.cluster.proofs.plans.writes_of.Goals as goal
use Rattle.cluster.proofs.plans.writes_of.Goals.{then-forgets_now, else-forgets_now}

told : {X : Type 0} (P : X → Type 0) {o : Option X} {x : X} → o ≡ Some x → IfSome o P → P x
told P is p = subst (λ o. IfSome o P) is p

-- how many there were before
counted : (c : goal.After-push_reserved) → c.if-forgets_now.count ≡ length (writes_before c.args.of.scenario.now c.loop-node.node c.args.of.round)
counted c =
    let s = c.args.of.scenario.now in
    let n = c.loop-node.node in
    let counts = c.in-Some.before.now in
    let below : n < s.nodes = omega (arith, c.loop-node-test.true, c.nodes-node-end.ensures.value) in
    let before = counted_before s n c.args.of.round counts c.requires.first below (told _ c.in-Some.is c.requires.counts) in
    elim c.if-forgets_now.branch [
      | then-forgets_now w ↦ w.count-is ∙ ap (λ b. if b then 0 else get_or counts n 0) w.if-forgets_now.ensures ∙ before
      | else-forgets_now w ↦ w.count-is ∙ ap (λ b. if b then 0 else get_or counts n 0) w.if-forgets_now.ensures ∙ before
    ]

pub writes_by-requires-clause-fits : goal.writes_by-requires-clause-fits
writes_by-requires-clause-fits c =
    let few = (told _ c.in-Some.is c.requires.counts).few c.loop-node.node (omega (arith, c.loop-node-test.true, c.nodes-node-end.ensures.value)) in
    elim c.if-forgets_now.branch [ then-forgets_now w ↦ omega (arith, w.count-is) | else-forgets_now w ↦ omega (arith, w.count-is, few, c.requires.last) ]

pub loop-node-preserved : goal.loop-node-preserved
loop-node-preserved c = (
  subst (AreWritesUpto c.args.of.scenario.now c.args.of.round (c.loop-node.node + 1)) (sym c.push_reserved.ensures.items)
      (writes_more c.loop-node.invariant.0
      (subst (λ k. AreWritesOf c.args.of.scenario.now c.loop-node.node c.args.of.round k c.writes_by.result) (counted c) c.writes_by.ensures)),
  c.push_reserved.ensures.capacity ∙ c.loop-node.invariant.1,
)

pub push_reserved-requires : goal.push_reserved-requires
push_reserved-requires c =
    omega (
      arith,
      c.loop-node.writes.ok.0,
      c.loop-node.invariant.0.count,
      c.loop-node.invariant.1,
      (told _ c.in-Some.is c.requires.counts).count,
      c.loop-node-test.true,
      c.nodes-node-end.ensures.value,
    )

pub returns-clause-writes : goal.returns-clause-writes
returns-clause-writes c =
    all_writes_of c.loop-node.invariant.0 (omega (arith, c.loop-node-test.false, c.loop-node.auto.node-end, c.nodes-node-end.ensures.value))
