use Rattle.scenario.proofs.Common.{ℕ, ◌+◌, ◌-◌, ◌∙◌, ◌∷◌, arith, OutOfMemory, Ok, Err, map, drop, ap, refl, sym, view}
use Rattle.bench_types.specs.declared.fields.Field.TheVariants as field
use Rattle.scenario.specs.Fields.{◌>>=◌}
use Rattle.scenario.specs.Elements.{array_of}
use Rattle.scenario.specs.inner.Elements.{ascending}
use Rattle.scenario.proofs.Walks.{handed_on, joined_nothing, walk_more, walk_fails, walk_ends, walked}
use Rattle.scenario.proofs.tables.apart_at.Goals as goal

pub returns-in_err-value-clause-refused : goal.returns-in_err-value-clause-refused
returns-in_err-value-clause-refused c =
    handed_on _ c.in_err-value.field-0.0 _ c.from_residual.ensures.1
    (λ _. ap (λ r. r >>= array_of field.PartitionApart >>= ascending field.PartitionApart 0 (c.args.nodes - 1)) c.in_err-value.ensures.fault)

pub returns-in_err-values-clause-refused : goal.returns-in_err-values-clause-refused
returns-in_err-values-clause-refused c =
    handed_on _ c.in_err-values.field-0.0 _ c.from_residual-in_err-values.ensures.1
    (λ _. ap (λ r. r >>= ascending field.PartitionApart 0 (c.args.nodes - 1)) (ap (λ r. r >>= array_of field.PartitionApart) c.in_ok-value.ensures.ok
    ∙ c.in_err-values.ensures.fault))

pub loop-value-init : goal.loop-value-init
loop-value-init c = rw c.new-apart.ensures.items (joined_nothing _)

pub overflow_sub-nodes : goal.overflow_sub-nodes
overflow_sub-nodes c = omega (arith, c.requires)

pub returns-in_err-node-clause-refused : goal.returns-in_err-node-clause-refused
returns-in_err-node-clause-refused c =
    let l = c.loop-value in
    let vs = c.in_ok-values.values.now in
    let rest = map view (drop (l.value-index + 1) vs) in
    let from = λ (least : ℕ). ascending field.PartitionApart least (c.args.nodes - 1) in
    let fault = c.in_err-node.field-0.0 in
    handed_on _ fault _ c.from_residual-in_err-node.ensures.1 (λ _.
    walked _ (from 0) (map view vs) (Err fault) (ap (λ r. r >>= array_of field.PartitionApart) c.in_ok-value.ensures.ok ∙ c.in_ok-values.ensures.ok)
    (walk_fails (from 0 (map view vs)) (from l.least) vs l.value-index l.apart.items l.invariant c.value-item.result fault c.loop-value-test.true
    c.value-item.is
    (ap (λ r. r >>= (λ n. from (n + 1) rest >>= (λ ns. Ok (n ∷ ns)))) (sym c.in_err-node.ensures.answer))))

pub returns-in_err-push-clause-refused : goal.returns-in_err-push-clause-refused
returns-in_err-push-clause-refused c = handed_on _ OutOfMemory _ c.from_residual-in_err-push.ensures.1 (λ other. absurd (other refl))

pub overflow_add-least : goal.overflow_add-least
overflow_add-least c = omega (arith, c.in_ok-node.ensures.within.1, c.requires, c.ranges.nodes.fits)

pub loop-value-preserved : goal.loop-value-preserved
loop-value-preserved c =
    let l = c.loop-value in
    let vs = c.in_ok-values.values.now in
    let rest = map view (drop (l.value-index + 1) vs) in
    let from = λ (least : ℕ). ascending field.PartitionApart least (c.args.nodes - 1) in
    let node = c.in_ok-node.node in
    rw c.in_ok-push.ensures.items (walk_more (from 0 (map view vs)) (from l.least) vs l.value-index l.apart.items l.invariant c.value-item.result node
    (from (node + 1) rest) c.loop-value-test.true c.value-item.is
    (ap (λ r. r >>= (λ n. from (n + 1) rest >>= (λ ns. Ok (n ∷ ns)))) (sym c.in_ok-node.ensures.answer)))

pub returns-clause-ok : goal.returns-clause-ok
returns-clause-ok c =
    let l = c.loop-value in
    let vs = c.in_ok-values.values.now in
    let from = λ (least : ℕ). ascending field.PartitionApart least (c.args.nodes - 1) in
    walked _ (from 0) (map view vs) (Ok l.apart.items)
    (ap (λ r. r >>= array_of field.PartitionApart) c.in_ok-value.ensures.ok ∙ c.in_ok-values.ensures.ok)
    (walk_ends (from 0 (map view vs)) (from l.least) vs l.value-index l.apart.items l.invariant c.loop-value-test.false refl)
