use Rattle.scenario.proofs.Common.{◌+◌, ◌∷◌, [], OutOfMemory, Ok, Err, map, drop, ap, refl, arith, length-append, All-nil, All-push, view}
use Rattle.scenario.specs.Fields.{◌>>=◌}
use Rattle.scenario.specs.Elements.{elements_at}
use Rattle.scenario.specs.inner.Elements.{each}
use Rattle.scenario.proofs.Walks.{handed_on, joined_nothing, walk_more, walk_fails, walk_ends, walked}
use Rattle.scenario.proofs.arrays.array_at.Goals as goal

pub returns-in_err-values-clause-refused : goal.returns-in_err-values-clause-refused
returns-in_err-values-clause-refused g c =
    let check = g.A.Elements.checked c.args.format c.args.nodes in
    handed_on _ c.in_err-values.field-0.0 _ c.from_residual.ensures.1 (λ _. ap (λ r. r >>= each check) c.in_err-values.ensures.fault)

pub loop-value-init : goal.loop-value-init
loop-value-init g c = rw c.new-elements.ensures.items (record { read = joined_nothing _; as_many = refl; lawful = All-nil _ })

pub returns-in_err-of-clause-refused : goal.returns-in_err-of-clause-refused
returns-in_err-of-clause-refused g c =
    let l = c.loop-value in
    let check = g.A.Elements.checked c.args.format c.args.nodes in
    let vs = c.in_ok-values.values.now in
    let more = each check (map view (drop (l.value-index + 1) vs)) in
    let fault = c.in_err-of.field-0.0 in
    handed_on _ fault _ c.from_residual-in_err-of.ensures.1 (λ other.
    walked (elements_at c.args.field _) (each check) (map view vs) (Err fault) c.in_ok-values.ensures.ok
    (walk_fails (each check (map view vs)) (each check) vs l.value-index l.elements.items l.invariant.read c.value-item.result fault c.loop-value-test.true
    c.value-item.is (ap (λ r. r >>= (λ y. more >>= (λ ys. Ok (y ∷ ys)))) {x = check (view c.value-item.result)} (c.in_err-of.ensures.refused other))))

pub returns-in_err-push-clause-refused : goal.returns-in_err-push-clause-refused
returns-in_err-push-clause-refused g c = handed_on _ OutOfMemory _ c.from_residual-in_err-push.ensures.1 (λ other. absurd (other refl))

pub loop-value-preserved : goal.loop-value-preserved
loop-value-preserved g c =
    let l = c.loop-value in
    let check = g.A.Elements.checked c.args.format c.args.nodes in
    let vs = c.in_ok-values.values.now in
    let more = each check (map view (drop (l.value-index + 1) vs)) in
    let done = l.elements.items in
    let x = c.in_ok-of.field-0 in
    rw c.in_ok-push.ensures.items (record {
      read = walk_more (each check (map view vs)) (each check) vs l.value-index done l.invariant.read c.value-item.result x more c.loop-value-test.true
          c.value-item.is (ap (λ r. r >>= (λ y. more >>= (λ ys. Ok (y ∷ ys)))) {x = check (view c.value-item.result)} c.in_ok-of.ensures.ok);
      as_many = omega (arith, length-append done (x ∷ []), l.invariant.as_many);
      lawful = All-push (g.A.Elements.lawful c.args.format c.args.nodes) done x l.invariant.lawful c.in_ok-of.ensures.lawful;
    })

pub returns-clause-ok : goal.returns-clause-ok
returns-clause-ok g c =
    let l = c.loop-value in
    let check = g.A.Elements.checked c.args.format c.args.nodes in
    let vs = c.in_ok-values.values.now in
    walked (elements_at c.args.field _) (each check) (map view vs) (Ok l.elements.items) c.in_ok-values.ensures.ok
    (walk_ends (each check (map view vs)) (each check) vs l.value-index l.elements.items l.invariant.read c.loop-value-test.false refl)

pub of-requires : goal.of-requires
of-requires g c = c.requires

pub returns-clause-lawful : goal.returns-clause-lawful
returns-clause-lawful g c =
    record { few = omega (arith, c.loop-value.invariant.as_many, c.in_ok-values.ensures.few); each = c.loop-value.invariant.lawful }
