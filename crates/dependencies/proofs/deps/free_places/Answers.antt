use Rattle.dependencies.proofs.Common.{◌≡◌, ◌++◌, ◌<◌, None, length, ap, ◌∙◌, arith, range_with_len, filter}
use Rattle.dependencies.specs.declared.deps.Before.{Before}
use Rattle.dependencies.specs.Neighbours.{as_list, predecessors_of, is_first_ready}
use Rattle.dependencies.proofs.Passes.{free_kept, free_passed, length_each, each_at}
use Rattle.dependencies.proofs.deps.free_places.Goals.{then-count-eq0+in_ok-push, else-count-eq0}
use Rattle.dependencies.proofs.deps.free_places.Goals as goal

pub loop-i-preserved : goal.loop-i-preserved
loop-i-preserved c es waits =
    let i = c.loop-i.i in
    let within : i < length es = omega (arith, length_each (predecessors_of es) c.args.before.now (length es) waits) in
    let at = each_at (predecessors_of es) c.args.before.now (length es) i (record { first = None; second = None }) waits within in
    let count_is = c.count.ensures ∙ ap (λ (b : Before). length (as_list b.first ++ as_list b.second)) at in
    let so_far = c.loop-i.invariant es waits in
    elim c.if-count-eq0.branch [
      | then-count-eq0+in_ok-push w ↦ rw (w.free-is, w.in_ok-push.ensures.items) (free_kept es i c.loop-i.free.items c.count.result count_is so_far w.if-count-eq0.true)
      | else-count-eq0 w ↦ rw w.free-is (free_passed es i c.loop-i.free.items c.count.result count_is so_far w.if-count-eq0.false)
    ]

pub returns-clause-value : goal.returns-clause-value
returns-clause-value c es waits =
    let end : c.loop-i.i ≡ length es = omega (arith, length_each (predecessors_of es) c.args.before.now (length es) waits) in
    c.loop-i.invariant es waits ∙ ap (λ n. filter (is_first_ready es) (range_with_len 0 n)) end
