use Rattle.planes.proofs.Common.{ℕ, ◌+◌, ◌<◌, ◌∙◌, arith, ap, length, if◌then◌else◌}
use Rattle.planes.proofs.Elementwise.{number-at}
use Rattle.planes.proofs.Counts.{one_le, count_next, count_same}
use Rattle.planes.proofs.planes.how_many_of.Goals as goal

pub loop-i-preserved : goal.loop-i-preserved
loop-i-preserved g c =
    let at : ℕ = c.args.from + c.loop-i.i in let within : at < length c.args.plane.now = omega arith in
    let read = number-at g.N.Number.number c.args.plane.now at c.index-plane-r.result within c.index-plane-r.is in
    record {
      upto = omega (arith, one_le c.passes.result);
      count = λ test is count before.
          count_next _ at _ count _ _ (c.loop-i.invariant.count test is count before) (omega arith) c.plus-count.ensures (ap (λ b. if b then 1 else 0)
          (is at c.index-plane-r.result c.passes.result within c.passes.ensures ∙ ap (test at) read));
    }

pub returns-clause-count : goal.returns-clause-count
returns-clause-count g c test is count before = count_same _ _ _ _ _ (c.loop-i.invariant.count test is count before) (omega arith) (omega arith)
