use Rattle.delta_plans.proofs.Common.{◌+◌, ◌<◌, Some, refl, sym, ap, ◌∙◌, subst, arith, marks, weight_on, IsFound}
use Rattle.delta_plans.proofs.RoundMarks.{begun, fitted, further, nearer, raised, rounds-level}
use Rattle.delta_plans.proofs.rounds.Rounds.level.Goals as goal

pub loop-few-init : goal.loop-few-init
loop-few-init g c = record { found = begun c.args.self.now c.requires c.amount.ensures; step = omega arith }

pub loop-few-preserved : goal.loop-few-preserved
loop-few-preserved g c =
    let look = rw c.deref.ensures.value at c.look.ensures in
    let some : 0 < c.min-by.result = omega (arith, c.min-by.ensures, c.loop-few.invariant.step, c.loop-few-test.true) in
    let less : c.loop-few.few + c.min-by.result < c.loop-few.enough = omega (arith, c.min-by.ensures, c.loop-few-test.true) in
    elim c.match-look.branch [
      | goal.in-Some w ↦
          let found = further c.args.self.now c.requires _ _ c.in_ok-mark.ensures.0 c.loop-few.invariant.found (rw w.in-Some.is at look) less in
          record { found = rw (w.few-is, w.enough-is, w.fit-is) found; step = omega (arith, w.step-is, some) }
      | goal.in-None w ↦
          let found = nearer c.args.self.now c.requires _ _ c.in_ok-mark.ensures.0 c.loop-few.invariant.found (rw w.in-None.is at look)
          (omega (arith, some)) (omega (arith, less)) in
          record { found = rw (w.few-is, w.enough-is, w.fit-is) found; step = omega (arith, w.step-is, c.loop-few.invariant.step) }
    ]

pub left_of_fit-left-requires : goal.left_of_fit-left-requires
left_of_fit-left-requires g c =
    let fits = fitted c.args.self.now c.requires _ _ c.in_ok-near.ensures.0 c.loop-few.invariant.found in
    record {
      mark = rw c.deref-2.ensures.value (raised c.args.self.now c.requires _ _ c.in_ok-near.ensures.0);
      fit = subst (λ xs. IsFound g.N.Number.number c.args.self.now (marks g.N.Number.number xs) (Some c.loop-few.fit)) (sym c.deref-2.ensures.value) fits;
    }

pub returns : goal.returns
returns g c =
    let all = ap (λ xs. weight_on c.args.self.now.first g.N.Number.number c.args.self.now.offer.now (marks g.N.Number.number xs)) c.deref-2.ensures.value in
    let left = ap (λ n. n + c.left_of_fit-left.result) (sym all) ∙ c.left_of_fit-left.ensures in
    (rounds-level c.args.self.now c.requires c.loop-few.invariant.found c.loop-few-test.false refl c.in_ok-near.ensures.0 c.in_ok-far.ensures.0 left, tt)

pub look-requires : goal.look-requires
look-requires g c = rw c.deref.ensures.value (raised c.args.self.now c.requires _ _ c.in_ok-mark.ensures.0)

pub mark_after-requires-clause-rounds : goal.mark_after-requires-clause-rounds
mark_after-requires-clause-rounds g c = c.requires

pub mark_after-requires-3-clause-rounds : goal.mark_after-requires-3-clause-rounds
mark_after-requires-3-clause-rounds g c = c.requires

pub mark_after-requires-2-clause-rounds : goal.mark_after-requires-2-clause-rounds
mark_after-requires-2-clause-rounds g c = c.requires
