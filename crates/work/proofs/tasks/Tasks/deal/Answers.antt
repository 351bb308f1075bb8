use Rattle.work.proofs.Common.{rules, ◌≡◌, ◌∙◌, sym, length, map, subst, arith}
use Rattle.work.specs.Pushes.{AreDealt, pushed}
use Rattle.work.proofs.Dealing.{next_dealt}
use Rattle.work.proofs.tasks.Tasks.deal.Goals as goal

pub loop-place-preserved : goal.loop-place-preserved
loop-place-preserved c =
    let count : length c.loop-place.tasks.items ≡ c.args.workers = sym c.loop-place.tasks.ok.0 ∙ c.loop-place.invariant.one_each in record {
      one_each = search rules;
      dealt = next_dealt c.args.ready.now c.loop-place.tasks.items c.loop-place.place c.args.workers c.index_mut-in-loop-place.result.now c.push-in-loop-place.new.self c.requires.some count c.index_mut-in-loop-place.ensures.value c.in_ok-push-3.ensures.pushed c.loop-place.invariant.dealt;
    }

pub returns-clause-dealt : goal.returns-clause-dealt
returns-clause-dealt c =
    (search rules, subst (AreDealt c.args.ready.now (map pushed c.loop-place.tasks.items)) (omega (arith, c.loop-place-test.false, c.loop-place.auto.place-end)) c.loop-place.invariant.dealt)
