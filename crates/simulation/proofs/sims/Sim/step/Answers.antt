use Rattle.simulation.proofs.Common.{arith, IfErr, IfOk-weaker, IsFaultOfWorkers, subst}
use Rattle.simulation.proofs.Stepping.{may_play_next, next_played, round_left, step_done, step_failed}
use Rattle.simulation.proofs.sims.Sim.step.Goals as goal

pub overflow_add-next : goal.overflow_add-next
overflow_add-next g c = omega (arith, (may_play_next c.in_ok-cluster.ensures.taken c.resources-resources.ensures.same c.self.view_is).of_run.last)

pub play_apart-played-requires-after_bounds : goal.play_apart-played-requires-after_bounds
play_apart-played-requires-after_bounds g c _ _ = may_play_next c.in_ok-cluster.ensures.taken c.resources-resources.ensures.same c.self.view_is

pub put_back-requires-clause-left : goal.put_back-requires-clause-left
put_back-requires-clause-left g c _ _ = round_left c.in_ok-cluster.ensures.taken c.resources-resources.ensures.same c.self.view_is

pub put_back-requires-clause-after : goal.put_back-requires-clause-after
put_back-requires-clause-after g c _ _ =
    IfOk-weaker c.play_apart-played.result _ _ (λ p is.
    (next_played c.in_ok-cluster.ensures.taken c.resources-resources.ensures.same c.self.view_is is).after)
    c.play_apart-played.ensures.played

pub returns-clause-fails : goal.returns-clause-fails
returns-clause-fails g c =
    step_failed c.in_ok-cluster.ensures.taken c.resources-resources.ensures.same c.self.view_is c.put_back.new.self c.args.workers
    c.play_apart-played.result c.put_back.result
    (subst (λ n. IfErr c.play_apart-played.result (IsFaultOfWorkers n)) c.resources-resources.ensures.workers c.play_apart-played.ensures.fault)
    c.put_back.ensures

pub returns-clause-played : goal.returns-clause-played
returns-clause-played g c =
    step_done c.in_ok-cluster.ensures.taken c.resources-resources.ensures.same c.self.view_is c.put_back.new.self c.play_apart-played.result c.put_back.result
    c.play_apart-played.ensures.played c.put_back.ensures
