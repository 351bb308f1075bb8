use Rattle.simulation.proofs.Common.{arith, IfOk-weaker}
use Rattle.simulation.proofs.Stepping.{fault_of_memory, may_play_next, next_played, round_left, step_done, step_failed}
use Rattle.simulation.proofs.sims.Sim.step_by.Goals as goal

pub overflow_add-next : goal.overflow_add-next
overflow_add-next g c = omega (arith, (may_play_next c.in_ok-cluster.ensures.taken c.resources-resources.ensures.same c.self.view_is).of_run.last)

pub play-played-requires-after_bounds : goal.play-played-requires-after_bounds
play-played-requires-after_bounds g c _ _ = may_play_next c.in_ok-cluster.ensures.taken c.resources-resources.ensures.same c.self.view_is

pub put_back-requires-clause-left : goal.put_back-requires-clause-left
put_back-requires-clause-left g c _ _ = round_left c.in_ok-cluster.ensures.taken c.resources-resources.ensures.same c.self.view_is

pub put_back-requires-clause-after : goal.put_back-requires-clause-after
put_back-requires-clause-after g c _ _ =
    IfOk-weaker c.play-played.result _ _ (λ p is.
    (next_played c.in_ok-cluster.ensures.taken c.resources-resources.ensures.same c.self.view_is is).after)
    c.play-played.ensures.played

pub returns-clause-fails : goal.returns-clause-fails
returns-clause-fails g c =
    step_failed c.in_ok-cluster.ensures.taken c.resources-resources.ensures.same c.self.view_is c.put_back.new.self c.args.posts.now
    c.play-played.result c.put_back.result
    (fault_of_memory c.args.posts.now c.play-played.result c.play-played.ensures.only) c.put_back.ensures

pub returns-clause-played : goal.returns-clause-played
returns-clause-played g c =
    step_done c.in_ok-cluster.ensures.taken c.resources-resources.ensures.same c.self.view_is c.put_back.new.self c.play-played.result c.put_back.result
    c.play-played.ensures.played c.put_back.ensures
