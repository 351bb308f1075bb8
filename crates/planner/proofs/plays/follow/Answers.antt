use Rattle.planner.proofs.Common.{sym, ap, subst, arith, Event}
use Rattle.planner.specs.Stages.{stage_in, runs}
use Rattle.planner.specs.inner.Places.{ShowsEvent}
use Rattle.planner.proofs.Standings.{begun_within, runs_begun}
use Rattle.planner.proofs.plays.follow.Goals as goal

pub put_back-requires-clause-within : goal.put_back-requires-clause-within
put_back-requires-clause-within c =
    let stages = c.args.schedule.now.stages in
    let begun = runs_begun (stage_in stages c.in-Finish.i) (ap runs c.in_ok-finish-in-Finish.ensures.ok.0) in
    omega (arith, begun_within stages c.in-Finish.i begun, c.requires.size)

pub returns-in_ok-start-in-Start-clause-state : goal.returns-in_ok-start-in-Start-clause-state
returns-in_ok-start-in-Start-clause-state c =
    subst (λ (e : Event). ShowsEvent c.args.rules.now c.args.list.now.exchanges e c.args.places.now c.take_out.new.places) (sym c.in-Start.is) (c.take_out.ensures.state c.args.rules.now)
