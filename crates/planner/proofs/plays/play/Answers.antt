use Rattle.planner.proofs.Common.{take, subst, sym, arith, take_all, err_from_is_err_and, IfOk-weaker, Event, Start, IsLawful, AreFinished, tables_in}
use Rattle.planner.specs.inner.Places.{StandIn}
use Rattle.planner.specs.Plays.{ArePlayed}
use Rattle.planner.proofs.Playing.{IsSoFar, so_far_none, so_far_in_place, so_far_more, event_refused, played}
use Rattle.planner.proofs.Stages.{are_finished, are_counted}
use Rattle.planner.proofs.plays.play.Goals as goal

abbrev some_event : Event
some_event = Start 0

pub loop-event-init : goal.loop-event-init
loop-event-init c = so_far_none c.args.rules.now c.args.list.now c.args.tables.items c.in_ok-schedule.schedule c.in_ok-places.places c.requires.cluster c.in_ok-schedule.ensures.value c.in_ok-places.ensures.homes c.in_ok-places.ensures.out c.in_ok-places.ensures.records

pub follow-requires-clause-tables : goal.follow-requires-clause-tables
follow-requires-clause-tables c = so_far_in_place c.args.rules.now c.args.list.now c.args.tables.items (take c.loop-event.event-index c.args.events.now) c.loop-event.schedule c.loop-event.places c.requires.cluster c.loop-event.invariant

pub returns-in_err-follow-clause-refused : goal.returns-in_err-follow-clause-refused
returns-in_err-follow-clause-refused c =
    let at = c.loop-event in
    let refused = event_refused c.args.rules.now c.args.list.now (tables_in c.args.tables.items) c.args.events.now at.event-index some_event at.schedule at.places c.loop-event-test.true at.invariant c.in_err-follow.field-0.0 c.in_err-follow.ensures.refused in
    let p = err_from_is_err_and c.from_residual-in_err-follow.result c.from_residual-in_err-follow.ensures.1 in
    rw (p.1, p.2) refused

pub loop-event-preserved : goal.loop-event-preserved
loop-event-preserved c =
    let at = c.loop-event in
    let done = c.in_ok-follow.ensures in
    so_far_more c.args.rules.now c.args.list.now (tables_in c.args.tables.items) c.args.events.now at.event-index some_event at.schedule at.places c.loop-event-test.true at.invariant c.follow.new.schedule c.follow.new.places done.schedule done.places done.state

pub returns-then-done_count-len-clause-refused : goal.returns-then-done_count-len-clause-refused
returns-then-done_count-len-clause-refused c =
    let at = c.loop-event in
    let all = take_all at.event-index c.args.events.now c.loop-event-test.false in
    let lawful = at.invariant.at.lawful in (
      subst (λ l. IsLawful c.args.list.now.exchanges l) all lawful,
      λ finished. let counted = are_counted c.args.list.now (take at.event-index c.args.events.now) at.schedule at.invariant.at (subst (λ l. AreFinished c.args.list.now.exchanges l) (sym all) finished) in absurd (omega (arith, counted, c.if-done_count-len.true, c.len.ensures.value)),
    )

pub returns-clause-played : goal.returns-clause-played
returns-clause-played c =
    let at = c.loop-event in
    let all = take_all at.event-index c.args.events.now c.loop-event-test.false in
    let so_far = subst (λ l. IsSoFar c.args.rules.now c.args.list.now (tables_in c.args.tables.items) l at.schedule at.places) all at.invariant in
    let finished = are_finished c.args.list.now c.args.events.now at.schedule so_far.at (omega (arith, c.if-done_count-len.false, c.len.ensures.value)) in
    IfOk-weaker c.given_by.result (λ p. StandIn at.places p.0.items p.1.items) (λ p. ArePlayed c.args.rules.now c.args.list.now c.args.events.now c.args.tables.items p.0.items p.1.items)
    (λ p stand. played c.args.rules.now c.args.list.now c.args.tables.items c.args.events.now at.schedule at.places p.0.items p.1.items c.requires.cluster c.len.ensures.kept so_far finished stand)
    c.given_by.ensures.value
