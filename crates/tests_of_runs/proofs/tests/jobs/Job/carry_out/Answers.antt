use Rattle.std.proofs.Common.{rules, ◌≡◌, ◌∙◌, sym, ap, subst, refl, Some}
use Rattle.std.proofs.lemmas.Option.{get_or_from_slice_get}
use Rattle.bench_types.specs.declared.exchanges.Exchange.{Exchange}
use Rattle.bench_types.specs.declared.exchanges.Rules.{Rules}
use Rattle.model.specs.RoundLists.{RoundListView}
use Rattle.exchange.specs.InMemory.{IsExchanged}
use Rattle.dependencies.specs.Sharing.{exchange_at, no_exchange}
use Rattle.node_table.specs.NodeTableView.{kept_table}
use Rattle.board.specs.Boards.{plan_of, seat_view}
use Rattle.board.proofs.Returning.{may_be_put_back}
use Rattle.tests_of_runs.proofs.tests.jobs.Job.carry_out.Goals as goal

pub put_back-requires-clause-hold : goal.put_back-requires-clause-hold
put_back-requires-clause-hold g c =
    let job = c.args.self.now in
    let plan = plan_of kept_table job.board in
    let hold = c.args.hold in
    let p = c.exchange.new.initiator in
    let q = c.exchange.new.responder in
    let sent = c.in_ok-exchange.field-0 in
    let got : c.get.result ≡ Some c.expect-plan.result = search rules in
    let planned : exchange_at plan.list.exchanges hold.index ≡ c.expect-plan.result =
    ap (λ (l : RoundListView). exchange_at l.exchanges hold.index) job.same_list ∙ get_or_from_slice_get job.list.exchanges hold.index c.expect-plan.result no_exchange (sym c.get.ensures.value ∙ got) in
    may_be_put_back kept_table plan (seat_view c.args.seat.now) hold (record { index = hold.index; initiator = p; responder = q }) sent c.requires.hold c.requires.held refl
    (subst (λ (r : Rules). IsExchanged r (exchange_at plan.list.exchanges hold.index) hold.initiator hold.responder p q sent) (sym job.same_rules)
    (subst (λ (e : Exchange). IsExchanged job.rules e hold.initiator hold.responder p q sent) (sym planned) c.in_ok-exchange.ensures.ok))
