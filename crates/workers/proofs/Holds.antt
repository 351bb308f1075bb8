-- A hold of a shop's board: its exchange may be carried out, and what that leaves is put back.
-- Serves `Workshop::carry_out`.
use Rattle.workers.proofs.Common.{◌≡◌, ◌<◌, length, refl, sym, ap, ◌∙◌, subst, arith, Exchange, Record, Rules, IsPlanned, Table, IsRoundPlan, Exchanged, exchanged, MayBeExchanged, MakesOf, IsKeptByExchanges, table_of_node, before_tables, before_keeps_each, exchange_at, no_exchange, Has, SeatView, BoardPlan, table_at, initiator_of, responder_of, exchanged_at, plan_of, IsHoldOf, MayPutBack, IsCarriedOut, Hold, may_be_exchanged, may_be_put_back}
use Rattle.workers.specs.inner.Workshops.{IsWorkshop}
use Rattle.workers.specs.declared.workers.Workshop.{Workshop}

module _ {T X G : Type 0} (table : T → Table) (fits : X → Table → Type 0) (shop : Workshop T X G)
    (is : IsWorkshop table fits shop) (hold : Hold T)
    (found : IsHoldOf table (plan_of table shop.board) hold.index hold) (e : Exchange)
    (read : e ≡ exchange_at (plan_of table shop.board).list.exchanges hold.index) where
  abbrev plan : BoardPlan
  plan = plan_of table shop.board

  module _ (round : IsRoundPlan plan.list) (within : hold.index < length plan.list.exchanges) where
    pub hold_meets : MayBeExchanged e (table hold.initiator) (table hold.responder)
    hold_meets =
        subst (λ (e : Exchange). MayBeExchanged e (table hold.initiator) (table hold.responder)) (sym read)
        (may_be_exchanged table plan hold.index hold round is.tables.cluster within found)

    -- and what its tables owe to what all share holds
    pub hold_fits : IsKeptByExchanges (fits shop.shared)
        → fits shop.shared (table hold.initiator) × fits shop.shared (table hold.responder)
    hold_fits kept =
        let nodes = plan.list.nodes in
        let keys = (table_of_node plan.tables 0).keys in
        let planned : IsPlanned nodes (exchange_at plan.list.exchanges hold.index) = round.planned hold.index no_exchange within in
        let before = before_tables plan.rules nodes keys plan.list.exchanges plan.tables round.planned is.tables.cluster hold.index in
        let each = before_keeps_each plan.rules nodes keys plan.list.exchanges plan.tables round.planned is.tables.cluster (fits shop.shared) kept is.tables.each_fits hold.index in (
          subst (fits shop.shared) (sym found.initiator) (each (initiator_of plan hold.index) (omega (arith, planned.initiator, before.size))),
          subst (fits shop.shared) (sym found.responder) (each (responder_of plan hold.index) (omega (arith, planned.responder, before.size))),
        )

  module _ (p q : T) (sent : Record) (done : MakesOf table shop.rules e hold.initiator hold.responder p q sent) where
    carried_out : IsCarriedOut table plan hold (record { index = hold.index; initiator = p; responder = q }) sent
    carried_out =
        subst (λ (r : Rules). MakesOf table r (exchange_at plan.list.exchanges hold.index) hold.initiator hold.responder p q sent) (sym is.rules)
        (subst (λ (e : Exchange). MakesOf table shop.rules e hold.initiator hold.responder p q sent) read done)

    pub hold_returns : (v : SeatView) → Has v.held hold.index
        → MayPutBack table plan v (record { index = hold.index; initiator = p; responder = q })
    hold_returns v held = may_be_put_back table plan v hold (record { index = hold.index; initiator = p; responder = q }) sent found held refl carried_out

    pub sent_in_order : sent ≡ (exchanged_at plan hold.index).sent
    sent_in_order =
        let e = exchange_at plan.list.exchanges hold.index in
        sym (
        ap (λ t. (exchanged plan.rules e t (table_at plan (responder_of plan hold.index) hold.index)).sent) (sym found.initiator)
        ∙ ap (λ t. (exchanged plan.rules e (table hold.initiator) t).sent) (sym found.responder)
        ∙ ap (λ (x : Exchanged). x.sent) carried_out
        )
