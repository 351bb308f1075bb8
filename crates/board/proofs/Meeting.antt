-- The exchange of a hold may be carried out on its tables.
-- Serves `every_hold_may_be_exchanged` and `workers`.
use Rattle.board.proofs.Common.{◌<◌, ◌∙◌, sym, subst, IsPlanned, Table, table_of_node, IsTableOf, before_tables, exchange_at, no_exchange}
use Rattle.board.specs.Laws.{EachHoldMayBeExchanged}

pub may_be_exchanged : {T : Type 0} (table : T → Table) → EachHoldMayBeExchanged table
may_be_exchanged table plan i hold round cluster within found =
    let nodes = plan.list.nodes in
    let keys = (table_of_node plan.tables 0).keys in
    let e = exchange_at plan.list.exchanges i in
    let planned : IsPlanned nodes e = round.planned i no_exchange within in
    let before = before_tables plan.rules nodes keys plan.list.exchanges plan.tables round.planned cluster i in
    let p : IsTableOf nodes keys e.initiator (table hold.initiator) = subst (IsTableOf nodes keys e.initiator) (sym found.initiator) (before.tables e.initiator planned.initiator) in
    let q : IsTableOf nodes keys e.responder (table hold.responder) = subst (IsTableOf nodes keys e.responder) (sym found.responder) (before.tables e.responder planned.responder) in record {
      first = p.node;
      second = q.node;
      nodes = p.nodes ∙ sym q.nodes;
      keys = p.keys ∙ sym q.keys;
      rotation = subst (λ n. e.rotation < n) (sym p.nodes) planned.rotation;
    }
