-- What an exchange leaves of a hold's tables may be put back.
-- Serves `every_exchange_may_be_put_back`, `tests_of_runs` and `workers`.
use Rattle.board.proofs.Common.{◌≡◌, ◌∙◌, sym, ap, subst, Table, Exchanged, exchange_at}
use Rattle.model.specs.Exchanged.{exchanged}
use Rattle.board.specs.Weights.{Has}
use Rattle.board.specs.Plan.{table_at, responder_of, exchanged_at}
use Rattle.board.specs.Laws.{EachMayBePutBack}

pub may_be_put_back : {T : Type 0} (table : T → Table) → EachMayBePutBack table
may_be_put_back table plan v hold left sent found held same done =
    let i = hold.index in
    let e = exchange_at plan.list.exchanges i in
    let whole : exchanged_at plan left.index ≡ record { initiator = table left.initiator; responder = table left.responder; sent = sent } =
    ap (exchanged_at plan) same
    ∙ ap (λ t. exchanged plan.rules e t (table_at plan (responder_of plan i) i)) (sym found.initiator)
    ∙ ap (λ t. exchanged plan.rules e (table hold.initiator) t) (sym found.responder)
    ∙ done in record {
      held = subst (Has v.held) (sym same) held;
      initiator = sym (ap (λ (x : Exchanged). x.initiator) whole);
      responder = sym (ap (λ (x : Exchanged). x.responder) whole);
    }
