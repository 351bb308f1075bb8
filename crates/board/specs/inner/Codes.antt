-- The codes of what a view keeps. Source: this project.
use Rattle.std.specs.Prelude.{refl, ℕ, List, Bool}
use Rattle.std.specs.Coded.{Coded, code_by, coded×, coded_ℕ, coded_list, coded_bool}
use Rattle.bench_types.specs.declared.exchanges.Exchange.{Exchange}
use Rattle.bench_types.specs.declared.exchanges.Rules.{Rules}
use Rattle.bench_types.specs.contracts.exchanges.Exchange as exchange_row
use Rattle.bench_types.specs.contracts.exchanges.Rules as rules_row
use Rattle.model.specs.Table.{Table}
use Rattle.model.specs.inner.Codes.{table_code}
use Rattle.model.specs.RoundLists.{RoundListView}
use Rattle.board.specs.Plan.{BoardPlan}
use Rattle.board.specs.SeatView.{SeatView}

abbrev pub round_list_code : Coded RoundListView
round_list_code =
    code_by (ℕ × (ℕ × List Exchange)) (coded× coded_ℕ (coded× coded_ℕ (coded_list (exchange_row.the_row).coded)))
    (λ l. (l.nodes, (l.unreached, l.exchanges))) (λ p. record { nodes = p.0; unreached = p.1.0; exchanges = p.1.1 }) (λ _. refl)

abbrev pub plan_code : Coded BoardPlan
plan_code =
    code_by (Rules × (RoundListView × List Table)) (coded× (rules_row.the_row).coded (coded× round_list_code (coded_list table_code)))
    (λ b. (b.rules, (b.list, b.tables))) (λ p. record { rules = p.0; list = p.1.0; tables = p.1.1 }) (λ _. refl)

abbrev pub indices : Coded (List ℕ)
indices = coded_list coded_ℕ

abbrev pub seat_code : Coded SeatView
seat_code =
    code_by (List ℕ × (List ℕ × (List ℕ × (List ℕ × (List ℕ × (ℕ × (Bool × (Bool × ℕ))))))))
    (coded× indices (coded× indices (coded× indices (coded× indices (coded× indices (coded× coded_ℕ (coded× coded_bool (coded× coded_bool coded_ℕ))))))))
    (λ v. (v.made, (v.held, (v.freed, (v.told, (v.known, (v.seen, (v.is_stopped, (v.is_halted, v.parts)))))))))
    (λ p. record { made = p.0; held = p.1.0; freed = p.1.1.0; told = p.1.1.1.0; known = p.1.1.1.1.0; seen = p.1.1.1.1.1.0; is_stopped = p.1.1.1.1.1.1.0; is_halted = p.1.1.1.1.1.1.1.0; parts = p.1.1.1.1.1.1.1.1 })
    (λ _. refl)
