-- The rounds of a run. In round 0 all tables are empty. A round begins with its restarts, each of which empties a
-- node's copies of all others and leaves its own entries, but where the node forgets, and so begins its next generation
-- with nothing; then come the writes of the nodes that are up, by node and then in their order; then the exchanges of
-- the round's list, one after another. Source: this project.
use Rattle.std.specs.Prelude.{ℕ, zero, suc, ◌-◌, if◌then◌else◌, List, map}
use Rattle.std.specs.List.{range_with_len}
use Rattle.bench_types.specs.declared.exchanges.Record.{Record}
use Rattle.bench_types.specs.declared.exchanges.Rules.{Rules}
use Rattle.model.specs.Table.{Table, empty_table, with_own_writes, without_others, without_all}
use Rattle.round_plan.specs.Outages.{forgets_now, restarts_now}
use Rattle.round_plan.specs.Plan.{round_list_of}
use Rattle.round_plan.specs.Writes.{count_before, own_writes}
use Rattle.scenario.specs.Settings.{Settings}
use Rattle.model.specs.Tables.{table_of_node}
use Rattle.model.specs.Folds.{Folded, fold_of}

abbrev pub opening_tables : Settings → List Table
opening_tables s = map (λ n. empty_table n s.nodes s.keys) (range_with_len 0 s.nodes)

-- the table of a node after its restarts of a round
abbrev pub after_restart : Settings → ℕ → ℕ → Table → Table
after_restart s round n t =
    if forgets_now s n round then without_all t
    else (if restarts_now s n round then without_others t else t)

abbrev pub restarted_table : Settings → ℕ → List Table → ℕ → Table
restarted_table s round ts n = after_restart s round n (table_of_node ts n)

abbrev pub restarted : Settings → ℕ → List Table → List Table
restarted s round ts = map (restarted_table s round ts) (range_with_len 0 s.nodes)

-- the table of a node after its writes of a round
abbrev pub written_table : Settings → ℕ → List Table → ℕ → Table
written_table s round ts n = with_own_writes (table_of_node ts n) (own_writes s n round (count_before s n round))

abbrev pub having_written : Settings → ℕ → List Table → List Table
having_written s round ts = map (written_table s round ts) (range_with_len 0 s.nodes)

abbrev pub begun : Settings → ℕ → List Table → List Table
begun s round ts = having_written s round (restarted s round ts)

abbrev pub rules_of : Settings → Rules
rules_of s = record { mode = s.mode; budget = s.budget }

-- a round, from the tables before it: the tables after it and its records
abbrev pub round_of : Settings → ℕ → List Table → Folded
round_of s round ts = fold_of (rules_of s) (begun s round ts) (round_list_of s round).exchanges

unfoldable pub tables_after : Settings → ℕ → List Table
tables_after s zero = opening_tables s
tables_after s (suc round) = (round_of s (suc round) (tables_after s round)).tables

abbrev pub records_in : Settings → ℕ → List Record
records_in s round = (round_of s round (tables_after s (round - 1))).records
