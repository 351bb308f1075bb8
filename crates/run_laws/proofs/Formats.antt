-- What the two formats have in common.
-- Serves `the_format_has_no_part` and `unforgetful_runs_leave_nothing_over`.
use Rattle.run_laws.proofs.Common.{◌≡◌, ℕ, zero, suc, ◌+◌, ◌-◌, ◌<◌, [], Bool, true, false, eqb, if◌then◌else◌, List, length, map, Option, Some, None, refl, ap, ◌∙◌, arith, range_with_len, le-ltb, Entry, Settings, IsLawfulScenario, Table, entry_at, with_own_writes, without_all, without_others, table_of_node, generation_at, is_left_over, leftover_at, fold_of, All, All-head, All-tail, generation_upto, ◌&&◌, ◌∷◌, get_or}
use Rattle.model.specs.Figures.{figures_of}
use Rattle.round_plan.specs.Outages.{forgets_in, forgets_now, restarts_in}
use Rattle.scenario.specs.declared.elements.Restart.{Restart}
use Rattle.std.specs.List.{list_any}
use Rattle.std.specs.Prelude.{◌||◌}
use Rattle.run_laws.specs.Formats.{NeverForgets, LeavesNothingOver, FormatHasNoPart}
use Rattle.played_rounds.specs.Outcomes.{figures_in, row_in}
use Rattle.cluster.specs.Rounds.{restarted, begun, rules_of, round_of, tables_after, records_in}
use Rattle.played_rounds.specs.Rows.{row_of}
use Rattle.run_laws.proofs.Modes.{forgets, restarts, now, same_list, same_lists}
use Rattle.run_laws.proofs.Rings.{sum_below-none}
use Rattle.played_rounds.proofs.Soundness.{sound_run, counts_after}

none_forget : (s : Settings) → NeverForgets s → (node round : ℕ) → forgets_now s node round ≡ false
unfolding forgets_now
none_forget s never node round = any_none s.restarts never
  where
    and_false : (b : Bool) → (b && false) ≡ false
    and_false true = refl
    and_false false = refl

    any_none : (rs : List Restart) → All (λ (r : Restart). r.forget ≡ false) rs → list_any (forgets_in node round) rs ≡ false
    any_none [] each = refl
    any_none (r ∷ rs) each =
        let here : forgets_in node round r ≡ false = ap (λ b. restarts_in node round r && b) (All-head (λ (x : Restart). x.forget ≡ false) r rs each) ∙ and_false (restarts_in node round r) in
        (λ i. here i || list_any (forgets_in node round) rs) ∙ any_none rs (All-tail (λ (x : Restart). x.forget ≡ false) r rs each)

first_generation : (s : Settings) → NeverForgets s → (node round : ℕ) → generation_upto s node round ≡ 0
first_generation s never node zero = refl
first_generation s never node (suc round) = ap (λ b. generation_upto s node round + (if b then 1 else 0)) (none_forget s never node (suc round)) ∙ omega (arith, first_generation s never node round)

-- where none forgets every generation is 0, so none is below it
module _ (s : Settings) (lawful : IsLawfulScenario s) (never : NeverForgets s) (round : ℕ) where
  abbrev ts : List Table
  ts = tables_after s round

  sizes : length ts ≡ s.nodes
  sizes = ((sound_run s lawful.nodes.0 lawful.nodes.1 lawful.keys.0 lawful.keys.1).after round).copies.tables.size

  abbrev one_if : Bool → ℕ
  one_if b = if b then 1 else 0

  none_over : (p r k : ℕ) → r < s.nodes → leftover_at ts p r k ≡ 0
  none_over p r k r_in = elim (eqb p r) as (λ b. (if b then 0 else one_if (is_left_over (generation_at ts r) (entry_at (table_of_node ts p) r k))) ≡ 0) [
    | true ↦ refl
    | false ↦ ap one_if (old (entry_at (table_of_node ts p) r k))
  ]
    where
      is_first : generation_at ts r ≡ 0
      is_first = (counts_after s lawful.nodes.0 lawful.nodes.1 lawful.keys.0 lawful.keys.1 round r r_in).0 ∙ first_generation s never r round

      old : (o : Option Entry) → is_left_over (generation_at ts r) o ≡ false
      old None = refl
      old (Some e) = le-ltb e.generation (generation_at ts r) (omega (arith, is_first))

  nothing_over : (figures_in s round).leftover ≡ 0
  unfolding figures_of
  nothing_over =
      sum_below-none (length ts) _ (λ p p_lt.
      sum_below-none (length ts) _ (λ r r_lt.
      sum_below-none (table_of_node ts p).keys (leftover_at ts p r) (λ k lt. none_over p r k (omega (arith, r_lt, sizes)))))

pub leaves_nothing_over : (s : Settings) → IsLawfulScenario s → LeavesNothingOver s
leaves_nothing_over s lawful = record {
  unforgetful = λ never round. nothing_over s lawful never round;
  format_1 = λ first k d lt. stays_false (get_or s.restarts k d).forget (λ it_does. let two : s.format ≡ 2 = (lawful.restarts.each k d lt).forget it_does in absurd (omega (arith, first, two)));
}
  where
    stays_false : (b : Bool) → (b ≡ true → ⊥) → b ≡ false
    stays_false true never = absurd (never refl)
    stays_false false never = refl

-- no rule asks for the format's number
module _ (s : Settings) (format : ℕ) where
  abbrev s' : Settings
  s' = record s { format = format }

  same_restarted : (round : ℕ) (ts : List Table) → restarted s' round ts ≡ restarted s round ts
  same_restarted round ts = λ i. map (λ n. if forgets s format (rules_of s) n round i then without_all (table_of_node ts n) else (if restarts s format (rules_of s) n round i then without_others (table_of_node ts n) else table_of_node ts n)) (range_with_len 0 s.nodes)

  same_begun : (round : ℕ) (ts : List Table) → begun s' round ts ≡ begun s round ts
  same_begun round ts = λ i. map (λ n. with_own_writes (table_of_node (same_restarted round ts i) n) (now s format (rules_of s) n round i)) (range_with_len 0 s.nodes)

  same_round : (round : ℕ) (ts : List Table) → round_of s' round ts ≡ round_of s round ts
  same_round round ts = λ i. fold_of (rules_of s) (same_begun round ts i) (same_list s format (rules_of s) round i).exchanges

  same_tables_after : (round : ℕ) → tables_after s' round ≡ tables_after s round
  unfolding tables_after
  same_tables_after zero = refl
  same_tables_after (suc round) = (λ i. (round_of s' (suc round) (same_tables_after round i)).tables) ∙ (λ i. (same_round (suc round) (tables_after s round) i).tables)

  same_records : (round : ℕ) → records_in s' round ≡ records_in s round
  same_records round = (λ i. (round_of s' round (same_tables_after (round - 1) i)).records) ∙ (λ i. (same_round round (tables_after s (round - 1)) i).records)

  same_figures : (round : ℕ) → figures_in s' round ≡ figures_in s round
  same_figures round = λ i. figures_of round (same_tables_after round i) (same_lists s format (rules_of s) round i)

  same_row : (round : ℕ) → row_in s' round ≡ row_in s round
  same_row round = λ i. row_of round (same_list s format (rules_of s) round i) (same_records round i) (same_figures round i)

pub has_no_part : (s : Settings) → FormatHasNoPart s
has_no_part s format round = (same_tables_after s format round, same_row s format round)
