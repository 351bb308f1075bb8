-- Beside a run that has cut nothing: none of another mode or budget holds more, and where that has cut nothing either both
-- hold the same.
-- Serves `uncut_runs_are_best`, `Alike` and `Bounds`.
use Rattle.run_laws.proofs.Common.{◌≡◌, ◌≢◌, ℕ, zero, suc, ◌-◌, ◌<◌, ◌≤◌, true, false, if◌then◌else◌, List, [], length, AllPairs, Some, None, inl, inr, refl, sym, ap, ◌∙◌, subst, arith, cases_eq, cases_lt, get_or_past, get_or-map-range_with_len, AllPairs-filter, Entry, Rules, up_to-itself, Figures, Settings, Table, empty_table, entry_at, mark_at, greatest_mark, IsProper, table_of_node, AreCopiesOf, NoMarkFalls, writes_of_owner, figures_of, fold_of, RoundListView, HoldAsMuch, Write, write_of_entry, marks_stay, before_keeps_own, AllPairs-map, generation_upto, restarts_now, round_list_of, writes_upto, written_upto, planned_list, is_of, writes_upto-filtered}
use Rattle.run_laws.specs.Floors.{with_rules, CutsNothingUpTo, IsAsGood}
use Rattle.played_rounds.specs.Lists.{list_after, lists_after}
use Rattle.played_rounds.specs.Outcomes.{figures_in}
use Rattle.cluster.specs.Rounds.{begun, rules_of, round_of, tables_after}
use Rattle.played_rounds.specs.Soundness.{writes_by}
use Rattle.run_laws.proofs.Floors.{gone-as_much, kept-as_much, copies_after, copies_begun, begun-others, same_keys, next_tables, begun_states, uncut_round, states_after}
use Rattle.run_laws.proofs.Modes.{generation, restarts, same_list, same_lists, written}
use Rattle.played_rounds.proofs.Soundness.{sound_run, counts_after}
use Rattle.cluster.proofs.Written.{births_rise}
use Rattle.run_laws.proofs.StateFigures.{NoneIsOlder, stale-le, greatest-le}
use Rattle.run_laws.proofs.StateFolds.{AreBeside, own_beside, fold_beside}
use Rattle.run_laws.proofs.States.{HoldsAsMuchOf}

as_much-itself : (owner : ℕ) (t : Table) → HoldsAsMuchOf owner t t
as_much-itself owner t = record { greatest = up_to-itself (greatest_mark t owner); within = λ key _. up_to-itself (mark_at t owner key) }

-- of an owner past the last node nothing is held
none_past : (nodes owner key : ℕ) (t : Table) → IsProper t → t.nodes ≡ nodes → nodes ≤ owner → entry_at t owner key ≡ None
none_past nodes owner key t proper is past = elim (entry_at t owner key) as (λ o. entry_at t owner key ≡ o → o ≡ None) [
  | None ↦ λ _. refl
  | Some e ↦ λ held. absurd (omega (arith, (proper.in_place owner key e held).owner_below, is, past))
] refl

-- the births of what an owner has written of its generation never fall
births_of : (s : Settings) (owner round : ℕ) → AllPairs (λ (d e : Entry). d.born ≤ e.born) (writes_upto s owner round)
births_of s owner round =
    subst (AllPairs (λ (d e : Entry). d.born ≤ e.born)) (sym (writes_upto-filtered s owner round))
    (AllPairs-filter (λ (d e : Entry). d.born ≤ e.born) (is_of (generation_upto s owner round)) (written_upto s owner round) (λ i j d lt in_range. births_rise s owner round i j d (omega (arith, lt)) in_range))

pub listed_births : (s : Settings) (round owner : ℕ) → owner < s.nodes → NoneIsOlder (writes_of_owner (lists_after s round) owner)
listed_births s round owner lt =
    subst NoneIsOlder (sym (get_or-map-range_with_len (list_after s round) 0 s.nodes owner owner [] lt (omega arith)))
    (AllPairs-map (λ (d e : Write). d.born ≤ e.born) write_of_entry (writes_upto s owner round) (births_of s owner round))

pub begun_generation : (s : Settings) (some : 2 ≤ s.nodes) (most : s.nodes ≤ 4096) (some_key : 1 ≤ s.keys) (few_keys : s.keys ≤ 64) (round n : ℕ) → 1 ≤ round → n < s.nodes → (table_of_node (begun s round (tables_after s (round - 1))) n).generation ≡ generation_upto s n round
begun_generation s some most some_key few_keys round n first lt =
    sym (before_keeps_own (rules_of s) s.nodes s.keys (round_list_of s round).exchanges (begun s round (tables_after s (round - 1))) (planned_list s round some) (copies_begun s some most some_key few_keys round first).tables (length (round_list_of s round).exchanges) n).generation
    ∙ ap (λ ts. (table_of_node ts n).generation) ((sound_run s some most some_key few_keys).ends round first)
    ∙ (counts_after s some most some_key few_keys round n lt).0

pub same_writes : (s : Settings) (rules : Rules) (round : ℕ) → writes_by (with_rules s rules) round ≡ writes_by s round
same_writes s rules round = λ i n. written s s.format rules n round i

-- a run of other rules beside one that has cut nothing
module _ (s : Settings) (some : 2 ≤ s.nodes) (most : s.nodes ≤ 4096) (some_key : 1 ≤ s.keys) (few_keys : s.keys ≤ 64) (rules : Rules) where
  abbrev other : Settings
  other = with_rules s rules

  other_after : (round : ℕ) → AreCopiesOf (writes_by s round) s.nodes s.keys (tables_after other round)
  other_after round = subst (λ w. AreCopiesOf w s.nodes s.keys (tables_after other round)) (same_writes s rules round) (copies_after other some most some_key few_keys round)

  other_begun : (round : ℕ) → 1 ≤ round → AreCopiesOf (writes_by s round) s.nodes s.keys (begun other round (tables_after other (round - 1)))
  other_begun round first = subst (λ w. AreCopiesOf w s.nodes s.keys (begun other round (tables_after other (round - 1)))) (same_writes s rules round) (copies_begun other some most some_key few_keys round first)

  abbrev pub AreBesideAfter : ℕ → Type 0
  AreBesideAfter round = AreBeside (writes_by s round) s.nodes s.keys (tables_after other round) (tables_after s round)

  -- as a round begins
  module _ (round : ℕ) (first : 1 ≤ round) (none : CutsNothingUpTo s round) (before : AreBesideAfter (round - 1)) where
    abbrev ts : List Table
    ts = begun other round (tables_after other (round - 1))

    abbrev us : List Table
    us = begun s round (tables_after s (round - 1))

    generations_begun : (n : ℕ) → n < s.nodes → (table_of_node ts n).generation ≡ (table_of_node us n).generation
    generations_begun n lt =
        begun_generation other some most some_key few_keys round n first lt
        ∙ generation s s.format rules n round
        ∙ sym (begun_generation s some most some_key few_keys round n first lt)

    as_much-others : (n owner : ℕ) → n < s.nodes → owner < s.nodes → owner ≢ n → HoldsAsMuchOf owner (table_of_node ts n) (table_of_node us n)
    as_much-others n owner lt owner_in apart =
        elim (restarts_now s n round) as (λ b. ((key : ℕ) → entry_at (table_of_node ts n) owner key ≡ (if b then None else entry_at (table_of_node (tables_after other (round - 1)) n) owner key)) → ((key : ℕ) → entry_at (table_of_node us n) owner key ≡ (if b then None else entry_at (table_of_node (tables_after s (round - 1)) n) owner key)) → HoldsAsMuchOf owner (table_of_node ts n) (table_of_node us n)) [
          | true ↦ λ gone _. gone-as_much owner (table_of_node ts n) (table_of_node us n) gone
          | false ↦ λ there here. kept-as_much owner (table_of_node (tables_after other (round - 1)) n) (table_of_node (tables_after s (round - 1)) n) (table_of_node ts n) (table_of_node us n)
              (same_keys other some most some_key few_keys round n owner first lt apart) (same_keys s some most some_key few_keys round n owner first lt apart) there here (before.as_much n owner lt owner_in)
        ]
        (λ key. begun-others other some most some_key few_keys round n owner first lt apart key ∙ ap (λ b. if b then None else entry_at (table_of_node (tables_after other (round - 1)) n) owner key) (restarts s s.format rules n round))
        (begun-others s some most some_key few_keys round n owner first lt apart)

    pub begun_beside : AreBeside (writes_by s round) s.nodes s.keys ts us
    begun_beside = record {
      first = other_begun round first;
      second = copies_begun s some most some_key few_keys round first;
      generations = generations_begun;
      states = begun_states s some most some_key few_keys round first before.states;
      as_much = λ n owner lt owner_in. elim (cases_eq owner n) [
        | inl own ↦ subst (λ m. HoldsAsMuchOf m (table_of_node ts n) (table_of_node us n)) (sym own) (own_beside (writes_by s round) s.nodes s.keys ts us (other_begun round first) (copies_begun s some most some_key few_keys round first) n lt (generations_begun n lt))
        | inr apart ↦ as_much-others n owner lt owner_in apart
      ];
    }

    pub round_beside : AreBeside (writes_by s round) s.nodes s.keys (round_of other round (tables_after other (round - 1))).tables (round_of s round (tables_after s (round - 1))).tables
    round_beside =
        subst (λ es. AreBeside (writes_by s round) s.nodes s.keys (fold_of (rules_of other) ts es).tables (round_of s round (tables_after s (round - 1))).tables) (sym (ap (λ (l : RoundListView). l.exchanges) (same_list s s.format rules round)))
        (fold_beside (rules_of other) (rules_of s) s.nodes s.keys (writes_by s round) (round_list_of s round).exchanges (record { tables = ts; records = [] }) (record { tables = us; records = [] }) (planned_list s round some) begun_beside (uncut_round s some most some_key few_keys round (none round first (omega arith))))

  same_opening : tables_after other 0 ≡ tables_after s 0
  unfolding tables_after
  same_opening = refl

  pub beside_after : (round : ℕ) → CutsNothingUpTo s round → AreBesideAfter round
  beside_after zero none = record {
    first = other_after 0;
    second = copies_after s some most some_key few_keys 0;
    generations = λ n lt. ap (λ ts. (table_of_node ts n).generation) same_opening;
    states = states_after s some most some_key few_keys 0 none;
    as_much = λ n owner lt owner_in. subst (λ ts. HoldsAsMuchOf owner (table_of_node ts n) (table_of_node (tables_after s 0) n)) (sym same_opening) (as_much-itself owner (table_of_node (tables_after s 0) n));
  }
  beside_after (suc round) none =
      let before = beside_after round (λ t first le. none t first (omega (arith, le))) in
      let same : round ≡ suc round - 1 = omega arith in
      subst (λ ts. AreBeside (writes_by s (suc round)) s.nodes s.keys ts (tables_after s (suc round))) (sym (next_tables other some most some_key few_keys round ∙ ap (λ t. (round_of other (suc round) (tables_after other t)).tables) same))
      (subst (λ us. AreBeside (writes_by s (suc round)) s.nodes s.keys (round_of other (suc round) (tables_after other (suc round - 1))).tables us) (sym (next_tables s some most some_key few_keys round ∙ ap (λ t. (round_of s (suc round) (tables_after s t)).tables) same))
      (round_beside (suc round) (omega arith) none (subst AreBesideAfter same before)))

  module _ (round : ℕ) (none : CutsNothingUpTo s round) where
    abbrev beside : AreBesideAfter round
    beside = beside_after round none

    as_much-of : (n owner : ℕ) → n < s.nodes → HoldsAsMuchOf owner (table_of_node (tables_after other round) n) (table_of_node (tables_after s round) n)
    as_much-of n owner lt = elim (cases_lt owner s.nodes) [
      | inl in_nodes ↦ beside.as_much n owner lt in_nodes
      | inr past ↦ gone-as_much owner (table_of_node (tables_after other round) n) (table_of_node (tables_after s round) n) (λ key. none_past s.nodes owner key (table_of_node (tables_after other round) n) (beside.first.proper n (omega (arith, lt, beside.first.tables.size))) (beside.first.tables.tables n lt).nodes past)
    ]

    holds_as_much : HoldAsMuch (tables_after s round) (tables_after other round)
    holds_as_much n = elim (cases_lt n s.nodes) [
      | inl lt ↦ record { greatest = λ owner. (as_much-of n owner lt).greatest; within = λ owner key same. (as_much-of n owner lt).within key same }
      | inr past ↦ subst (NoMarkFalls (table_of_node (tables_after other round) n))
          (get_or_past (tables_after other round) n (empty_table 0 0 0) (omega (arith, past, beside.first.tables.size)) ∙ sym (get_or_past (tables_after s round) n (empty_table 0 0 0) (omega (arith, past, beside.second.tables.size))))
          (marks_stay (table_of_node (tables_after other round) n))
    ]

    other_figures : figures_in other round ≡ figures_of round (tables_after other round) (lists_after s round)
    other_figures = ap (figures_of round (tables_after other round)) (same_lists s s.format rules round)

    pub as_good : IsAsGood s other round
    as_good = record {
      tables = holds_as_much;
      stale = subst (λ (f : Figures). (figures_in s round).stale ≤ f.stale) (sym other_figures) (stale-le (writes_by s round) s.nodes s.keys (tables_after other round) (tables_after s round) beside round (lists_after s round) (listed_births s round));
      greatest = subst (λ (f : Figures). (figures_in s round).greatest ≤ f.greatest) (sym other_figures) (greatest-le (writes_by s round) s.nodes s.keys (tables_after other round) (tables_after s round) beside round (lists_after s round) (listed_births s round));
    }
