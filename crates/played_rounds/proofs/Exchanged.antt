-- A round, from the tables with which it begins to those that its exchanges leave.
-- Serves `carry_out`.
use Rattle.played_rounds.proofs.Common.{refl, ◌≡◌, ℕ, ◌-◌, ◌<◌, ◌≤◌, All, List, [], length, map, sym, ap, ◌∙◌, subst, arith, length-map, IsLawfulBudget, IsPlanned, Budget, Entries, Bytes, Record, Rules, Figures, Table, KeepOwnParts, Folded, fold_of, AreTablesInOrder, AreProper, HoldsOfEach, IsCluster, fold_counts_tables, fold_counts_records, fold_keeps_own, fold_proper, cluster_of, RoundListView, IsRoundPlan, round_list_of, Settings, IsBudgetOf, IsLawfulScenario, figures_of, OwnerListView, lists_in, HistoriesView, AreWrittenBy, StandsAmong, Contains, generation_upto, writes_upto, written_upto, table_of_node, list_of_owner}
use Rattle.round_histories.specs.Histories.{AreFiguresCounted, StandAtRoundEnd}
use Rattle.round_histories.specs.declared.round_histories.Counted.{Counted}
use Rattle.cluster.specs.declared.clusters.UnderWay.{UnderWay}
use Rattle.cluster.specs.declared.plans.Drawn.{Drawn}
use Rattle.cluster.specs.calls.Clusters.{HaveEnded, IsAfterRound, IsUnderWay}
use Rattle.cluster.specs.calls.Plans.{IsDrawnAfter}
use Rattle.played_rounds.specs.calls.Outcomes.{played_of, played_with}
use Rattle.played_rounds.specs.calls.RoundView.{RoundView}
use Rattle.cluster.specs.Rounds.{begun, rules_of, round_of, tables_after}
use Rattle.cluster.specs.calls.Standing.{IsOwner, StandAfterRound}
use Rattle.played_rounds.specs.Soundness.{AreSound}
use Rattle.played_rounds.proofs.Soundness.{begun_sound, sound_run}
use Rattle.cluster.proofs.Standing.{beside_own, standing_kept, written_by}
use Rattle.played_rounds.proofs.Defined.{figures_are, left_after}

-- each table among the lists, where each entry that it holds is a write of its owner
each_among : (s : Settings) (round : ℕ) (ts : List Table) (h : HistoriesView) → h.keys ≡ s.keys → StandAfterRound s round ts h.lists → AreSound s round ts
    → HoldsOfEach (StandsAmong h) ts
each_among s round ts h keys is sound n lt = record {
  nodes = own.table.nodes ∙ sym is.list_count;
  keys = own.table.keys ∙ sym keys;
  proper = own.proper;
  own = beside_own s n (generation_upto s n round) (writes_upto s n round) (written_upto s n round) round (table_of_node ts n) h.lists own;
  holds = λ owner key e held.
      let in_nodes : owner < s.nodes = omega (arith, (own.proper.in_place owner key e held).owner_below, own.table.nodes) in
      subst (λ es. Contains es e × (e.key ≡ key)) (sym (is.owners owner in_nodes).all) (sound.copies.holds n below owner key e held);
}
  where
    below : n < s.nodes
    below = omega (arith, lt, is.table_count)

    own : IsOwner s round n (table_of_node ts n) (list_of_owner h.lists n)
    own = is.owners n below

stand_in_order : (s : Settings) (round : ℕ) (ts : List Table) (lists : List OwnerListView) → StandAfterRound s round ts lists → AreTablesInOrder s.nodes s.keys ts
stand_in_order s round ts lists is = record { size = is.table_count; tables = λ n lt. (is.owners n lt).table }

-- what the exchanges and the figures ask of tables and lists
module _ {T : Type 0} (table : T → Table) (s : Settings) (round : ℕ) (tables : List T) (lists : List OwnerListView) (is : StandAfterRound s round (map table tables) lists) where
  as_many : s.nodes ≡ length tables
  as_many = sym is.table_count ∙ length-map tables table

  pub nodes_cluster : IsCluster s.nodes (map table tables)
  nodes_cluster = cluster_of s.nodes s.keys (map table tables) (stand_in_order s round (map table tables) lists is)

  pub standing_cluster : IsCluster (length tables) (map table tables)
  standing_cluster = subst (λ n. IsCluster n (map table tables)) as_many nodes_cluster

  pub one_list_each : length lists ≡ length tables
  one_list_each = is.list_count ∙ as_many

-- a scenario's budget has room for any one entry
pub lawful_budget : (format : ℕ) (budget : Budget) → IsBudgetOf format budget → IsLawfulBudget budget
lawful_budget format (Entries n) is = is.1.0
lawful_budget format (Bytes n) is = is.1.0

-- the exchanges of the round's list
module _ (s : Settings) (round : ℕ) (list : RoundListView) (plan : IsRoundPlan list) (list_is : list ≡ round_list_of s round) (rules : Rules) (old new : List Table) (records : List Record) (exchanged : fold_of rules old list.exchanges ≡ record { tables = new; records = records }) where
  pub one_record_each : length records ≡ length list.exchanges
  one_record_each = omega (arith, ap (λ (f : Folded). length f.records) exchanged, fold_counts_records rules list.exchanges (record { tables = old; records = [] }))

  module _ (lists : List OwnerListView) (standing : StandAfterRound s round old lists) where
    planned : All (IsPlanned s.nodes) list.exchanges
    planned = subst (λ n. All (IsPlanned n) list.exchanges) (ap (λ (l : RoundListView). l.nodes) list_is) plan.planned

    same_count : length new ≡ length old
    same_count = ap (λ (f : Folded). length f.tables) (sym exchanged) ∙ fold_counts_tables rules list.exchanges (record { tables = old; records = [] })

    kept_proper : AreProper new
    kept_proper = subst (λ (f : Folded). AreProper f.tables) exchanged (fold_proper rules s.nodes s.keys list.exchanges old planned (stand_in_order s round old lists standing) (λ n lt. (standing.owners n (omega (arith, lt, standing.table_count))).proper))

    own_kept : KeepOwnParts old new
    own_kept = subst (λ (f : Folded). KeepOwnParts old f.tables) exchanged (fold_keeps_own rules s.nodes s.keys list.exchanges old planned (stand_in_order s round old lists standing))

    pub standing_exchanged : StandAfterRound s round new lists
    standing_exchanged = standing_kept s round old new lists same_count own_kept kept_proper standing

  -- from the tables before the round
  module _ (before : List Table) (begun_is : old ≡ begun s round before) (rules_are : rules ≡ rules_of s) where
    pub round_is : round_of s round before ≡ record { tables = new; records = records }
    round_is = (λ i. fold_of (sym rules_are i) (sym begun_is i) (sym list_is i).exchanges) ∙ exchanged

-- what the exchanges find and leave
pub each_begun : (s : Settings) (round : ℕ) (old : List Table) (h : HistoriesView) → IsLawfulScenario s → 1 ≤ round
    → old ≡ begun s round (tables_after s (round - 1)) → h.keys ≡ s.keys → StandAfterRound s round old h.lists → HoldsOfEach (StandsAmong h) old
each_begun s round old h lawful first begun_is keys standing =
    each_among s round old h keys standing
    (subst (AreSound s round) (sym begun_is) (begun_sound s lawful.nodes.0 lawful.nodes.1 lawful.keys.0 lawful.keys.1 round first))

pub record IsLeft {T : Type 0} (table : T → Table) (s : Settings) (round : ℕ) (tables : List T) (h : HistoriesView) : Type 0 where
  pub standing : StandAfterRound s round (map table tables) h.lists
  pub after : map table tables ≡ tables_after s round
  pub each : HoldsOfEach (StandsAmong h) (map table tables)

pub is_left : {T : Type 0} (table : T → Table) (s : Settings) (round : ℕ) (list : RoundListView) (rules : Rules) (old : List Table) (new : List T)
    (records : List Record) (h : HistoriesView) → IsLawfulScenario s → 1 ≤ round → IsRoundPlan list → list ≡ round_list_of s round → rules ≡ rules_of s
    → old ≡ begun s round (tables_after s (round - 1)) → h.keys ≡ s.keys → StandAfterRound s round old h.lists
    → fold_of rules old list.exchanges ≡ record { tables = map table new; records = records } → IsLeft table s round new h
is_left table s round list rules old new records h lawful first plan list_is rules_are begun_is keys standing exchanged = record {
  standing = stands;
  after = left;
  each = each_among s round (map table new) h keys stands (subst (AreSound s round) (sym left) ((sound_run s lawful.nodes.0 lawful.nodes.1 lawful.keys.0 lawful.keys.1).after round));
}
  where
    stands : StandAfterRound s round (map table new) h.lists
    stands = standing_exchanged s round list plan list_is rules old (map table new) records exchanged h.lists standing

    left : map table new ≡ tables_after s round
    left =
        left_after s round (map table new) records first
        (round_is s round list plan list_is rules old (map table new) records exchanged (tables_after s (round - 1)) begun_is rules_are)

-- all that a round came to
played_is : (s : Settings) (round : ℕ) (old new : List Table) (lists : List OwnerListView) (list : RoundListView) (records : List Record) (lag : Figures) (played : RoundView)
    → list ≡ round_list_of s round → round_of s round old ≡ record { tables = new; records = records } → lag ≡ figures_of round new (lists_in lists)
    → old ≡ tables_after s (round - 1) → StandAfterRound s round new lists → new ≡ tables_after s round
    → played ≡ played_with round list records lag → played ≡ played_of s round
played_is s round old new lists list records lag played list_is round_was lag_is before standing after is =
    is ∙ (λ i. played_with round (list_is i) ((sym round_was ∙ ap (round_of s round) before) i).records ((lag_is ∙ figures_are s round new lists standing after) i))

-- the tables and histories that its exchanges leave
module _ {T K : Type 0} (table : T → Table) (kept : K → HistoriesView) (Fits : K → Table → Type 0) (s : Settings) (round : ℕ)
    (u : UnderWay T K) (is : IsUnderWay table kept Fits s round u) (plan : IsRoundPlan u.begun.list)
    (rules : Rules) (rules_are : rules ≡ rules_of s) (new : List T) (records : List Record)
    (exchanged : fold_of rules (map table u.tables.items) u.begun.list.exchanges ≡ record { tables = map table new; records = records }) where
  pub left : IsLeft table s round new (kept u.histories)
  left =
      is_left table s round u.begun.list rules (map table u.tables.items) new records (kept u.histories) is.lawful is.may_draw.first plan is.list rules_are
      is.tables is.ended.keys is.standing exchanged

  pub may_count : StandAtRoundEnd table new (kept u.histories)
  may_count = record {
    cluster = standing_cluster table s round new _ left.standing;
    one_list_each = one_list_each table s round new _ left.standing;
    written_by = subst (λ r. AreWrittenBy r (kept u.histories).lists) (sym is.ended.rounds) (written_by s round _ _ left.standing);
    standing = left.each;
  }

  -- and what it came to
  pub played : (counted : Counted T K) (result : RoundView) → AreFiguresCounted table kept u.histories new counted
      → result ≡ played_with round u.begun.list records counted.figures → result ≡ played_of s round
  played counted result are result_is =
      played_is s round (tables_after s (round - 1)) (map table new) (kept u.histories).lists u.begun.list records counted.figures result is.list
      (round_is s round u.begun.list plan is.list rules (map table u.tables.items) (map table new) records exchanged (tables_after s (round - 1))
      is.tables rules_are)
      (are.figures_are ∙ ap (λ r. figures_of r (map table new) (lists_in (kept u.histories).lists)) is.ended.rounds)
      refl left.standing left.after result_is

  pub after : (counted : Counted T K) → AreFiguresCounted table kept u.histories new counted → (drawn : Drawn) → IsDrawnAfter s round drawn
      → IsAfterRound table kept s round (record { tables = counted.tables; histories = counted.histories; drawn = drawn })
  after counted are drawn drawn_is = record {
    standing = subst (λ ts. StandAfterRound s round (map table ts) (kept counted.histories).lists) (sym are.same_tables)
        (subst (λ k. StandAfterRound s round (map table new) (kept k).lists) (sym are.same_histories) left.standing);
    tables = ap (map table) are.same_tables ∙ left.after;
    ended = subst (λ k. HaveEnded s round (kept k)) (sym are.same_histories) is.ended;
    drawn = drawn_is;
  }
