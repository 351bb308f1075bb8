-- A schedule that is being carried out, event by event.
-- Serves `play`.
use Rattle.planner.proofs.Common.{◌≡◌, ℕ, ◌+◌, ◌<◌, List, [], ◌∷◌, ◌++◌, length, get_or, map, take, All, Some, inl, inr, refl, sym, ap, ◌∙◌, subst, arith, slice_get, take_more, length-map, fold-append, slice_get-get_or, Exchange, Record, Rules, Fault, Table, NodeTableView, IsPlanned, RoundListView, IsRoundPlan, tables_in, table_of_node, IsCluster, fold_of, length-tables_in, fold_tables, fold_counts_records, Event, Start, Finish, IsLawful, AreFinished, after_event, opened, state_of, in_place, IsEndOfList, whole_in_list_order}
use Rattle.planner.specs.declared.plays.Places.{Places}
use Rattle.planner.specs.Stages.{ScheduleView, not_started}
use Rattle.planner.specs.inner.Places.{state_in, AreEmpty, HasPlaces, AreInPlace, StandIn}
use Rattle.planner.specs.Plays.{IsPlayed, IsEventAt, IsRefusal}
use Rattle.planner.specs.inner.Plays.{Follows, IsEventRefused}
use Rattle.planner.proofs.Places.{always_in_place, opened_in_place, opened_state, all_tables, all_records}
use Rattle.planner.proofs.Stages.{IsAt, at_first, at_start, at_finish, can_start, not_running}

-- schedule and places stand where these events lead
pub record IsSoFar (rules : Rules) (plan : RoundListView) (ts : List Table) (before : List Event) (s : ScheduleView) (places : Places) : Type 0 where
  pub at : IsAt plan before s
  pub kept : HasPlaces plan places
  pub state : state_of rules ts plan.exchanges before ≡ state_in places

-- one more event
pub state-more : (rules : Rules) (ts : List Table) (es : List Exchange) (before : List Event) (e : Event) → state_of rules ts es (before ++ e ∷ []) ≡ after_event rules es (state_of rules ts es before) e
state-more rules ts es before e = fold-append (after_event rules es) (opened ts) before (e ∷ [])

-- each table that stands or is taken out is its node's own
pub so_far_in_place : (rules : Rules) (plan : RoundListView) (ks : List NodeTableView) (before : List Event) (s : ScheduleView) (places : Places) → IsCluster plan.nodes (tables_in ks) → IsSoFar rules plan (tables_in ks) before s places → (keys : ℕ) × AreInPlace plan.nodes keys plan.exchanges (state_in places)
so_far_in_place rules plan ks before s places cluster so_far =
    let keys = (table_of_node (tables_in ks) 0).keys in
    (keys, subst (AreInPlace plan.nodes keys plan.exchanges) so_far.state (always_in_place plan.nodes keys plan.exchanges rules (tables_in ks) before (opened_in_place plan.nodes keys plan.exchanges (tables_in ks) cluster)))

-- the whole schedule is carried out
pub played : (rules : Rules) (plan : RoundListView) (ks : List NodeTableView) (events : List Event) (s : ScheduleView) (places : Places) (after : List NodeTableView) (records : List Record) → IsCluster plan.nodes (tables_in ks) → IsRoundPlan plan → IsSoFar rules plan (tables_in ks) events s places → AreFinished plan.exchanges events → StandIn places after records → IsPlayed rules plan.exchanges events (tables_in ks) (tables_in after) records
played rules plan ks events s places after records cluster planned so_far finished stand = record {
  lawful = so_far.at.lawful;
  finished = finished;
  size = ap length tables ∙ count_tables ∙ sym cluster.size;
  home = λ node lt. whole.tables node lt ∙ ap (λ l. slice_get l node) (sym tables);
  kept = λ i lt. whole.records i lt ∙ ap (λ l. slice_get l i) (sym given);
  tables = tables;
  given = given;
}
  where
    whole : IsEndOfList rules (tables_in ks) plan.exchanges (state_of rules (tables_in ks) plan.exchanges events)
    whole = whole_in_list_order rules (tables_in ks) plan.exchanges events (subst (λ n. All (IsPlanned n) plan.exchanges) (sym cluster.size) planned.planned) so_far.at.lawful finished

    count_tables : length (fold_of rules (tables_in ks) plan.exchanges).tables ≡ plan.nodes
    count_tables = (fold_tables rules plan.nodes (table_of_node (tables_in ks) 0).keys plan.exchanges (tables_in ks) planned.planned cluster).size

    count_records : length (fold_of rules (tables_in ks) plan.exchanges).records ≡ length plan.exchanges
    count_records = fold_counts_records rules plan.exchanges (record { tables = tables_in ks; records = [] }) ∙ omega arith

    tables : tables_in after ≡ (fold_of rules (tables_in ks) plan.exchanges).tables
    tables = ap tables_in stand.0 ∙ all_tables places.homes.items (fold_of rules (tables_in ks) plan.exchanges).tables (so_far.kept.homes ∙ sym count_tables)
        (λ n lt. sym (whole.tables n (omega (arith, lt, count_tables, cluster.size))) ∙ ap (λ st. st.home n) so_far.state)

    given : records ≡ (fold_of rules (tables_in ks) plan.exchanges).records
    given = stand.1 ∙ all_records places.records.items (fold_of rules (tables_in ks) plan.exchanges).records (so_far.kept.records ∙ sym count_records)
        (λ n lt. sym (whole.records n (omega (arith, lt, count_records))) ∙ ap (λ st. st.records n) so_far.state)

-- nothing has happened yet
pub so_far_none : (rules : Rules) (plan : RoundListView) (ks : List NodeTableView) (s : ScheduleView) (places : Places) → IsCluster plan.nodes (tables_in ks) → s ≡ not_started plan → places.homes.items ≡ map in_place ks → AreEmpty (length plan.exchanges) places.out.items → AreEmpty (length plan.exchanges) places.records.items → IsSoFar rules plan (tables_in ks) [] s places
so_far_none rules plan ks s places cluster first homes out records = record {
  at = at_first plan s first;
  kept = record {
    homes = ap length homes ∙ length-map ks in_place ∙ sym (length-tables_in ks) ∙ cluster.size;
    out = out.size;
    records = records.size;
  };
  state = opened_state ks places.homes.items places.out.items places.records.items homes out.empty records.empty;
}

-- the event at a place
pub event_there : (es : List Exchange) (events : List Event) (k : ℕ) (d e : Event) → k < length events → get_or events k d ≡ e → IsLawful es (take k events) → IsEventAt es events k e
event_there es events k d e lt is lawful = record { lawful = lawful; event = slice_get-get_or events k d lt ∙ ap Some is }

module _ (plan : RoundListView) (before : List Event) (s : ScheduleView) (at : IsAt plan before s) where
  followed : (e : Event) (t : ScheduleView) → Follows e s t → IsAt plan (before ++ e ∷ []) t
  followed (Start i) t follows = at_start plan before s at t i follows.0 follows.1
  followed (Finish i) t follows = at_finish plan before s at t i follows.0 follows.1

module _ (rules : Rules) (plan : RoundListView) (ts : List Table) (events : List Event) (k : ℕ) (d : Event) (s : ScheduleView) (old : Places) (within : k < length events) (so_far : IsSoFar rules plan ts (take k events) s old) where
  -- one more event
  pub so_far_more : (t : ScheduleView) (new : Places) → Follows (get_or events k d) s t → HasPlaces plan new → after_event rules plan.exchanges (state_in old) (get_or events k d) ≡ state_in new → IsSoFar rules plan ts (take (k + 1) events) t new
  so_far_more t new follows kept state =
      let e = get_or events k d in
      subst (λ before. IsSoFar rules plan ts before t new) (sym (take_more events k d within)) (record {
        at = followed plan (take k events) s so_far.at e t follows;
        kept = kept;
        state = state-more rules ts plan.exchanges (take k events) e ∙ ap (λ x. after_event rules plan.exchanges x e) so_far.state ∙ state;
      })

  refused_as : (e : Event) (f : Fault) → get_or events k d ≡ e → IsEventRefused e s f → IsRefusal plan.exchanges events f
  refused_as (Start i) f is refused = subst (IsRefusal plan.exchanges events) (sym refused.0) (k, i, event_there plan.exchanges events k d (Start i) within is so_far.at.lawful, λ may. refused.1 (can_start plan (take k events) s so_far.at i may))
  refused_as (Finish i) f is (inl refused) = subst (IsRefusal plan.exchanges events) (sym refused.0) (k, i, event_there plan.exchanges events k d (Finish i) within is so_far.at.lawful, not_running plan (take k events) s so_far.at i refused.1)
  refused_as (Finish i) f is (inr memory) = subst (IsRefusal plan.exchanges events) (sym memory) refl

  -- a refused event
  pub event_refused : (f : Fault) → IsEventRefused (get_or events k d) s f → IsRefusal plan.exchanges events f
  event_refused f refused = refused_as (get_or events k d) f refl refused
