-- Runs that have cut nothing: their copies are states of their owners, and hold as much as those of any other mode and
-- budget.
-- Serves most of the crate.
use Rattle.run_laws.proofs.Common.{◌≡◌, ◌≢◌, ℕ, zero, suc, ◌+◌, ◌-◌, ◌<◌, ◌≤◌, true, false, if◌then◌else◌, List, [], ◌∷◌, length, take, All, Some, None, inl, inr, refl, sym, ap, ◌∙◌, subst, arith, Contains, cases_eq, All-take, Contains-append_cases, Entry, Mark, Exchange, Record, IsPlanned, absent, mark_of, mark_held, IsBefore, IsUpTo, absent-first, not_both, up_to-then, Settings, Table, entry_at, mark_at, greatest_mark, greatest_version, with_own_write, with_own_writes, without_others, without_all, table_of_node, AreCopiesOf, own_mark, MissesNone, copy-up_to, greatest_mark-same, greatest_mark-none, entry_at-own_write_other, entry_at-without_all, entry_at-without_others_other, generation_upto, forgets_now, restarts_now, round_list_of, count_upto, count_before, own_writes, written_upto, generation_upto-same, generation_upto-next, restarts-forgets, count_before-grown, next-own_writes, written_upto-grown, planned_list, get_or_from_slice_get, slice_get_within}
use Rattle.run_laws.specs.Floors.{CutsNothingBefore, CutsNothingUpTo, UncutCopiesAreStates}
use Rattle.run_laws.specs.Healing.{Moment, IsUpToMoment}
use Rattle.played_rounds.specs.Outcomes.{row_in}
use Rattle.run_laws.specs.Paths.{next_moment}
use Rattle.cluster.specs.Rounds.{after_restart, begun, rules_of, round_of, tables_after, records_in}
use Rattle.played_rounds.specs.Soundness.{writes_by, tables_within, IsSoundRun}
use Rattle.cluster.proofs.Begins.{begun_at}
use Rattle.run_laws.proofs.Moments.{not_after, recorded_before}
use Rattle.run_laws.proofs.Rings.{sum_none}
use Rattle.played_rounds.proofs.Soundness.{sound_run, counts_after}
use Rattle.run_laws.proofs.StateFolds.{CutNothing, MissNone, misses-own, fold_states}
use Rattle.run_laws.proofs.States.{HoldsAsMuchOf, as_much-from}

-- of an owner whose entries stay, or are gone, the greatest mark is the same, or the absent one
kept-greatest : (t u : Table) (owner : ℕ) → u.keys ≡ t.keys → ((key : ℕ) → entry_at u owner key ≡ entry_at t owner key) → greatest_mark u owner ≡ greatest_mark t owner
kept-greatest t u owner keys same = greatest_mark-same u t owner keys (λ key _. ap mark_held (same key))

gone-greatest : (u : Table) (owner : ℕ) → ((key : ℕ) → entry_at u owner key ≡ None) → greatest_mark u owner ≡ absent
gone-greatest u owner none = greatest_mark-none u owner (λ key _. none key)

nothing : {e : Entry} → None ≡ Some e → ⊥
nothing h = cc

-- a copy of which nothing is held misses none, and any holds as much
gone-misses : (owner : ℕ) (writes : List Entry) (u : Table) → ((key : ℕ) → entry_at u owner key ≡ None) → MissesNone owner writes u
gone-misses owner writes u none e there alike upto =
    up_to-then (mark_of e) absent (mark_at u owner e.key) (subst (IsUpTo (mark_of e)) (gone-greatest u owner none) upto) (absent-first (mark_at u owner e.key))

pub gone-as_much : (owner : ℕ) (t u : Table) → ((key : ℕ) → entry_at t owner key ≡ None) → HoldsAsMuchOf owner t u
gone-as_much owner t u none = as_much-from owner t u (λ key e held. absurd (nothing (sym (none key) ∙ held))) (λ key e held _. absurd (nothing (sym (none key) ∙ held)))

-- one that is kept holds as much as the kept one did
pub kept-as_much : (owner : ℕ) (t u t' u' : Table) → t'.keys ≡ t.keys → u'.keys ≡ u.keys → ((key : ℕ) → entry_at t' owner key ≡ entry_at t owner key) → ((key : ℕ) → entry_at u' owner key ≡ entry_at u owner key) → HoldsAsMuchOf owner t u → HoldsAsMuchOf owner t' u'
kept-as_much owner t u t' u' t_keys u_keys t_same u_same as_much =
    let t_most = kept-greatest t t' owner t_keys t_same in
    let u_most = kept-greatest u u' owner u_keys u_same in
    record {
      greatest = subst (λ m. IsUpTo m (greatest_mark u' owner)) (sym t_most) (subst (IsUpTo (greatest_mark t owner)) (sym u_most) as_much.greatest);
      within = λ key same.
          subst (λ o. IsUpTo (mark_held o) (mark_at u' owner key)) (sym (t_same key))
          (subst (λ o. IsUpTo (mark_at t owner key) (mark_held o)) (sym (u_same key))
          (as_much.within key (ap (λ (m : Mark). m.generation) (sym u_most) ∙ same ∙ ap (λ (m : Mark). m.generation) t_most)));
    }

-- own writes leave what is held of others
others-written : (es : List Entry) (t : Table) (owner key : ℕ) → owner ≢ t.node → entry_at (with_own_writes t es) owner key ≡ entry_at t owner key
others-written [] t owner key other = refl
others-written (e ∷ es) t owner key other =
    others-written es (with_own_write t e.key e.value e.born) owner key other ∙ entry_at-own_write_other t e.key e.value e.born owner key (inl other)

-- a restart drops it
restarted-others : (s : Settings) (round n : ℕ) (t : Table) (owner key : ℕ) → owner ≢ t.node → entry_at (after_restart s round n t) owner key ≡ (if restarts_now s n round then None else entry_at t owner key)
restarted-others s round n t owner key other = elim (forgets_now s n round) as (λ b. forgets_now s n round ≡ b → entry_at (if b then without_all t else (if restarts_now s n round then without_others t else t)) owner key ≡ (if restarts_now s n round then None else entry_at t owner key)) [
  | true ↦ λ forgets. entry_at-without_all t owner key ∙ sym (ap (λ b. if b then None else entry_at t owner key) (restarts-forgets s n round forgets))
  | false ↦ λ _. elim (restarts_now s n round) as (λ b. entry_at (if b then without_others t else t) owner key ≡ (if b then None else entry_at t owner key)) [
    | true ↦ entry_at-without_others_other t owner key other
    | false ↦ refl
  ]
] refl

restarted-node : (s : Settings) (round n : ℕ) (t : Table) → (after_restart s round n t).node ≡ t.node
restarted-node s round n t = elim (forgets_now s n round) as (λ b. (if b then without_all t else (if restarts_now s n round then without_others t else t)).node ≡ t.node) [
  | true ↦ refl
  | false ↦ elim (restarts_now s n round) as (λ b. (if b then without_others t else t).node ≡ t.node) [ true ↦ refl | false ↦ refl ]
]

-- a row that cut nothing has no record that did
pub uncut_records : (records : List Record) → Rattle.played_rounds.specs.Rows.cut_total records ≡ 0 → CutNothing records
uncut_records records none r there =
    let both = sum_none (λ (x : Record). x.back_cut + x.forth_cut) records r none there in
    (omega (arith, both), omega (arith, both))

-- a round, before its exchanges; what comes before that is of an earlier one
abbrev begins_at : ℕ → Moment
begins_at round = record { round = round; exchanges = 0 }

in_earlier : (n : Moment) (round : ℕ) → IsUpToMoment (next_moment n) (begins_at round) → n.round < round
in_earlier n round (inl less) = less
in_earlier n round (inr (same, le)) = absurd (omega (arith, le))

module _ (s : Settings) (some : 2 ≤ s.nodes) (most : s.nodes ≤ 4096) (some_key : 1 ≤ s.keys) (few_keys : s.keys ≤ 64) where
  sound : IsSoundRun s
  sound = sound_run s some most some_key few_keys

  pub first_tables : ℕ → List Table
  first_tables round = begun s round (tables_after s (round - 1))

  abbrev exchanges : ℕ → List Exchange
  exchanges round = (round_list_of s round).exchanges

  among : (round : ℕ) → All (IsPlanned s.nodes) (exchanges round)
  among round = planned_list s round some

  pub next_tables : (round : ℕ) → tables_after s (suc round) ≡ (round_of s (suc round) (tables_after s round)).tables
  unfolding tables_after
  next_tables round = refl

  pub copies_after : (round : ℕ) → AreCopiesOf (writes_by s round) s.nodes s.keys (tables_after s round)
  copies_after round = (sound.after round).copies

  pub copies_begun : (round : ℕ) → 1 ≤ round → AreCopiesOf (writes_by s round) s.nodes s.keys (begun s round (tables_after s (round - 1)))
  copies_begun round first = (sound.within round 0 first).copies

  -- what a node holds of another as a round begins
  module _ (round n owner : ℕ) (first : 1 ≤ round) (lt : n < s.nodes) (other : owner ≢ n) where
    abbrev t : Table
    t = table_of_node (tables_after s (round - 1)) n

    abbrev u : Table
    u = table_of_node (begun s round (tables_after s (round - 1))) n

    t_node : t.node ≡ n
    t_node = ((copies_after (round - 1)).tables.tables n lt).node

    pub same_keys : u.keys ≡ t.keys
    same_keys = ((copies_begun round first).tables.tables n lt).keys ∙ sym ((copies_after (round - 1)).tables.tables n lt).keys

    pub begun-others : (key : ℕ) → entry_at u owner key ≡ (if restarts_now s n round then None else entry_at t owner key)
    begun-others key =
        ap (λ (v : Table). entry_at v owner key) (begun_at s round (tables_after s (round - 1)) n lt)
        ∙ others-written (own_writes s n round (count_before s n round)) (after_restart s round n t) owner key (λ same. other (same ∙ restarted-node s round n t ∙ t_node))
        ∙ restarted-others s round n t owner key (λ same. other (same ∙ t_node))

  -- what is written in a round is above all that its owner had written
  new-above : (round n : ℕ) (e : Entry) → 1 ≤ round → n < s.nodes → Contains (own_writes s n round (count_before s n round)) e → IsBefore (own_mark (table_of_node (tables_after s (round - 1)) n)) (mark_of e)
  new-above round n e first lt (i, in_list, is) = elim (forgets_now s n round) as (λ b. forgets_now s n round ≡ b → IsBefore (own_mark old) (mark_of e)) [
    | true ↦ λ forgets.
        let later = generation_upto-next s n round first forgets in
        record { generation = omega (arith, counts.0, later, generation_is); version = λ same. absurd (omega (arith, counts.0, later, generation_is, same)) }
    | false ↦ λ stays.
        let same_generation = generation_upto-same s n round first stays in
        let same_count : count_before s n round ≡ count_upto s n (round - 1) = count_before-grown s n round first ∙ ap (λ b. if b then 0 else count_upto s n (round - 1)) stays in
        record { generation = omega (arith, counts.0, same_generation, generation_is); version = λ _. omega (arith, counted, same_count, version_is) }
  ] refl
    where
      old : Table
      old = table_of_node (tables_after s (round - 1)) n

      counts : (old.generation ≡ generation_upto s n (round - 1)) × (greatest_version old n ≡ count_upto s n (round - 1))
      counts = counts_after s some most some_key few_keys (round - 1) n lt

      counted : greatest_version old old.node ≡ count_upto s n (round - 1)
      counted = ap (greatest_version old) ((copies_after (round - 1)).tables.tables n lt).node ∙ counts.1

      generation_is : e.generation ≡ generation_upto s n round
      generation_is = subst (λ (x : Entry). x.generation ≡ generation_upto s n round) is (next-own_writes s n round (count_before s n round) i e in_list).0

      version_is : e.version ≡ count_before s n round + i + 1
      version_is = subst (λ (x : Entry). x.version ≡ count_before s n round + i + 1) is (next-own_writes s n round (count_before s n round) i e in_list).1

  -- copies that miss none miss none as a round begins
  pub begun_states : (round : ℕ) → 1 ≤ round → MissNone s.nodes (writes_by s (round - 1)) (tables_after s (round - 1)) → MissNone s.nodes (writes_by s round) (begun s round (tables_after s (round - 1)))
  begun_states round first states n owner lt owner_in = elim (cases_eq owner n) [
    | inl own ↦ subst (λ m. MissesNone m (written_upto s m round) (table_of_node (begun s round (tables_after s (round - 1))) n)) (sym own) (misses-own (writes_by s round) s.nodes s.keys (begun s round (tables_after s (round - 1))) (copies_begun round first) n lt)
    | inr other ↦ elim (restarts_now s n round) as (λ b. ((key : ℕ) → entry_at (table_of_node (begun s round (tables_after s (round - 1))) n) owner key ≡ (if b then None else entry_at (table_of_node (tables_after s (round - 1)) n) owner key)) → MissesNone owner (written_upto s owner round) (table_of_node (begun s round (tables_after s (round - 1))) n)) [
      | true ↦ λ gone. gone-misses owner (written_upto s owner round) (table_of_node (begun s round (tables_after s (round - 1))) n) gone
      | false ↦ λ kept. still other kept
    ] (begun-others round n owner first lt other)
  ]
    where
      was : Table
      was = table_of_node (tables_after s (round - 1)) n

      is : Table
      is = table_of_node (begun s round (tables_after s (round - 1))) n

      still : owner ≢ n → ((key : ℕ) → entry_at is owner key ≡ entry_at was owner key) → MissesNone owner (written_upto s owner round) is
      still other kept e there alike upto =
          let most_same = kept-greatest was is owner (same_keys round n owner first lt other) kept in
          let upto_was = subst (IsUpTo (mark_of e)) most_same upto in
          elim (Contains-append_cases (written_upto s owner (round - 1)) (own_writes s owner round (count_before s owner round)) e (subst (λ ws. Contains ws e) (written_upto-grown s owner round (count_before s owner round) first refl) there)) [
            | inl before ↦ subst (λ o. IsUpTo (mark_of e) (mark_held o)) (sym (kept e.key)) (states n owner lt owner_in e before (alike ∙ ap (λ (m : Mark). m.generation) most_same) upto_was)
            | inr now ↦ absurd (not_both (own_mark (table_of_node (tables_after s (round - 1)) owner)) (mark_of e) (new-above round owner e first owner_in now)
                (up_to-then (mark_of e) (greatest_mark was owner) (own_mark (table_of_node (tables_after s (round - 1)) owner)) upto_was (copy-up_to (writes_by s (round - 1)) s.nodes s.keys (tables_after s (round - 1)) (copies_after (round - 1)) n owner lt owner_in)))
          ]

  pub uncut_round : (round : ℕ) → (row_in s round).cut ≡ 0 → CutNothing (records_in s round)
  uncut_round round none = uncut_records (records_in s round) none

  within_states : (m : Moment) → 1 ≤ m.round → CutsNothingBefore s m → MissNone s.nodes (writes_by s (m.round - 1)) (tables_after s (m.round - 1)) → MissNone s.nodes (writes_by s m.round) (tables_within s m.round m.exchanges)
  within_states m first none states =
      fold_states (rules_of s) s.nodes s.keys (writes_by s m.round) (take m.exchanges (exchanges m.round)) (record { tables = begun s m.round (tables_after s (m.round - 1)); records = [] }) (All-take (IsPlanned s.nodes) m.exchanges (exchanges m.round) (among m.round)) (copies_begun m.round first) (begun_states m.round first states)
      (λ r there. let at = recorded_before s m.round m.exchanges r there in none (record m { exchanges = at.0 }) r first (inr (refl, at.1)) at.2)

  -- where nothing was cut before the round behind one
  states_ended : (round : ℕ) → CutsNothingBefore s (begins_at (suc round)) → MissNone s.nodes (writes_by s round) (tables_after s round)
  states_ended zero none = λ n owner lt owner_in e there alike upto. absurd (omega (arith, there.1))
  states_ended (suc round) none =
      let m : Moment = record { round = suc round; exchanges = length (exchanges (suc round)) } in
      let before = states_ended round (λ n r first upto. none n r first (inl (omega (arith, in_earlier n (suc round) upto)))) in
      let same : round ≡ suc round - 1 = omega arith in
      subst (MissNone s.nodes (writes_by s (suc round))) (sound.ends (suc round) (omega arith))
      (within_states m (omega arith) (λ n r first upto. none n r first (inl (omega (arith, not_after (next_moment n) m upto)))) (subst (λ t. MissNone s.nodes (writes_by s t) (tables_after s t)) same before))

  -- rows tell of all exchanges of their rounds
  pub uncut_rows : (last : ℕ) (m : Moment) → CutsNothingUpTo s last → ((n : Moment) → IsUpToMoment (next_moment n) m → n.round ≤ last) → CutsNothingBefore s m
  uncut_rows last m none within n r first upto is =
      uncut_round n.round (none n.round first (within n upto)) r (n.exchanges, slice_get_within (records_in s n.round) n.exchanges r is, get_or_from_slice_get (records_in s n.round) n.exchanges r r is)

  pub states_after : (round : ℕ) → CutsNothingUpTo s round → MissNone s.nodes (writes_by s round) (tables_after s round)
  states_after round none = states_ended round (uncut_rows round (begins_at (suc round)) none (λ n upto. omega (arith, in_earlier n (suc round) upto)))

  pub copies_are_states : UncutCopiesAreStates s
  copies_are_states m first none n owner lt owner_in = record {
    written = (sound.within m.round m.exchanges first).copies.holds n lt owner;
    last = within_states m first none (states_ended (m.round - 1) (λ l r some upto. none l r some (inl (omega (arith, first, in_earlier l (suc (m.round - 1)) upto))))) n owner lt owner_in;
  }
