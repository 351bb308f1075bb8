-- What holds of two small rings, by which what the laws ask for comes about.
-- Serves `exchanges_come_whole`, `paths_lead_on`, `rings_are_lawful`, `rings_grow_quiet` and `Otherwise`.
use Rattle.run_laws.proofs.Common.{◌≡◌, ◌≢◌, ℕ, zero, suc, ◌+◌, ◌%◌, ◌<◌, ◌≤◌, Bool, true, false, if◌then◌else◌, List, [], ◌∷◌, length, fold, get_or, All, Some, None, inl, inr, refl, sym, ap, ◌∙◌, subst, arith, slice_get, Contains, range_with_len, filter, le-ltb, All-head, All-tail, All-nil, All-cons, All-map, Contains-append_cases, slice_get_within, Exchange, Fate, Mark, Mode, Record, Rules, absent, digest_kind, IsUpTo, Settings, IsLawfulScenario, with_mode, Table, entry_at, greatest_mark, greatest_version, entry_at-empty_table, greatest_mark-none, table_of_node, delta_between, digest_size, exchanged, sent_until, Folded, exchange_in, LosesNothing, HasOwnPart, IsFresh, generation_upto, peer_of, begins, exchange_of, round_list_of, word_of, count_upto, ◌-◌, rules, IsSomeAnd, before_keeps_own, planned_list}
use Rattle.bench_types.specs.declared.exchanges.Fate.TheVariants as fate
use Rattle.bench_types.specs.declared.exchanges.Mode.TheVariants.{ScuttleBreadth}
use Rattle.limits.specs.declared.TheConstants.{MOST_LOSS}
use Rattle.round_plan.specs.Outages.{forgets_now, is_up, restarts_now, separated, separates}
use Rattle.round_plan.specs.Plan.{is_lost}
use Rattle.round_plan.specs.Writes.{writes_in}
use Rattle.scenario.specs.Settings.{IsLawfulPartition, IsLawfulRestart, IsLawfulLoad}
use Rattle.scenario.specs.declared.elements.Load.{Load}
use Rattle.scenario.specs.declared.elements.Restart.{Restart}
use Rattle.run_laws.specs.CatchingUp.{KeepsCopy, IsPassedOn, begins as starts, keeps, passed_back, passed_forth, AllArePassedOn}
use Rattle.run_laws.specs.Floors.{CutsNothingBefore, CutsNothingUpTo}
use Rattle.run_laws.specs.Formats.{NeverForgets}
use Rattle.run_laws.specs.Healing.{Moment, table_at_moment, IsFreshAt, LeavesCopy, AnswersWhole, IsQuiet, AreQuietAfter, HaveWrittenSince, IsHealed, IsAmple, SendsOwnPartAt}
use Rattle.played_rounds.specs.Outcomes.{row_in}
use Rattle.run_laws.specs.Paths.{next_moment, SendsCopyAt, HandsOn, IsReached, own, handed}
use Rattle.cluster.specs.Rounds.{begun, rules_of, tables_after, records_in}
use Rattle.played_rounds.specs.Soundness.{tables_within}
use Rattle.run_laws.specs.calls.SmallRings.{apart_at_first, restart_of_first, ring_of_three, having_written, meeting, having_met, having_restarted}
use Rattle.run_laws.proofs.Ample.{ample_cuts}
use Rattle.run_laws.proofs.Floors.{begun-others, uncut_round, uncut_rows}
use Rattle.run_laws.proofs.Moments.{cut_back, fate-ended, not_after, placed, planned, record_at, recorded, sound}
use Rattle.run_laws.proofs.Paths.{all_sent, hands_on_recorded}
use Rattle.run_laws.proofs.Rings.{listed}
use Rattle.played_rounds.proofs.Soundness.{counts_after}

below_2 : (P : ℕ → Type 0) → P 0 → P 1 → (n : ℕ) → n < 2 → P n
below_2 P a b zero lt = a
below_2 P a b (suc zero) lt = b
below_2 P a b (suc (suc n)) lt = absurd (omega (arith, lt))

below_3 : (P : ℕ → Type 0) → P 0 → P 1 → P 2 → (n : ℕ) → n < 3 → P n
below_3 P a b c zero lt = a
below_3 P a b c (suc zero) lt = b
below_3 P a b c (suc (suc zero)) lt = c
below_3 P a b c (suc (suc (suc n))) lt = absurd (omega (arith, lt))

pub ring_lawful : (forget : Bool) (mode : Mode) → IsLawfulScenario (with_mode (ring_of_three forget) mode)
ring_lawful forget mode = record {
  format = (omega arith, omega arith);
  nodes = (omega arith, omega arith);
  keys = (omega arith, omega arith);
  entries = omega arith;
  rounds = (omega arith, omega arith);
  seed = omega arith;
  budget = (refl, (omega arith, omega arith));
  loss_ppm = omega arith;
  writes = omega arith;
  partitions = record {
    few = omega arith;
    each = All-cons (IsLawfulPartition 3) (apart_at_first 0) (apart_at_first 1 ∷ []) (partition_lawful 0 (omega arith))
        (All-cons (IsLawfulPartition 3) (apart_at_first 1) [] (partition_lawful 1 (omega arith)) (All-nil (IsLawfulPartition 3)));
  };
  restarts = record {
    few = omega arith;
    each = All-cons (IsLawfulRestart 2 3) (restart_of_first forget 1) (restart_of_first forget 4 ∷ [])
        (restart_lawful 1 (omega arith) (omega arith))
        (All-cons (IsLawfulRestart 2 3) (restart_of_first forget 4) [] (restart_lawful 4 (omega arith) (omega arith)) (All-nil (IsLawfulRestart 2 3)));
  };
  loads = record {
    few = omega arith;
    each = All-cons IsLawfulLoad load [] (record { from = (omega arith, omega arith); to = (omega arith, omega arith); writes = omega arith })
        (All-nil IsLawfulLoad);
  };
}
  where
    restart_lawful : (round : ℕ) → 1 ≤ round → round ≤ 100000 → IsLawfulRestart 2 3 (restart_of_first forget round)
    restart_lawful round first last = record { node = omega arith; round = (first, last); down = omega arith; forget = λ forgets. refl }

    load : Load
    load = record { from = 1; to = 1; writes = 1 }

    partition_lawful : (n : ℕ) → n < 3 → IsLawfulPartition 3 (apart_at_first n)
    partition_lawful n lt = record {
      from = (omega arith, omega arith);
      to = (omega arith, omega arith);
      ascending = λ k more. absurd (omega (arith, more));
      apart = All-cons (λ m. m < 3) n [] lt (All-nil (λ m. m < 3));
    }

pub ring_ample : (forget : Bool) → IsAmple (ring_of_three forget)
ring_ample forget = omega arith

-- where nothing is ever lost
module _ (s : Settings) (lawful : IsLawfulScenario s) (lossless : s.loss_ppm ≡ 0) where
  comes : (word : ℕ) → is_lost s word ≡ false
  comes word = le-ltb (word % MOST_LOSS) s.loss_ppm (omega (arith, lossless))

  pub loses_nothing : (round node : ℕ) → LosesNothing (exchange_of s round node)
  loses_nothing round node = (comes (word_of s node round 1), comes (word_of s node round 2), comes (word_of s node round 3))

  all_come : (round : ℕ) → All LosesNothing (round_list_of s round).exchanges
  all_come round = All-map LosesNothing (exchange_of s round) (filter (begins s round) (range_with_len 0 s.nodes))
      (λ k d lt. loses_nothing round (get_or (filter (begins s round) (range_with_len 0 s.nodes)) k d))

  abbrev IsOk : Record → Type 0
  IsOk r = r.fate ≡ fate.Ok

  among_one : (x r : Record) → IsOk x → Contains (x ∷ []) r → IsOk r
  among_one x r ok (zero, lt, is) = subst IsOk is ok
  among_one x r ok (suc k, lt, is) = absurd (omega (arith, lt))

  fold_ok : (rules : Rules) (es : List Exchange) (f : Folded) → All LosesNothing es → ((r : Record) → Contains f.records r → IsOk r) → (r : Record)
      → Contains (fold (exchange_in rules) f es).records r → IsOk r
  fold_ok rules [] f come ok = ok
  fold_ok rules (e ∷ es) f come ok =
      let p = table_of_node f.tables e.initiator in
      let q = table_of_node f.tables e.responder in
      let sent : Record = (exchanged rules e p q).sent in
      let sent_ok : IsOk sent = ap
      (λ (x : Fate).
      (sent_until x (digest_size (digest_kind rules.mode) p) (digest_size (digest_kind rules.mode) q)
      (delta_between rules.mode e.rotation rules.budget q p) (delta_between rules.mode e.rotation rules.budget p q)).fate)
      (fate-ended e (All-head LosesNothing e es come)) in
      fold_ok rules es (exchange_in rules f e) (All-tail LosesNothing e es come)
      (λ r there. elim (Contains-append_cases f.records (sent ∷ []) r there) [ inl before ↦ ok r before | inr now ↦ among_one sent r sent_ok now ])

  all_ok : (round : ℕ) (r : Record) → Contains (records_in s round) r → IsOk r
  all_ok round = fold_ok (rules_of s) (round_list_of s round).exchanges
      (record { tables = begun s round (tables_after s (round - 1)); records = [] }) (all_come round) (λ r there. absurd (omega (arith, there.1)))

  -- and the budget is ample
  module _ (ample : IsAmple s) where
    uncut_upto : (last : ℕ) → CutsNothingUpTo s last
    uncut_upto last round first le = ample_cuts s lawful ample round first

    pub answered : (round : ℕ) → 1 ≤ round → (r : Record) → Contains (records_in s round) r → AnswersWhole r
    answered round first r there =
        let ok : r.fate ≡ fate.Ok = all_ok round r there in
        record {
          first = λ lost. let apart : fate.Ok ≡ fate.Lost1 = sym ok ∙ lost in cc;
          second = λ lost. let apart : fate.Ok ≡ fate.Lost2 = sym ok ∙ lost in cc;
          cut = (uncut_round s lawful.nodes.0 lawful.nodes.1 lawful.keys.0 lawful.keys.1 round (ample_cuts s lawful ample round first) r there).0;
        }

pub modes_uncut : (forget : Bool) (mode : Mode) (last : ℕ) → CutsNothingUpTo (with_mode (ring_of_three forget) mode) last
modes_uncut forget mode = uncut_upto (with_mode (ring_of_three forget) mode) (ring_lawful forget mode) refl (ring_ample forget)

pub never_forgets : NeverForgets (ring_of_three false)
never_forgets =
    All-cons (λ (r : Restart). r.forget ≡ false) (restart_of_first false 1) (restart_of_first false 4 ∷ []) refl
    (All-cons (λ (r : Restart). r.forget ≡ false) (restart_of_first false 4) [] refl (All-nil (λ (r : Restart). r.forget ≡ false)))

-- who holds nothing of node 2, which has written once, has no fresh copy of it
without : (t u : Table) → u.node ≡ 2 → greatest_version u 2 ≡ 1 → ((key : ℕ) → entry_at t 2 key ≡ None) → IsFresh t u → ⊥
without t u node once none fresh =
    let written : HasOwnPart u = subst (λ n. 1 ≤ greatest_version u n) (sym node) (omega (arith, once)) in
    let same : (key : ℕ) → entry_at u 2 key ≡ None = λ key. sym (subst (λ n. entry_at t n key ≡ entry_at u n key) node (fresh written key)) ∙ none key in
    let nothing = ap (λ (k : Mark). k.version) (greatest_mark-none u 2 (λ key _. same key)) in
    omega (arith, nothing, once)

pub restarts_own : restarts_now (ring_of_three false) 0 1 ≡ true
unfolding restarts_now
restarts_own = refl

-- a restart that doesn't forget leaves what is the node's own
pub keeps_own : KeepsCopy (ring_of_three false) 0 0 1
unfolding forgets_now
keeps_own = inr (refl, refl)

pub written_since : HaveWrittenSince (ring_of_three true) 3
unfolding forgets_now is_up writes_in
written_since = below_3 (λ n. 1 ≤ generation_upto (ring_of_three true) n 3 → 1 ≤ count_upto (ring_of_three true) n 3) (λ _. omega arith)
    (λ _. omega arith) (λ _. omega arith)

pub has_forgotten : generation_upto (ring_of_three true) 0 3 ≡ 1
unfolding forgets_now
has_forgotten = refl

module _ (forget : Bool) where
  abbrev ring : Settings
  ring = ring_of_three forget

  lawful : IsLawfulScenario ring
  lawful = ring_lawful forget ScuttleBreadth

  whole : (round : ℕ) → 1 ≤ round → (r : Record) → Contains (records_in ring round) r → AnswersWhole r
  whole = answered ring lawful refl (ring_ample forget)

  quiet-2 : IsQuiet ring 2
  unfolding is_up restarts_now separated separates writes_in
  quiet-2 = record {
    up = below_3 (λ n. is_up ring n 2 ≡ true) refl refl refl;
    kept = below_3 (λ n. restarts_now ring n 2 ≡ false) refl refl refl;
    joined = λ p q p_in q_in. refl;
    unwritten = refl;
    answered = whole 2 (omega arith);
  }

  quiet-3 : IsQuiet ring 3
  unfolding is_up restarts_now separated separates writes_in
  quiet-3 = record {
    up = below_3 (λ n. is_up ring n 3 ≡ true) refl refl refl;
    kept = below_3 (λ n. restarts_now ring n 3 ≡ false) refl refl refl;
    joined = λ p q p_in q_in. refl;
    unwritten = refl;
    answered = whole 3 (omega arith);
  }

  pub quiet : AreQuietAfter ring 1
  quiet = below_2 (λ i. IsQuiet ring (1 + 1 + i)) quiet-2 quiet-3

  pub all_meet : (row_in ring 2).exchanges ≡ 3
  unfolding is_up separated separates
  all_meet = refl

  abbrev end : Moment
  end = record { round = 2; exchanges = length (round_list_of ring 2).exchanges }

  -- the exchange that a node begins in round 2
  module _ (n : ℕ) (lt : n < 3) where
    abbrev e : Exchange
    e = exchange_of ring 2 n

    abbrev m : Moment
    m = record { round = 2; exchanges = n }

    pub begins_one : slice_get (round_list_of ring 2).exchanges n ≡ Some e
    begins_one = listed ring lawful refl 2 (omega arith) quiet-2 n lt

    recorded_whole : AnswersWhole (record_at ring m e)
    recorded_whole = quiet-2.answered (record_at ring m e) (recorded ring lawful m e (omega arith) begins_one)

    pub recorded_as_whole : IsSomeAnd (slice_get (records_in ring 2) n) AnswersWhole
    recorded_as_whole = subst (λ o. IsSomeAnd o AnswersWhole) (sym (placed ring lawful m e (omega arith) begins_one)) recorded_whole

    pub hands : (owner : ℕ) → HandsOn ring m owner e.responder n
    hands owner = (hands_on_recorded ring lawful m e (omega arith) begins_one owner).0 recorded_whole

    pub ends : LosesNothing e
    ends = loses_nothing ring lawful refl 2 n

    sends : (owner : ℕ) → SendsCopyAt ring m 0 owner (peer_of ring n 2) n
    sends owner =
        let meet = planned ring lawful m e (omega arith) begins_one in
        all_sent ring lawful m e (omega arith) begins_one owner e.responder n meet.responder
        (sym (cut_back ring lawful m e (omega arith) begins_one ends.0 ends.1) ∙ recorded_whole.cut)

    -- until then each node has what it has written
    at_start : (holder : ℕ) → holder < 3 → IsPassedOn ring holder having_written m holder
    at_start holder in_nodes =
        keeps having_written m holder starts (inl (omega arith))
        (λ t above upto. inl
        (subst (λ r. restarts_now ring holder r ≡ false) {x = 2} {y = t} (omega (arith, above, upto)) (quiet-2.kept holder in_nodes)))

    -- and who has it then still has it at the end
    to_end : (owner holder : ℕ) → IsPassedOn ring owner having_written (next_moment m) holder → IsPassedOn ring owner having_written end holder
    to_end owner holder path =
        keeps (next_moment m) end holder path (inr (refl, omega (arith, slice_get_within (round_list_of ring 2).exchanges n e begins_one)))
        (λ t above upto. absurd (omega (arith, above, upto)))

    from_peer : (owner : ℕ) → owner < 3 → owner ≢ n → peer_of ring n 2 ≡ owner → IsPassedOn ring owner having_written end n
    from_peer owner owner_in apart is =
        to_end owner n (passed_back m e (subst (IsPassedOn ring owner having_written m) (sym is) (at_start owner owner_in)) begins_one ends.0 ends.1 apart)

    to_peer : (holder : ℕ) → n ≢ holder → peer_of ring n 2 ≡ holder → IsPassedOn ring n having_written end holder
    to_peer holder apart is =
        to_end n holder
        (subst (IsPassedOn ring n having_written (next_moment m)) is (passed_forth m e (at_start n lt) begins_one ends (λ same. apart (same ∙ is))))

  pub all_passed_on : AllArePassedOn ring 1 2
  all_passed_on owner holder owner_in holder_in = below_3
      (λ o. (h : ℕ) → h < 3 → o ≢ h → IsPassedOn ring o having_written end h) of_0 of_1 of_2 owner owner_in holder holder_in
    where
      of_0 : (h : ℕ) → h < 3 → 0 ≢ h → IsPassedOn ring 0 having_written end h
      of_0 = below_3 (λ h. 0 ≢ h → IsPassedOn ring 0 having_written end h) (λ apart. absurd (apart refl))
          (λ apart. from_peer 1 (omega arith) 0 (omega arith) apart refl) (λ apart. to_peer 0 (omega arith) 2 apart refl)

      of_1 : (h : ℕ) → h < 3 → 1 ≢ h → IsPassedOn ring 1 having_written end h
      of_1 = below_3 (λ h. 1 ≢ h → IsPassedOn ring 1 having_written end h) (λ apart. to_peer 1 (omega arith) 0 apart refl)
          (λ apart. absurd (apart refl)) (λ apart. from_peer 2 (omega arith) 1 (omega arith) apart refl)

      of_2 : (h : ℕ) → h < 3 → 2 ≢ h → IsPassedOn ring 2 having_written end h
      of_2 = below_3 (λ h. 2 ≢ h → IsPassedOn ring 2 having_written end h) (λ apart. from_peer 0 (omega arith) 2 (omega arith) apart refl)
          (λ apart. to_peer 2 (omega arith) 1 apart refl) (λ apart. absurd (apart refl))

  -- from node 2 to node 0, and on to node 1
  pub passes_on : IsPassedOn ring 2 having_written having_met 1
  passes_on =
      passed_back (m 1 (omega arith)) (e 1 (omega arith))
      (passed_back (m 0 (omega arith)) (e 0 (omega arith)) (at_start 0 (omega arith) 2 (omega arith)) (begins_one 0 (omega arith))
      (ends 0 (omega arith)).0 (ends 0 (omega arith)).1 (λ same. absurd (omega (arith, same))))
      (begins_one 1 (omega arith)) (ends 1 (omega arith)).0 (ends 1 (omega arith)).1 (λ same. absurd (omega (arith, same)))

  pub reaches : IsReached ring 2 having_met 1
  reaches = handed (m 1 (omega arith)) 0 1 (handed (m 0 (omega arith)) 2 0 (own (m 0 (omega arith)) (omega arith)) (hands 0 (omega arith) 2))
      (hands 1 (omega arith) 2)

  pub leaves_copy : LeavesCopy ring 0 2 3
  unfolding is_up restarts_now writes_in
  leaves_copy = record { unwritten = refl; kept = refl }

  pub uncut_before : CutsNothingBefore ring having_met
  uncut_before = uncut_rows ring lawful.nodes.0 lawful.nodes.1 lawful.keys.0 lawful.keys.1 2 having_met (modes_uncut forget ScuttleBreadth 2)
      (λ n upto. not_after (next_moment n) having_met upto)

  -- in round 1 nobody meets
  pub none_meet : tables_within ring 1 0 ≡ tables_after ring 1
  unfolding is_up separated separates mathlib.Core.Bool.xor
  none_meet = (sound ring lawful).ends 1 (omega arith)

  abbrev now : ℕ → Table
  now n = table_at_moment ring having_written n

  now_node : (n : ℕ) → n < 3 → (now n).node ≡ n
  now_node n lt = (((sound ring lawful).within 1 0 (omega arith)).copies.tables.tables n lt).node

  one_written : count_upto ring 2 1 ≡ 1
  unfolding forgets_now is_up writes_in
  one_written = refl

  own_version : greatest_version (now 2) 2 ≡ 1
  own_version =
      subst (λ ts. greatest_version (table_of_node ts 2) 2 ≡ 1) (sym none_meet)
      ((counts_after ring lawful.nodes.0 lawful.nodes.1 lawful.keys.0 lawful.keys.1 1 2 (omega arith)).1 ∙ one_written)

  pub has_own_part : HasOwnPart (now 2)
  has_own_part = subst (λ n. 1 ≤ greatest_version (now 2) n) (sym (now_node 2 (omega arith))) (omega (arith, own_version))

  -- and the others hold nothing of node 2
  opened : (n : ℕ) → n < 2 → (key : ℕ) → entry_at (table_of_node (tables_after ring 0) n) 2 key ≡ None
  unfolding tables_after
  opened = below_2 (λ n. (key : ℕ) → entry_at (table_of_node (tables_after ring 0) n) 2 key ≡ None) (entry_at-empty_table 0 3 1 2)
      (entry_at-empty_table 1 3 1 2)

  pub none_held : (n : ℕ) → n < 2 → (key : ℕ) → entry_at (now n) 2 key ≡ None
  none_held n lt key =
      begun-others ring lawful.nodes.0 lawful.nodes.1 lawful.keys.0 lawful.keys.1 1 n 2 (omega arith) (omega (arith, lt))
      (λ same. absurd (omega (arith, same, lt))) key
      ∙ elim (restarts_now ring n 1) as (λ b. (if b then None else entry_at (table_of_node (tables_after ring 0) n) 2 key) ≡ None)
      [ true ↦ refl | false ↦ opened n lt key ]

  pub lags : (n : ℕ) → n < 2 → IsUpTo (greatest_mark (now 2) 2) (greatest_mark (now n) 2) → ⊥
  lags n lt upto =
      let none : IsUpTo (greatest_mark (now 2) 2) absent = subst (IsUpTo (greatest_mark (now 2) 2))
      (greatest_mark-none (now n) 2 (λ key _. none_held n lt key)) upto in
      omega (arith, none.generation, none.version (omega (arith, none.generation)), own_version)

  pub not_fresh : (n : ℕ) → n < 2 → IsFreshAt ring having_written n 2 → ⊥
  not_fresh n lt = without (now n) (now 2) (now_node 2 (omega arith)) own_version (none_held n lt)

  pub not_healed : IsHealed ring 1 → ⊥
  not_healed healed = not_fresh 1 (omega arith)
      (subst (λ ts. IsFresh (table_of_node ts 1) (table_of_node ts 2)) (sym none_meet) (healed.fresh 1 2 (omega arith) (omega arith)))

  pub sends_copy : (owner : ℕ) → SendsCopyAt ring meeting 0 owner 2 0
  sends_copy owner = sends 0 (omega arith) owner

  pub sends_own : SendsOwnPartAt ring meeting 0 2 0
  sends_own i from_it there = sends_copy i.owner i refl there

  -- node 0 loses in round 4 what it holds of node 2
  abbrev later : ℕ → Table
  later n = table_at_moment ring having_restarted n

  still_once : count_upto ring 2 4 ≡ 1
  unfolding forgets_now is_up writes_in
  still_once = refl

  later_version : greatest_version (later 2) 2 ≡ 1
  later_version =
      let begins = ((sound ring lawful).within 4 0 (omega arith)).copies.tables in
      let exchanges = (round_list_of ring 4).exchanges in
      let own = before_keeps_own (rules_of ring) 3 1 exchanges (begun ring 4 (tables_after ring 3)) (planned_list ring 4 (omega arith)) begins
      (length exchanges) 2 in
      sym (subst (λ n. greatest_version (table_of_node (tables_within ring 4 (length exchanges)) 2) n ≡ greatest_version (later 2) n)
      (begins.tables 2 (omega arith)).node (ap (λ (k : Mark). k.version) own.greatest))
      ∙ subst (λ ts. greatest_version (table_of_node ts 2) 2 ≡ 1) (sym ((sound ring lawful).ends 4 (omega arith)))
      ((counts_after ring lawful.nodes.0 lawful.nodes.1 lawful.keys.0 lawful.keys.1 4 2 (omega arith)).1 ∙ still_once)

  restarts_later : restarts_now ring 0 4 ≡ true
  unfolding restarts_now
  restarts_later = refl

  pub not_fresh_later : IsFreshAt ring having_restarted 0 2 → ⊥
  not_fresh_later =
      without (later 0) (later 2) (((sound ring lawful).within 4 0 (omega arith)).copies.tables.tables 2 (omega arith)).node later_version (λ key.
      begun-others ring lawful.nodes.0 lawful.nodes.1 lawful.keys.0 lawful.keys.1 4 0 2 (omega arith) (omega arith) (λ same. absurd (omega (arith, same))) key
      ∙ ap (λ b. if b then None else entry_at (table_of_node (tables_after ring 3) 0) 2 key) restarts_later)
