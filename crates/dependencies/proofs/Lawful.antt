-- Every lawful schedule gives the tables and records of list order.
-- Serves `every_schedule_keeps_list_order`, `every_whole_schedule_gives_list_order`, `board` and `planner`.
use Rattle.dependencies.proofs.Common.{◌≡◌, ◌≢◌, ◌∙◌, ℕ, suc, ◌+◌, ◌<◌, ◌≤◌, ◌⊎◌, Bool, true, false, if◌then◌else◌, List, [], ◌∷◌, ◌++◌, length, inl, inr, Option, None, Some, refl, sym, ap, subst, arith, add-one, slice_get, cases_Bool, cases_lt, cases_eq, and_from, false_from_ne_true, false≢true, fold_push, slice_get-get_or, Exchange, Rules, Table, empty_table, Exchanged, fold_of}
use Rattle.dependencies.specs.declared.events.Event.{Event}
use Rattle.dependencies.specs.declared.events.Event.TheVariants.{Start, Finish}
use Rattle.dependencies.specs.Sharing.{exchange_at, takes_part, share_node}
use Rattle.dependencies.specs.Schedules.{is_started, is_finished, is_running, MayStart, AreFinished, IsAllowed, IsLawful}
use Rattle.dependencies.specs.States.{State, with_at, both_of, opened, put_back, after_event, state_of}
use Rattle.dependencies.specs.ListOrder.{AreAmong, finished_upto, table_left, taken_before, IsInListOrder, IsEndOfList}
use Rattle.dependencies.proofs.Predecessors.{share_from}
use Rattle.dependencies.proofs.Sharers.{share_sym, initiator_part, responder_part, not_initiator, not_responder, part_cases}
use Rattle.dependencies.proofs.Histories.{on_schedules, started-finish, finished-start, IsHistory, history_of}
use Rattle.dependencies.proofs.Moments.{started_now, finished_now, started_stays, started_cases, finished_cases, finish_other, running_started, running_unfinished, running_from, starts_once, finishes_once}
use Rattle.dependencies.proofs.Maps.{with_at-same, with_at-other, with_two-neither, with_two-first}
use Rattle.dependencies.proofs.Moves.{table_before, done_at, record_kept, table_at_end, among_at, initiator_left, responder_left, table_upto, upto_quiet, upto_same}

-- running exchanges share no node
module _ (es : List Exchange) (events : List Event) (history : IsHistory es events) where
  later_free : (i j : ℕ) → j < i → is_running events i ≡ true → is_running events j ≡ true → share_node es i j ≡ true → ⊥
  later_free i j earlier runs_i runs_j share = false≢true (sym (running_unfinished events j runs_j) ∙ history.free i j (running_started events i runs_i) earlier share)

  pub running_apart : (i j : ℕ) → i ≢ j → is_running events i ≡ true → is_running events j ≡ true → share_node es i j ≡ false
  running_apart i j other runs_i runs_j = false_from_ne_true (share_node es i j) (λ share. elim (cases_lt i j) [
    | inl before ↦ later_free j i before runs_j runs_i (share_sym es i j share)
    | inr from ↦ later_free i j (omega (arith, from, other)) runs_i runs_j share
  ])

  -- where an exchange may start, none of its nodes' exchanges is running, and none from it on is finished
  module _ (i : ℕ) (may : MayStart es events i) (node : ℕ) (part : takes_part es node i ≡ true) where
    later_waits : (j : ℕ) → i ≤ j → takes_part es node j ≡ true → is_started events j ≡ true → ⊥
    later_waits j from in_j started = elim (cases_lt i j) [
      | inl later ↦ false≢true (sym may.waiting ∙ history.started i (history.free j i started later (share_from es node j i in_j part)))
      | inr here ↦
          let same : j ≡ i = omega (arith, from, here) in
          false≢true (sym may.waiting ∙ subst (λ n. is_started events n ≡ true) same started)
    ]

    pub earlier_finished : (j : ℕ) → j < i → takes_part es node j ≡ true → is_finished events j ≡ true
    earlier_finished j earlier in_j = may.free j earlier (share_from es node i j part in_j)

    pub none_finished_from : (j : ℕ) → i ≤ j → takes_part es node j ≡ true → is_finished events j ≡ false
    none_finished_from j from in_j = false_from_ne_true (is_finished events j) (λ finished. later_waits j from in_j (history.started j finished))

    pub none_running : (j : ℕ) → is_running events j ≡ true → takes_part es node j ≡ false
    none_running j runs = false_from_ne_true (takes_part es node j) (λ in_j. elim (cases_lt j i) [
      | inl earlier ↦ false≢true (sym (running_unfinished events j runs) ∙ earlier_finished j earlier in_j)
      | inr from ↦ later_waits j from in_j (running_started events j runs)
    ])

-- what stands in its place, is taken out and is recorded after these events
pub record Follows (rules : Rules) (ts : List Table) (es : List Exchange) (events : List Event) (s : State) : Type 0 where
  pub taken : (i : ℕ) → is_running events i ≡ true → s.out i ≡ Some (taken_before rules ts es i)
  pub away : (i node : ℕ) → is_running events i ≡ true → takes_part es node i ≡ true → s.home node ≡ None
  pub home : (node : ℕ) → node < length ts → ((i : ℕ) → is_running events i ≡ true → takes_part es node i ≡ false) → s.home node ≡ Some (table_left rules ts es events node)
  pub records : (i : ℕ) → is_finished events i ≡ true → s.records i ≡ slice_get (fold_of rules ts es).records i

both_none : (f : ℕ → Option Table) (p q node : ℕ) → (p ≡ node) ⊎ (q ≡ node) → with_at (with_at f p None) q None node ≡ None
both_none f p q node (inl first) = elim (cases_eq node q) [
  | inl second ↦ with_at-same (with_at f p None) q node None second
  | inr other ↦ with_two-first f p q node None None (sym first) other
]
both_none f p q node (inr second) = with_at-same (with_at f p None) q node None (sym second)

module _ (rules : Rules) (ts : List Table) (es : List Exchange) (among : AreAmong ts es) where
  module _ (before : List Event) (history : IsHistory es before) (s : State) (so_far : Follows rules ts es before s) (i : ℕ) where
    abbrev p : ℕ
    p = (exchange_at es i).initiator

    abbrev q : ℕ
    q = (exchange_at es i).responder

    abbrev done : Exchanged
    done = done_at rules ts es i

    -- an exchange starts
    module _ (may : MayStart es before i) where
      unfinished : is_finished before i ≡ false
      unfinished = false_from_ne_true (is_finished before i) (λ finished. false≢true (sym may.waiting ∙ history.started i finished))

      was_running : (k : ℕ) → is_running (before ++ Start i ∷ []) k ≡ true → k ≢ i → is_running before k ≡ true
      was_running k runs other = elim (started_cases before i k (running_started (before ++ Start i ∷ []) k runs)) [
        | inl was ↦ running_from before k was (sym (finished-start before k i) ∙ running_unfinished (before ++ Start i ∷ []) k runs)
        | inr now ↦ absurd (other now)
      ]

      still_running : (k : ℕ) → is_running before k ≡ true → is_running (before ++ Start i ∷ []) k ≡ true
      still_running k runs = running_from (before ++ Start i ∷ []) k (started_stays before i k (running_started before k runs)) (finished-start before k i ∙ running_unfinished before k runs)

      now_running : is_running (before ++ Start i ∷ []) i ≡ true
      now_running = running_from (before ++ Start i ∷ []) i (started_now before i) (finished-start before i i ∙ unfinished)

      at_home : (node : ℕ) → node < length ts → takes_part es node i ≡ true → s.home node ≡ Some (table_before rules ts es node i)
      at_home node lt part =
          so_far.home node lt (none_running es before history i may node part)
          ∙ ap (λ n. Some (table_before rules ts es node n)) (upto_quiet es before node i (length es) (omega (arith, may.within)) (λ j from _ in_j. none_finished_from es before history i may node part j from in_j))
          ∙ ap Some (table_upto rules ts es before node i (omega (arith, may.within)) (earlier_finished es before history i may node part))

      pub follows_start : Follows rules ts es (before ++ Start i ∷ []) (after_event rules es s (Start i))
      follows_start = record {
        taken = λ k runs. elim (cases_eq k i) [
          | inl here ↦ with_at-same s.out i k (both_of (s.home p) (s.home q)) here ∙ both ∙ ap (λ n. Some (taken_before rules ts es n)) (sym here)
          | inr other ↦ with_at-other s.out i k (both_of (s.home p) (s.home q)) other ∙ so_far.taken k (was_running k runs other)
        ];
        away = λ k node runs part. elim (cases_Bool (takes_part es node i)) [
          | inl in_i ↦ both_none s.home p q node (part_cases es node i in_i)
          | inr out ↦ with_two-neither s.home p q node None None (not_initiator es node i out) (not_responder es node i out)
              ∙ so_far.away k node (was_running k runs (λ here. false≢true (sym out ∙ subst (λ n. takes_part es node n ≡ true) here part))) part
        ];
        home = λ node lt none.
            let out = none i now_running in
            with_two-neither s.home p q node None None (not_initiator es node i out) (not_responder es node i out)
            ∙ so_far.home node lt (λ k runs. none k (still_running k runs))
            ∙ ap (λ n. Some (table_before rules ts es node n)) (sym (upto_same es before (before ++ Start i ∷ []) node (length es) (λ j _. finished-start before j i)));
        records = λ k finished. so_far.records k (sym (finished-start before k i) ∙ finished);
      }
        where
          both : both_of (s.home (exchange_at es i).initiator) (s.home (exchange_at es i).responder) ≡ Some (taken_before rules ts es i)
          both = λ t. both_of (at_home (exchange_at es i).initiator (among_at rules ts es among i may.within).initiator (initiator_part es i) t) (at_home (exchange_at es i).responder (among_at rules ts es among i may.within).responder (responder_part es i) t)

    -- an exchange finishes
    module _ (runs : is_running before i ≡ true) where
      in_list : i < length es
      in_list = history.within i (running_started before i runs)

      -- what puts its tables back
      abbrev left : State
      left = put_back rules (exchange_at es i) i s (Some (taken_before rules ts es i))

      not_now : (k : ℕ) → is_running (before ++ Finish i ∷ []) k ≡ true → k ≢ i
      not_now k runs_k here = false≢true (sym (running_unfinished (before ++ Finish i ∷ []) k runs_k) ∙ subst (λ n. is_finished (before ++ Finish i ∷ []) n ≡ true) (sym here) (finished_now before i))

      ran : (k : ℕ) → is_running (before ++ Finish i ∷ []) k ≡ true → is_running before k ≡ true
      ran k runs_k = running_from before k (sym (started-finish before k i) ∙ running_started (before ++ Finish i ∷ []) k runs_k) (sym (finish_other before i k (not_now k runs_k)) ∙ running_unfinished (before ++ Finish i ∷ []) k runs_k)

      runs_on : (k : ℕ) → k ≢ i → is_running before k ≡ true → is_running (before ++ Finish i ∷ []) k ≡ true
      runs_on k other runs_k = running_from (before ++ Finish i ∷ []) k (started-finish before k i ∙ running_started before k runs_k) (finish_other before i k other ∙ running_unfinished before k runs_k)

      -- it is the last finished exchange of its nodes
      last_of : (node : ℕ) → takes_part es node i ≡ true → finished_upto es (before ++ Finish i ∷ []) node (length es) ≡ i + 1
      last_of node part =
          upto_quiet es (before ++ Finish i ∷ []) node (i + 1) (length es) (omega (arith, in_list)) (λ j from _ in_j. none_later j (omega (arith, from)) in_j)
          ∙ ap (finished_upto es (before ++ Finish i ∷ []) node) (add-one i)
          ∙ ap (λ (b : Bool). if b then suc i else finished_upto es (before ++ Finish i ∷ []) node i) (and_from (takes_part es node i) (is_finished (before ++ Finish i ∷ []) i) part (finished_now before i))
          ∙ sym (add-one i)
        where
          none_later : (j : ℕ) → i < j → takes_part es node j ≡ true → is_finished (before ++ Finish i ∷ []) j ≡ false
          none_later j later in_j = false_from_ne_true (is_finished (before ++ Finish i ∷ []) j) (λ finished. elim (finished_cases before i j finished) [
            | inl was ↦ false≢true (sym (running_unfinished before i runs) ∙ history.free j i (history.started j was) later (share_from es node j i in_j part))
            | inr now ↦ absurd (omega (arith, later, now))
          ])

      left_home : (node : ℕ) → node < length ts → ((k : ℕ) → is_running (before ++ Finish i ∷ []) k ≡ true → takes_part es node k ≡ false) → left.home node ≡ Some (table_left rules ts es (before ++ Finish i ∷ []) node)
      left_home node lt none = elim (cases_eq node q) [
        | inl second ↦ subst (λ n. left.home n ≡ Some (table_left rules ts es (before ++ Finish i ∷ []) n)) (sym second)
            (with_at-same (with_at s.home p (Some done.initiator)) q q (Some done.responder) refl ∙ ap Some (sym (ap (table_before rules ts es q) (last_of q (responder_part es i)) ∙ responder_left rules ts es among i in_list)))
        | inr not_q ↦ elim (cases_eq node p) [
          | inl first ↦ subst (λ n. left.home n ≡ Some (table_left rules ts es (before ++ Finish i ∷ []) n)) (sym first)
              (with_two-first s.home p q p (Some done.initiator) (Some done.responder) refl (among_at rules ts es among i in_list).apart ∙ ap Some (sym (ap (table_before rules ts es p) (last_of p (initiator_part es i)) ∙ initiator_left rules ts es among i in_list)))
          | inr not_p ↦
              with_two-neither s.home p q node (Some done.initiator) (Some done.responder) not_p not_q
              ∙ so_far.home node lt (λ k runs_k. elim (cases_eq k i) [
                | inl here ↦ subst (λ n. takes_part es node n ≡ false) (sym here) (out not_p not_q)
                | inr other ↦ none k (runs_on k other runs_k)
              ])
              ∙ ap (λ n. Some (table_before rules ts es node n)) (sym (upto_same es before (before ++ Finish i ∷ []) node (length es) (λ j in_j. finish_other before i j (λ here. false≢true (sym (out not_p not_q) ∙ subst (λ n. takes_part es node n ≡ true) here in_j)))))
        ]
      ]
        where
          out : node ≢ p → node ≢ q → takes_part es node i ≡ false
          out not_p not_q = false_from_ne_true (takes_part es node i) (λ part. elim (part_cases es node i part) [
            | inl first ↦ not_p (sym first)
            | inr second ↦ not_q (sym second)
          ])

      pub follows_finish : Follows rules ts es (before ++ Finish i ∷ []) (after_event rules es s (Finish i))
      follows_finish = subst (Follows rules ts es (before ++ Finish i ∷ [])) (ap (put_back rules (exchange_at es i) i s) (sym (so_far.taken i runs))) (record {
        taken = λ k runs_k. with_at-other s.out i k None (not_now k runs_k) ∙ so_far.taken k (ran k runs_k);
        away = λ k node runs_k part.
            let out : takes_part es node i ≡ false = false_from_ne_true (takes_part es node i) (λ in_i. false≢true (sym (running_apart es before history i k (λ same. not_now k runs_k (sym same)) runs (ran k runs_k)) ∙ share_from es node i k in_i part)) in
            with_two-neither s.home (exchange_at es i).initiator (exchange_at es i).responder node (Some (done_at rules ts es i).initiator) (Some (done_at rules ts es i).responder) (not_initiator es node i out) (not_responder es node i out)
            ∙ so_far.away k node (ran k runs_k) part;
        home = left_home;
        records = λ k finished. elim (cases_eq k i) [
          | inl here ↦ with_at-same s.records i k (Some (done_at rules ts es i).sent) here ∙ sym (record_kept rules ts es i in_list) ∙ ap (slice_get (fold_of rules ts es).records) (sym here)
          | inr other ↦ with_at-other s.records i k (Some (done_at rules ts es i).sent) other ∙ so_far.records k (sym (finish_other before i k other) ∙ finished)
        ];
      })

  -- nothing has begun
  follows_none : Follows rules ts es [] (opened ts)
  follows_none = record {
    taken = λ i runs. absurd (false≢true runs);
    away = λ i node runs part. absurd (false≢true runs);
    home = λ node lt none. slice_get-get_or ts node (empty_table 0 0 0) lt ∙ ap (λ n. Some (table_before rules ts es node n)) (sym (upto_quiet es [] node 0 (length es) (omega arith) (λ j from lt_j part. refl)));
    records = λ i finished. absurd (false≢true finished);
  }

  pub follows : (events : List Event) → IsLawful es events → Follows rules ts es events (state_of rules ts es events)
  follows = on_schedules es (λ events. Follows rules ts es events (state_of rules ts es events)) follows_none (λ before e lawful allowed so_far. subst (Follows rules ts es (before ++ e ∷ [])) (sym (fold_push (after_event rules es) (opened ts) before e)) (step before e lawful allowed so_far))
    where
      step : (before : List Event) (e : Event) → IsLawful es before → IsAllowed es before e → Follows rules ts es before (state_of rules ts es before) → Follows rules ts es (before ++ e ∷ []) (after_event rules es (state_of rules ts es before) e)
      step before (Start i) lawful may so_far = follows_start before (history_of es before lawful) (state_of rules ts es before) so_far i may
      step before (Finish i) lawful runs so_far = follows_finish before (history_of es before lawful) (state_of rules ts es before) so_far i runs

pub in_list_order : (rules : Rules) (ts : List Table) (es : List Exchange) (events : List Event) → AreAmong ts es → IsLawful es events → IsInListOrder rules ts es events (state_of rules ts es events)
in_list_order rules ts es events among lawful =
    let state = follows rules ts es among events lawful in
    record {
      starts_once = starts_once es events lawful;
      finishes_once = finishes_once es events lawful;
      apart = running_apart es events (history_of es events lawful);
      taken = state.taken;
      away = state.away;
      home = state.home;
      records = state.records;
    }

pub whole_in_list_order : (rules : Rules) (ts : List Table) (es : List Exchange) (events : List Event) → AreAmong ts es → IsLawful es events → AreFinished es events → IsEndOfList rules ts es (state_of rules ts es events)
whole_in_list_order rules ts es events among lawful finished = record {
  tables = λ node lt.
      state.home node lt (λ i runs. absurd (false≢true (sym (running_unfinished events i runs) ∙ finished i (history.within i (running_started events i runs)))))
      ∙ ap Some (table_upto rules ts es events node (length es) (omega arith) (λ j lt_j part. finished j lt_j))
      ∙ sym (table_at_end rules ts es node lt);
  records = λ i lt. state.records i (finished i lt);
}
  where
    history : IsHistory es events
    history = history_of es events lawful

    state : Follows rules ts es events (state_of rules ts es events)
    state = follows rules ts es among events lawful
