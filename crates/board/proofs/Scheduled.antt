-- The lawful schedule at which a board stands.
-- Serves `every_board_keeps_a_schedule`.
use Rattle.board.proofs.Common.{◌≡◌, ℕ, zero, suc, ◌+◌, ◌<◌, ◌≤◌, ◌⊎◌, Bool, true, false, not, ◌&&◌, ◌||◌, if◌then◌else◌, nat_lt, List, length, All, inl, inr, refl, sym, ap, ◌∙◌, subst, arith, cases_Bool, cases_eq, cases_lt, false≢true, and_parts, and_from, lt-ltb, le-ltb, Exchange, IsPlanned, Event, takes_part, is_started, is_finished, is_running, predecessors, finished_upto, schedule_of, AreClosed, predecessors_earlier, share_from, below, schedule_from, in_list_order, State}
use Rattle.board.specs.Plan.{BoardPlan, table_at}
use Rattle.board.specs.Rule.{Slot, made_in, running_in, AreFinishedBelow, NoneIsClaimedFrom, Orderly}
use Rattle.board.specs.Laws.{IsScheduled, EachKeepsASchedule}
use Rattle.board.specs.declared.views.View.{View}

-- the last finished exchange of a node
pub record IsLast (es : List Exchange) (events : List Event) (node b k : ℕ) : Type 0 where
  pub later : (j : ℕ) → k ≤ j → j < b → takes_part es node j ≡ true → is_finished events j ≡ false
  pub last : (k ≡ 0) ⊎ ((i : ℕ) × (k ≡ suc i) × (i < b) × (takes_part es node i ≡ true) × (is_finished events i ≡ true))

last_finished : (es : List Exchange) (events : List Event) (node b : ℕ) → IsLast es events node b (finished_upto es events node b)
last_finished es events node zero = record { later = λ j from less. absurd (omega arith); last = inl refl }
last_finished es events node (suc b) = elim (takes_part es node b && is_finished events b) as (λ c. (takes_part es node b && is_finished events b) ≡ c → IsLast es events node (suc b) (if c then suc b else finished_upto es events node b)) [
  | true ↦ λ is. let parts = and_parts (takes_part es node b) (is_finished events b) is in record { later = λ j from less. absurd (omega (arith, from, less)); last = inr (b, refl, omega arith, parts.0, parts.1) }
  | false ↦ λ is.
      let before = last_finished es events node b in
      record {
        later = λ j from less part. elim (cases_eq j b) [
          | inl here ↦ elim (cases_Bool (is_finished events j)) [
            | inl done ↦ absurd (false≢true (sym is ∙ subst (λ n. (takes_part es node n && is_finished events n) ≡ true) here (and_from (takes_part es node j) (is_finished events j) part done)))
            | inr unfinished ↦ unfinished
          ]
          | inr other ↦ before.later j from (omega (arith, less, other)) part
        ];
        last = elim before.last [
          | inl none_yet ↦ inl none_yet
          | inr some_done ↦ inr (some_done.0, some_done.1, omega (arith, some_done.2), some_done.3, some_done.4)
        ];
      }
] refl

positive : (n : ℕ) → nat_lt 0 n ≡ true → 0 < n
positive n is = elim (cases_lt 0 n) [
  | inl more ↦ more
  | inr none_left ↦ absurd (false≢true (sym (le-ltb 0 n none_left) ∙ is))
]

module _ (plan : BoardPlan) (s : State Slot View) (o : Orderly plan s) where
  abbrev es : List Exchange
  es = plan.list.exchanges

  abbrev first : ℕ → Bool
  first i = nat_lt 0 (made_in s.views i)

  abbrev second : ℕ → Bool
  second i = nat_lt 0 (running_in s.views i)

  closed_at : (i : ℕ) → 0 < made_in s.views i + running_in s.views i → All (λ j. first j ≡ true) (predecessors es i)
  closed_at i claimed = predecessors_earlier es (λ j. first j ≡ true) i (λ j less shared. lt-ltb 0 (made_in s.views j) (omega (arith, o.in_order.free i j claimed less shared)))

  closed : AreClosed es first second
  closed = record {
    disjoint = λ i is. le-ltb 0 (running_in s.views i) (omega (arith, positive (made_in s.views i) is, o.in_order.once i));
    before_first = λ i within is. closed_at i (omega (arith, positive (made_in s.views i) is));
    before_second = λ i within is. closed_at i (omega (arith, positive (running_in s.views i) is));
  }

  abbrev events : List Event
  events = schedule_of es first second

  in_bound : (set : ℕ → Bool) (i : ℕ) → i < length es → below set (length es) i ≡ set i
  in_bound set i within = ap (λ b. b && set i) (lt-ltb i (length es) within)

  done_at : (i : ℕ) → i < length es → is_finished events i ≡ first i
  done_at i within = (schedule_from es first second closed).finished i ∙ in_bound first i within

  begun_at : (i : ℕ) → i < length es → is_started events i ≡ (first i || second i)
  begun_at i within = (schedule_from es first second closed).started i ∙ (λ t. in_bound first i within t || in_bound second i within t)

  apart : (a b : Bool) → (a ≡ true → b ≡ false) → ((a || b) && not a) ≡ b
  apart true b none_both = sym (none_both refl)
  apart false true none_both = refl
  apart false false none_both = refl

  runs_at : (i : ℕ) → i < length es → is_running events i ≡ second i
  runs_at i within = (λ t. begun_at i within t && not (done_at i within t)) ∙ apart (first i) (second i) (closed.disjoint i)

  among : All (IsPlanned (length plan.tables)) es
  among = subst (λ n. All (IsPlanned n) es) (sym o.planned.tables) o.planned.list.planned

  pub is_scheduled : IsScheduled plan s
  is_scheduled = record {
    events = events;
    lawful = (schedule_from es first second closed).lawful;
    finished = done_at;
    running = runs_at;
    home = λ node in_node idle.
        let k : ℕ = finished_upto es events node (length es) in
        let is = last_finished es events node (length es) in
        let within : k ≤ length es = elim is.last [
          | inl none_yet ↦ omega (arith, none_yet)
          | inr done ↦ omega (arith, done.1, done.2)
        ] in
        let finished_below : AreFinishedBelow es (made_in s.views) node k = λ j less part. elim is.last [
          | inl none_yet ↦ absurd (omega (arith, none_yet, less))
          | inr done ↦
              let made_last : 0 < made_in s.views done.0 = positive (made_in s.views done.0) (sym (done_at done.0 done.2) ∙ done.4) in
              elim (cases_eq j done.0) [
                | inl here ↦ omega (arith, ap (made_in s.views) here, made_last, o.in_order.once done.0)
                | inr other ↦ o.in_order.free done.0 j (omega (arith, made_last)) (omega (arith, less, done.1, other)) (share_from es node done.0 j done.3 part)
              ]
        ] in
        let none_from : NoneIsClaimedFrom es (made_in s.views) (running_in s.views) node k = λ j from part. elim (cases_lt j (length es)) [
          | inr past ↦ o.in_order.within j past
          | inl in_list ↦
              let unmade : made_in s.views j ≡ 0 = elim (cases_lt 0 (made_in s.views j)) [
                | inl some_made ↦ absurd (false≢true (sym (is.later j from in_list part) ∙ done_at j in_list ∙ lt-ltb 0 (made_in s.views j) some_made))
                | inr nothing ↦ omega (arith, nothing)
              ] in
              let still : running_in s.views j ≡ 0 = elim (cases_lt 0 (running_in s.views j)) [
                | inl some_runs ↦ absurd (false≢true (sym (idle j (runs_at j in_list ∙ lt-ltb 0 (running_in s.views j) some_runs)) ∙ part))
                | inr nothing ↦ omega (arith, nothing)
              ] in
              omega (arith, unmade, still)
        ] in
        let there = o.tables.home node k in_node within finished_below none_from in
        let state = in_list_order plan.rules plan.tables es events among (schedule_from es first second closed).lawful in
        (table_at plan node k, there, state.home node (omega (arith, in_node, o.planned.tables)) idle);
  }

pub keeps_a_schedule : EachKeepsASchedule
keeps_a_schedule plan s o = is_scheduled plan s o
