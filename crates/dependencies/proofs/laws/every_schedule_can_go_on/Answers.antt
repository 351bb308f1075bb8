use Rattle.dependencies.proofs.Common.{◌≡◌, ℕ, zero, suc, ◌<◌, ◌≤◌, true, not, List, length, ◌⊎◌, inl, inr, sym, subst, arith, cases_Bool, cases_eq, and_from, not_from_false, Exchange}
use Rattle.dependencies.specs.declared.events.Event.{Event}
use Rattle.dependencies.specs.Schedules.{is_started, is_finished}
use Rattle.dependencies.specs.ListOrder.{CanGoOn}
use Rattle.dependencies.proofs.laws.every_schedule_can_go_on.Goals as goal

-- the first exchange that isn't finished is running or may start
upto : (es : List Exchange) (events : List Event) (n : ℕ) → n ≤ length es → ((j : ℕ) → j < n → is_finished events j ≡ true) ⊎ CanGoOn es events
upto es events zero within = inl (λ j below. absurd (omega arith))
upto es events (suc n) within = elim (upto es events n (omega arith)) [
  | inr on ↦ inr on
  | inl all ↦ elim (cases_Bool (is_finished events n)) [
    | inl finished ↦ inl (λ j below. elim (cases_eq j n) [
      | inl here ↦ subst (λ k. is_finished events k ≡ true) (sym here) finished
      | inr other ↦ all j (omega arith)
    ])
    | inr unfinished ↦ inr (
      n,
      elim (cases_Bool (is_started events n)) [
        | inl started ↦ inl (and_from (is_started events n) (not (is_finished events n)) started (not_from_false (is_finished events n) unfinished))
        | inr waiting ↦ inr (record { within = omega arith; waiting = waiting; free = λ j below _. all j below })
      ],
    )
  ]
]

pub returns : goal.returns
returns c es events lawful = upto es events (length es) (omega arith)
