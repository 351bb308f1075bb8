-- How far the exchanges are after some events, step by step.
-- Serves `play` and `Playing`.
use Rattle.planner.proofs.Common.{◌≡◌, ◌≢◌, ℕ, zero, suc, ◌+◌, ◌<◌, ◌≤◌, ◌==◌, Bool, true, false, not, ◌&&◌, ◌||◌, if◌then◌else◌, List, [], ◌∷◌, ◌++◌, length, get_or, set, map, inl, inr, refl, sym, ap, ◌∙◌, subst, arith, count_by, or_right, cases_eq, cases_lt, cases_Bool, eq-eqb, ne_eqb, cond-true, both_ways, get_or-set_same, get_or-set_other, length-set, length-map, get_or_past, sum_by-cons, count_by-le-length, Exchange, RoundListView, Event, Start, Finish, is_started, is_finished, is_running, MayStart, IsLawful, AreFinished, or_none, lawful_none, lawful_push, started-start, started-finish, finished-start, finished-finish, history_of}
use Rattle.planner.specs.declared.schedules.Stage.{Stage}
use Rattle.planner.specs.declared.schedules.Stage.TheVariants.{Waiting, Running, Done}
use Rattle.planner.specs.Stages.{ScheduleView, standing_of, stage_in, stage_after, CanStart, with_stage, waiting_at_first, not_started, is_over}

-- the stage, from whether an exchange is finished and whether it is started
abbrev stage_by : Bool → Bool → Stage
stage_by finished started = if finished then Done else if started then Running else Waiting

waiting_parts : (f s : Bool) → stage_by f s ≡ Waiting → (f ≡ false) × (s ≡ false)
waiting_parts true s is = absurd (cc)
waiting_parts false true is = absurd (cc)
waiting_parts false false is = (refl, refl)

running_parts : (f s : Bool) → stage_by f s ≡ Running → (s && not f) ≡ true
running_parts true s is = absurd (cc)
running_parts false true is = refl
running_parts false false is = absurd (cc)

from_running : (f s : Bool) → (s && not f) ≡ true → stage_by f s ≡ Running
from_running true true is = absurd (cc)
from_running true false is = absurd (cc)
from_running false true is = refl
from_running false false is = absurd (cc)

done_part : (f s : Bool) → stage_by f s ≡ Done → f ≡ true
done_part true s is = refl
done_part false true is = absurd (cc)
done_part false false is = absurd (cc)

-- the stage of an exchange after one more event, of its own or of another one
module _ (before : List Event) (i j : ℕ) where
  own : (b : Bool) → j ≡ i → (b || (j == i)) ≡ true
  own b same = or_right b (j == i) (eq-eqb j i same)

  others : (b : Bool) → j ≢ i → (b || (j == i)) ≡ b
  others b other = ap (λ t. b || t) (ne_eqb j i other) ∙ or_none b

  stage-start_own : j ≡ i → is_finished before j ≡ false → stage_after (before ++ Start i ∷ []) j ≡ Running
  stage-start_own same unfinished = λ k. stage_by ((finished-start before j i ∙ unfinished) k) ((started-start before j i ∙ own (is_started before j) same) k)

  stage-start_other : j ≢ i → stage_after (before ++ Start i ∷ []) j ≡ stage_after before j
  stage-start_other other = λ k. stage_by (finished-start before j i k) ((started-start before j i ∙ others (is_started before j) other) k)

  stage-finish_own : j ≡ i → stage_after (before ++ Finish i ∷ []) j ≡ Done
  stage-finish_own same = λ k. stage_by ((finished-finish before j i ∙ own (is_finished before j) same) k) (is_started (before ++ Finish i ∷ []) j)

  stage-finish_other : j ≢ i → stage_after (before ++ Finish i ∷ []) j ≡ stage_after before j
  stage-finish_other other = λ k. stage_by ((finished-finish before j i ∙ others (is_finished before j) other) k) (started-finish before j i k)

-- a schedule of a plan that stands where these events lead
pub record IsAt (plan : RoundListView) (before : List Event) (s : ScheduleView) : Type 0 where
  pub planned : s.plan ≡ plan
  pub size : length s.stages ≡ length plan.exchanges
  pub lawful : IsLawful plan.exchanges before
  pub stages : (j : ℕ) → stage_in s.stages j ≡ stage_after before j

waiting_all : (es : List Exchange) (j : ℕ) → stage_in (map waiting_at_first es) j ≡ Waiting
waiting_all [] j = refl
waiting_all (e ∷ es) zero = refl
waiting_all (e ∷ es) (suc j) = waiting_all es j

pub at_first : (plan : RoundListView) (s : ScheduleView) → s ≡ not_started plan → IsAt plan [] s
at_first plan s is = subst (IsAt plan []) (sym is) (record {
  planned = refl;
  size = length-map plan.exchanges waiting_at_first;
  lawful = lawful_none plan.exchanges;
  stages = λ j. waiting_all plan.exchanges j;
})

-- all are done exactly where their count is that of the list
abbrev worth : Stage → ℕ
worth x = if is_over x then 1 else 0

count-cons : (x : Stage) (xs : List Stage) → count_by is_over (x ∷ xs) ≡ worth x + count_by is_over xs
count-cons x xs = sum_by-cons worth x xs

all_over : (xs : List Stage) → length xs ≤ count_by is_over xs → (j : ℕ) → j < length xs → get_or xs j Waiting ≡ Done
all_over [] most j lt = absurd (omega arith)
all_over (Waiting ∷ xs) most j lt = absurd (omega (arith, count-cons Waiting xs, count_by-le-length is_over xs))
all_over (Running ∷ xs) most j lt = absurd (omega (arith, count-cons Running xs, count_by-le-length is_over xs))
all_over (Done ∷ xs) most zero lt = refl
all_over (Done ∷ xs) most (suc j) lt = all_over xs (omega (arith, count-cons Done xs)) j (omega arith)

most_over : (xs : List Stage) → ((j : ℕ) → j < length xs → get_or xs j Waiting ≡ Done) → length xs ≤ count_by is_over xs
most_over [] each = omega arith
most_over (x ∷ xs) each =
    let first : worth x ≡ worth Done = ap worth (each 0 (omega arith)) in
    omega (arith, count-cons x xs, first, most_over xs (λ j lt. each (suc j) (omega arith)))

module _ (plan : RoundListView) (before : List Event) (s : ScheduleView) (at : IsAt plan before s) where
  -- the schedule and the events agree on what may start, what runs and what is done
  pub may_start : (i : ℕ) → CanStart s i → MayStart plan.exchanges before i
  may_start i can =
      let there : CanStart (standing_of plan s.stages) i = subst (λ p. CanStart (standing_of p s.stages) i) at.planned can in
      record {
        within = there.within;
        waiting = (waiting_parts (is_finished before i) (is_started before i) (sym (at.stages i) ∙ there.waiting)).1;
        free = λ j lt share. done_part (is_finished before j) (is_started before j) (sym (at.stages j) ∙ there.free j lt share);
      }

  unstarted : (j : ℕ) → is_started before j ≡ false → is_finished before j ≡ false
  unstarted j not_yet = elim (cases_Bool (is_finished before j)) [
    | inl done ↦ absurd (both_ways (is_started before j) not_yet ((history_of plan.exchanges before at.lawful).started j done))
    | inr not_done ↦ not_done
  ]

  pub can_start : (i : ℕ) → MayStart plan.exchanges before i → CanStart s i
  can_start i may = subst (λ p. CanStart (standing_of p s.stages) i) (sym at.planned) (record {
    within = may.within;
    waiting = at.stages i ∙ (λ k. stage_by (unstarted i may.waiting k) (may.waiting k));
    free = λ j lt share. at.stages j ∙ cond-true (is_finished before j) Done (stage_by false (is_started before j)) (may.free j lt share);
  })

  pub runs_now : (i : ℕ) → stage_in s.stages i ≡ Running → is_running before i ≡ true
  runs_now i is = running_parts (is_finished before i) (is_started before i) (sym (at.stages i) ∙ is)

  pub not_running : (i : ℕ) → ¬ (stage_in s.stages i ≡ Running) → is_running before i ≡ false
  not_running i not_so = elim (cases_Bool (is_running before i)) [
    | inl runs ↦ absurd (not_so (at.stages i ∙ from_running (is_finished before i) (is_started before i) runs))
    | inr rests ↦ rests
  ]

  pub runs_within : (i : ℕ) → stage_in s.stages i ≡ Running → i < length plan.exchanges
  runs_within i is = elim (cases_lt i (length s.stages)) [
    | inl lt ↦ omega (arith, lt, at.size)
    | inr past ↦ absurd (let none = get_or_past s.stages i Waiting past in cc)
  ]

  pub are_finished : length plan.exchanges ≤ count_by is_over s.stages → AreFinished plan.exchanges before
  are_finished most i lt = done_part (is_finished before i) (is_started before i) (sym (at.stages i) ∙ all_over s.stages (omega (arith, at.size)) i (omega (arith, at.size)))

  pub are_counted : AreFinished plan.exchanges before → length plan.exchanges ≤ count_by is_over s.stages
  are_counted finished = omega (arith, at.size, most_over s.stages (λ j lt. at.stages j ∙ cond-true (is_finished before j) Done (stage_by false (is_started before j)) (finished j (omega (arith, at.size)))))

  -- one more event
  pub at_start : (t : ScheduleView) (i : ℕ) → CanStart s i → t ≡ with_stage s i Running → IsAt plan (before ++ Start i ∷ []) t
  at_start t i can is = subst (IsAt plan (before ++ Start i ∷ [])) (sym is) (record {
    planned = at.planned;
    size = length-set s.stages i Running ∙ at.size;
    lawful = lawful_push plan.exchanges before (Start i) at.lawful may;
    stages = λ j. elim (cases_eq j i) [
      | inl same ↦ ap (stage_in (set s.stages i Running)) same ∙ get_or-set_same s.stages i Running Waiting (omega (arith, may.within, at.size)) ∙ sym (stage-start_own before i j same (ap (is_finished before) same ∙ unstarted i may.waiting))
      | inr other ↦ get_or-set_other s.stages i j Running Waiting other ∙ at.stages j ∙ sym (stage-start_other before i j other)
    ];
  })
    where
      may : MayStart plan.exchanges before i
      may = may_start i can

  pub at_finish : (t : ScheduleView) (i : ℕ) → stage_in s.stages i ≡ Running → t ≡ with_stage s i Done → IsAt plan (before ++ Finish i ∷ []) t
  at_finish t i running is = subst (IsAt plan (before ++ Finish i ∷ [])) (sym is) (record {
    planned = at.planned;
    size = length-set s.stages i Done ∙ at.size;
    lawful = lawful_push plan.exchanges before (Finish i) at.lawful (runs_now i running);
    stages = λ j. elim (cases_eq j i) [
      | inl same ↦ ap (stage_in (set s.stages i Done)) same ∙ get_or-set_same s.stages i Done Waiting (omega (arith, runs_within i running, at.size)) ∙ sym (stage-finish_own before i j same)
      | inr other ↦ get_or-set_other s.stages i j Done Waiting other ∙ at.stages j ∙ sym (stage-finish_other before i j other)
    ];
  })
