-- A list of exchanges and their stages, as the schedules keep them.
-- Serves the functions of `plays` and `schedules`.
use Rattle.planner.proofs.Common.{◌≡◌, ◌≢◌, ℕ, ◌<◌, Bool, true, false, ◌&&◌, ◌||◌, if◌then◌else◌, List, [], ◌∷◌, ◌++◌, length, slice_get, Option, None, Some, inl, inr, All, refl, sym, ap, ◌∙◌, subst, arith, IsTrue, ◌↔◌, option_eq, cases_eq, cases_lt, lt-ltb, false≢true, get_or_past, get_or-set_other, length-set, All-nil, All-cons, All-head, All-tail, get_or_from_slice_get, slice_get-get_or, Before, share_node, is_started, is_finished, as_list, predecessors_of, predecessors, AreClosed, schedule_of, predecessors_earlier, earlier_from_predecessors, schedule_from}
use Rattle.planner.specs.contracts.schedules.StagePartialEq.TheImpl.{eq-value}
use Rattle.planner.specs.declared.schedules.Stage.{Stage}
use Rattle.planner.specs.declared.schedules.Stage.TheVariants.{Waiting, Running, Done}
use Rattle.planner.specs.Stages.{ScheduleView, IsSchedule, HasSchedule, CanStart, stage_in, with_stage, runs, is_over}
use Rattle.planner.specs.inner.Stages.{none_or_over}

-- the exchanges that are done, and those that run
abbrev pub over_in : List Stage → ℕ → Bool
over_in stages i = is_over (stage_in stages i)

abbrev pub runs_in : List Stage → ℕ → Bool
runs_in stages i = runs (stage_in stages i)

pub over-done : (stage : Stage) → is_over stage ≡ true → stage ≡ Done
over-done Waiting is = absurd (false≢true is)
over-done Running is = absurd (false≢true is)
over-done Done is = refl

over_apart : (stage : Stage) → is_over stage ≡ true → runs stage ≡ false
over_apart Waiting is = refl
over_apart Running is = absurd (false≢true is)
over_apart Done is = refl

pub over_begun : (stage : Stage) → is_over stage ≡ true → stage ≢ Waiting
over_begun Waiting is same = absurd (false≢true is)
over_begun Running is same = absurd (false≢true is)
over_begun Done is same = (cc)

pub runs_begun : (stage : Stage) → runs stage ≡ true → stage ≢ Waiting
runs_begun Waiting is same = absurd (false≢true is)
runs_begun Running is same = (cc)
runs_begun Done is same = absurd (false≢true is)

stage_by_sets : (stage : Stage) → stage ≡ (if is_over stage then Done else if is_over stage || runs stage then Running else Waiting)
stage_by_sets Waiting = refl
stage_by_sets Running = refl
stage_by_sets Done = refl

-- each standing is that of a lawful schedule
module _ (s : ScheduleView) (standing : IsSchedule s) where
  earlier_over : (i : ℕ) → i < length s.plan.exchanges → stage_in s.stages i ≢ Waiting → All (λ j. over_in s.stages j ≡ true) (predecessors s.plan.exchanges i)
  earlier_over i within begun =
      predecessors_earlier s.plan.exchanges (λ j. over_in s.stages j ≡ true) i (λ j less shared. ap is_over (standing.closed i j less within begun shared))

  closed_sets : AreClosed s.plan.exchanges (over_in s.stages) (runs_in s.stages)
  closed_sets = record {
    disjoint = λ i is. over_apart (stage_in s.stages i) is;
    before_first = λ i within is. earlier_over i within (over_begun (stage_in s.stages i) is);
    before_second = λ i within is. earlier_over i within (runs_begun (stage_in s.stages i) is);
  }

  pub schedule_there : HasSchedule s
  schedule_there =
      let built = schedule_from s.plan.exchanges (over_in s.stages) (runs_in s.stages) closed_sets in
      record {
        events = schedule_of s.plan.exchanges (over_in s.stages) (runs_in s.stages);
        lawful = built.lawful;
        stages = λ i within.
            let in_range = lt-ltb i (length s.plan.exchanges) within in
            let over : is_finished (schedule_of s.plan.exchanges (over_in s.stages) (runs_in s.stages)) i ≡ over_in s.stages i = built.finished i ∙ ap (λ b. b && over_in s.stages i) in_range in
            let begun : is_started (schedule_of s.plan.exchanges (over_in s.stages) (runs_in s.stages)) i ≡ (over_in s.stages i || runs_in s.stages i) = built.started i ∙ ap (λ b. (b && over_in s.stages i) || (b && runs_in s.stages i)) in_range in
            stage_by_sets (stage_in s.stages i) ∙ sym (λ k. if over k then Done else if begun k then Running else Waiting);
      }

-- whether an exchange of a list is at a stage
pub told_stage : (stage : Stage) (o : Option Stage) → option_eq eq-value.it o (Some stage) ≡ true → o ≡ Some stage
told_stage Waiting None is = absurd (false≢true is)
told_stage Waiting (Some Waiting) is = refl
told_stage Waiting (Some Running) is = absurd (false≢true is)
told_stage Waiting (Some Done) is = absurd (false≢true is)
told_stage Running None is = absurd (false≢true is)
told_stage Running (Some Waiting) is = absurd (false≢true is)
told_stage Running (Some Running) is = refl
told_stage Running (Some Done) is = absurd (false≢true is)
told_stage Done None is = absurd (false≢true is)
told_stage Done (Some Waiting) is = absurd (false≢true is)
told_stage Done (Some Running) is = absurd (false≢true is)
told_stage Done (Some Done) is = refl

pub stage_told : (stage : Stage) → option_eq eq-value.it (Some stage) (Some stage) ≡ true
stage_told Waiting = refl
stage_told Running = refl
stage_told Done = refl

pub stage_read : (stages : List Stage) (i : ℕ) (stage : Stage) → slice_get stages i ≡ Some stage → stage_in stages i ≡ stage
stage_read stages i stage is = get_or_from_slice_get stages i stage Waiting is

pub stage_there : (stages : List Stage) (i : ℕ) (stage : Stage) → i < length stages → stage_in stages i ≡ stage → slice_get stages i ≡ Some stage
stage_there stages i stage within is = slice_get-get_or stages i Waiting within ∙ ap (λ (x : Stage). Some x) is

-- past the end all wait
pub begun_within : (stages : List Stage) (i : ℕ) → stage_in stages i ≢ Waiting → i < length stages
begun_within stages i begun = elim (cases_lt i (length stages)) [
  | inl within ↦ within
  | inr past ↦ absurd (begun (get_or_past stages i Waiting past))
]

-- what the comparison of what was read with a stage says, of a stage that is past waiting
pub stage_asked : (stages : List Stage) (i : ℕ) (stage : Stage) (o : Option Stage) (b : Bool) → stage ≢ Waiting → o ≡ slice_get stages i → b ≡ option_eq eq-value.it o (Some stage) → IsTrue b ↔ (stage_in stages i ≡ stage)
stage_asked stages i stage o b begun read told = (
  λ yes. stage_read stages i stage (sym read ∙ told_stage stage o (sym told ∙ yes)),
  λ is. told
      ∙ ap (λ x. option_eq eq-value.it x (Some stage)) (read ∙ stage_there stages i stage (begun_within stages i (λ waits. begun (sym is ∙ waits))) is)
      ∙ stage_told stage,
)

-- those that an exchange waits for tell of all earlier ones that share a node with it
abbrev IsOverIn : List Stage → ℕ → Type 0
IsOverIn stages j = stage_in stages j ≡ Done

over_each : (stages : List Stage) (first second : Option ℕ) → none_or_over stages first ≡ true → none_or_over stages second ≡ true → All (IsOverIn stages) (as_list first ++ as_list second)
over_each stages None None of_first of_second = All-nil (IsOverIn stages)
over_each stages None (Some b) of_first of_second = All-cons (IsOverIn stages) b [] (over-done (stage_in stages b) of_second) (All-nil (IsOverIn stages))
over_each stages (Some a) None of_first of_second = All-cons (IsOverIn stages) a [] (over-done (stage_in stages a) of_first) (All-nil (IsOverIn stages))
over_each stages (Some a) (Some b) of_first of_second =
    All-cons (IsOverIn stages) a (b ∷ []) (over-done (stage_in stages a) of_first) (All-cons (IsOverIn stages) b [] (over-done (stage_in stages b) of_second) (All-nil (IsOverIn stages)))

each_over : (stages : List Stage) (first second : Option ℕ) → All (IsOverIn stages) (as_list first ++ as_list second) → (none_or_over stages first ≡ true) × (none_or_over stages second ≡ true)
each_over stages None None all = (refl, refl)
each_over stages None (Some b) all = (refl, ap is_over (All-head (IsOverIn stages) b [] all))
each_over stages (Some a) None all = (ap is_over (All-head (IsOverIn stages) a [] all), refl)
each_over stages (Some a) (Some b) all =
    (ap is_over (All-head (IsOverIn stages) a (b ∷ []) all), ap is_over (All-head (IsOverIn stages) b [] (All-tail (IsOverIn stages) a (b ∷ []) all)))

done_begun : (stage : Stage) → stage ≡ Done → stage ≢ Waiting
done_begun stage is = over_begun stage (ap is_over is)

module _ (s : ScheduleView) (standing : IsSchedule s) (i : ℕ) (within : i < length s.plan.exchanges) (before : Before) (is : before ≡ predecessors_of s.plan.exchanges i) where
  pub free_from_both : none_or_over s.stages before.first ≡ true → none_or_over s.stages before.second ≡ true → (j : ℕ) → j < i → share_node s.plan.exchanges i j ≡ true → stage_in s.stages j ≡ Done
  free_from_both of_first of_second =
      earlier_from_predecessors s.plan.exchanges (IsOverIn s.stages) i
      (λ k j under less over shared. standing.closed k j less (omega arith) (done_begun (stage_in s.stages k) over) shared)
      (subst (λ (b : Before). All (IsOverIn s.stages) (as_list b.first ++ as_list b.second)) is (over_each s.stages before.first before.second of_first of_second))

  pub both_from_free : ((j : ℕ) → j < i → share_node s.plan.exchanges i j ≡ true → stage_in s.stages j ≡ Done) → (none_or_over s.stages before.first ≡ true) × (none_or_over s.stages before.second ≡ true)
  both_from_free free =
      each_over s.stages before.first before.second
      (subst (λ (b : Before). All (IsOverIn s.stages) (as_list b.first ++ as_list b.second)) (sym is) (predecessors_earlier s.plan.exchanges (IsOverIn s.stages) i free))

-- what may start keeps the standing when it starts
pub standing_started : (s : ScheduleView) (i : ℕ) → IsSchedule s → CanStart s i → IsSchedule (with_stage s i Running)
standing_started s i standing can = record {
  planned = standing.planned;
  size = length-set s.stages i Running ∙ standing.size;
  closed = λ k j less within begun shared. elim (cases_eq k i) [
    | inl here ↦ elsewhere j (λ same. absurd (omega arith)) ∙ can.free j (omega arith) (subst (λ n. share_node s.plan.exchanges n j ≡ true) here shared)
    | inr other ↦
        let over : stage_in s.stages j ≡ Done = standing.closed k j less within (λ waits. begun (elsewhere k other ∙ waits)) shared in
        elsewhere j (λ same. done_begun (stage_in s.stages j) over (ap (stage_in s.stages) same ∙ can.waiting)) ∙ over
  ];
}
  where
    elsewhere : (j : ℕ) → j ≢ i → stage_in (with_stage s i Running).stages j ≡ stage_in s.stages j
    elsewhere j other = get_or-set_other s.stages i j Running Waiting other
