-- What one more event of a schedule changes, and how often each event comes.
-- Serves `Lawful`.
use Rattle.dependencies.proofs.Common.{◌≡◌, ◌≢◌, ◌∙◌, ℕ, ◌+◌, ◌≤◌, ◌⊎◌, Bool, true, false, not, ◌||◌, ◌==◌, List, [], ◌∷◌, ◌++◌, inl, inr, cond, refl, sym, ap, subst, arith, count_by, list_any, or_cases, or_left, or_right, and_parts, and_from, eqb-true, eq-eqb, false≢true, false_from_ne_true, not-true, not_from_false, sum_by_push, or_push, Exchange}
use Rattle.dependencies.specs.declared.events.Event.{Event}
use Rattle.dependencies.specs.declared.events.Event.TheVariants.{Start, Finish}
use Rattle.dependencies.specs.Schedules.{is_start_of, is_finish_of, is_started, is_finished, is_running, IsAllowed, IsLawful}
use Rattle.dependencies.proofs.Histories.{or_none, on_schedules, started-start, finished-finish}

module _ (before : List Event) (k : ℕ) where
  pub started_now : is_started (before ++ Start k ∷ []) k ≡ true
  started_now = started-start before k k ∙ or_right (is_started before k) (k == k) (eq-eqb k k refl)

  pub finished_now : is_finished (before ++ Finish k ∷ []) k ≡ true
  finished_now = finished-finish before k k ∙ or_right (is_finished before k) (k == k) (eq-eqb k k refl)

  pub started_stays : (i : ℕ) → is_started before i ≡ true → is_started (before ++ Start k ∷ []) i ≡ true
  started_stays i is = started-start before i k ∙ or_left (is_started before i) (i == k) is

  pub started_cases : (i : ℕ) → is_started (before ++ Start k ∷ []) i ≡ true → (is_started before i ≡ true) ⊎ (i ≡ k)
  started_cases i is = elim (or_cases (is_started before i) (i == k) (sym (started-start before i k) ∙ is)) [
    | inl was ↦ inl was
    | inr now ↦ inr (eqb-true i k now)
  ]

  pub finished_cases : (i : ℕ) → is_finished (before ++ Finish k ∷ []) i ≡ true → (is_finished before i ≡ true) ⊎ (i ≡ k)
  finished_cases i is = elim (or_cases (is_finished before i) (i == k) (sym (finished-finish before i k) ∙ is)) [
    | inl was ↦ inl was
    | inr now ↦ inr (eqb-true i k now)
  ]

  -- a finish finishes no other
  pub finish_other : (i : ℕ) → i ≢ k → is_finished (before ++ Finish k ∷ []) i ≡ is_finished before i
  finish_other i other =
      finished-finish before i k
      ∙ ap (λ b. is_finished before i || b) (false_from_ne_true (i == k) (λ same. other (eqb-true i k same)))
      ∙ or_none (is_finished before i)

-- what is running was started and isn't finished
pub running_started : (events : List Event) (i : ℕ) → is_running events i ≡ true → is_started events i ≡ true
running_started events i is = (and_parts (is_started events i) (not (is_finished events i)) is).0

pub running_unfinished : (events : List Event) (i : ℕ) → is_running events i ≡ true → is_finished events i ≡ false
running_unfinished events i is = not-true (is_finished events i) (and_parts (is_started events i) (not (is_finished events i)) is).1

pub running_from : (events : List Event) (i : ℕ) → is_started events i ≡ true → is_finished events i ≡ false → is_running events i ≡ true
running_from events i started unfinished = and_from (is_started events i) (not (is_finished events i)) started (not_from_false (is_finished events i) unfinished)

-- how often an event that passes a test comes, where it is allowed once at most
once_more : (p : Event → Bool) (before : List Event) (e : Event) → (p e ≡ true → list_any p before ≡ false)
    → count_by p before ≡ cond (list_any p before) 1 0 → count_by p (before ++ e ∷ []) ≡ cond (list_any p (before ++ e ∷ [])) 1 0
once_more p before e fresh so_far =
    sum_by_push (λ x. cond (p x) 1 0) before e
    ∙ ap (λ n. n + cond (p e) 1 0) so_far
    ∙ adds (list_any p before) (p e) fresh
    ∙ ap (λ b. cond b 1 0) (sym (or_push (list_any p) p refl (λ x xs. refl) before e))
  where
    adds : (was now : Bool) → (now ≡ true → was ≡ false) → cond was 1 0 + cond now 1 0 ≡ cond (was || now) 1 0
    adds was false fresh = adds_none was
      where
        adds_none : (was : Bool) → cond was 1 0 + 0 ≡ cond (was || false) 1 0
        adds_none true = refl
        adds_none false = refl
    adds true true fresh = absurd (false≢true (sym (fresh refl)))
    adds false true fresh = refl

-- no exchange starts or finishes twice
record ComesOnce (events : List Event) : Type 0 where
  pub starts : (i : ℕ) → count_by (is_start_of i) events ≡ cond (is_started events i) 1 0
  pub finishes : (i : ℕ) → count_by (is_finish_of i) events ≡ cond (is_finished events i) 1 0

comes_once : (es : List Exchange) (events : List Event) → IsLawful es events → ComesOnce events
comes_once es = on_schedules es ComesOnce (record { starts = λ i. refl; finishes = λ i. refl }) (λ before e _ allowed so_far. more before e allowed so_far)
  where
    more : (before : List Event) (e : Event) → IsAllowed es before e → ComesOnce before → ComesOnce (before ++ e ∷ [])
    more before (Start k) may so_far = record {
      starts = λ i. once_more (is_start_of i) before (Start k) (λ same. subst (λ n. is_started before n ≡ false) (sym (eqb-true i k same)) may.waiting) (so_far.starts i);
      finishes = λ i. once_more (is_finish_of i) before (Start k) (λ same. absurd (false≢true same)) (so_far.finishes i);
    }
    more before (Finish k) running so_far = record {
      starts = λ i. once_more (is_start_of i) before (Finish k) (λ same. absurd (false≢true same)) (so_far.starts i);
      finishes = λ i. once_more (is_finish_of i) before (Finish k) (λ same. subst (λ n. is_finished before n ≡ false) (sym (eqb-true i k same)) (running_unfinished before k running)) (so_far.finishes i);
    }

at_most_one : (b : Bool) → cond b 1 0 ≤ 1
at_most_one true = omega arith
at_most_one false = omega arith

pub starts_once : (es : List Exchange) (events : List Event) → IsLawful es events → (i : ℕ) → count_by (is_start_of i) events ≤ 1
starts_once es events lawful i = rw ((comes_once es events lawful).starts i) (at_most_one (is_started events i))

pub finishes_once : (es : List Exchange) (events : List Event) → IsLawful es events → (i : ℕ) → count_by (is_finish_of i) events ≤ 1
finishes_once es events lawful i = rw ((comes_once es events lawful).finishes i) (at_most_one (is_finished events i))
