-- Lawful schedules, event by event.
-- Serves `predecessors_tell_of_all_earlier`, `Lawful`, `Moments`, `Sets` and `planner`.
use Rattle.dependencies.proofs.Common.{◌≡◌, ℕ, zero, suc, ◌+◌, ◌<◌, ◌≤◌, Bool, true, false, not, ◌==◌, ◌||◌, List, [], ◌∷◌, ◌++◌, length, take, slice_get, Some, ◌⊎◌, inl, inr, refl, sym, ap, ◌∙◌, subst, arith, cases_lt, or_cases, or_left, and_parts, eqb-true, false≢true, take_more, take_all, take-take, take-append-le, take_at, length_push, length-take-le, none-some, same_Some, slice_get_within, slice_get_cases, list_any-append, Exchange}
use Rattle.dependencies.specs.declared.events.Event.{Event}
use Rattle.dependencies.specs.declared.events.Event.TheVariants.{Start, Finish}
use Rattle.dependencies.specs.Sharing.{share_node}
use Rattle.dependencies.specs.Schedules.{is_start_of, is_finish_of, is_started, is_finished, IsAllowed, IsLawful}

pub or_none : (b : Bool) → (b || false) ≡ b
or_none true = refl
or_none false = refl

slice_get-take : {X : Type 0} (xs : List X) (n k : ℕ) → k < n → slice_get (take n xs) k ≡ slice_get xs k
slice_get-take xs zero k below = absurd (omega arith)
slice_get-take [] (suc n) k below = refl
slice_get-take (x ∷ xs) (suc n) zero below = refl
slice_get-take (x ∷ xs) (suc n) (suc k) below = slice_get-take xs n k (omega arith)

slice_get-append_left : {X : Type 0} (xs ys : List X) (k : ℕ) → k < length xs → slice_get (xs ++ ys) k ≡ slice_get xs k
slice_get-append_left [] ys k below = absurd (omega arith)
slice_get-append_left (x ∷ xs) ys zero below = refl
slice_get-append_left (x ∷ xs) ys (suc k) below = slice_get-append_left xs ys k (omega arith)

slice_get_push : {X : Type 0} (xs : List X) (y : X) → slice_get (xs ++ y ∷ []) (length xs) ≡ Some y
slice_get_push [] y = refl
slice_get_push (x ∷ xs) y = slice_get_push xs y

-- the first events of a lawful schedule are one
pub lawful_take : (es : List Exchange) (events : List Event) (n : ℕ) → IsLawful es events → n ≤ length events → IsLawful es (take n events)
lawful_take es events n lawful within k e is =
    let below : k < n = omega (arith, slice_get_within (take n events) k e is, length-take-le n events within) in
    subst (λ before. IsAllowed es before e) (sym (take-take k n events (omega arith))) (lawful k e (sym (slice_get-take events n k below) ∙ is))

-- a lawful schedule and an event that is allowed after it are one
pub lawful_push : (es : List Exchange) (events : List Event) (e : Event) → IsLawful es events → IsAllowed es events e → IsLawful es (events ++ e ∷ [])
lawful_push es events e lawful allowed k d is = elim (cases_lt k (length events)) [
  | inl before ↦ subst (λ h. IsAllowed es h d) (sym (take-append-le k events (e ∷ []) (omega arith))) (lawful k d (sym (slice_get-append_left events (e ∷ []) k before) ∙ is))
  | inr from ↦
      let within = slice_get_within (events ++ e ∷ []) k d is in
      let this : length events ≡ k = omega (arith, within, length_push events e) in
      let same : e ≡ d = same_Some e d (sym (slice_get_push events e) ∙ ap (slice_get (events ++ e ∷ [])) this ∙ is) in
      subst (λ h. IsAllowed es h d) (sym (take_at events (e ∷ []) k this)) (subst (IsAllowed es events) same allowed)
]

pub lawful_none : (es : List Exchange) → IsLawful es []
lawful_none es k e is = absurd (none-some e is)

-- what holds at first and is kept by each allowed event holds of each lawful schedule
pub on_schedules : (es : List Exchange) (P : List Event → Type 0) → P [] → ((before : List Event) (e : Event) → IsLawful es before → IsAllowed es before e → P before → P (before ++ e ∷ [])) → (events : List Event) → IsLawful es events → P events
on_schedules es P first step events lawful = subst P (take_all (length events) events (omega arith)) (upto (length events) (omega arith))
  where
    upto : (n : ℕ) → n ≤ length events → P (take n events)
    upto zero within = first
    upto (suc n) within = elim (slice_get_cases events n).1 [
      | inr past ↦ absurd (omega (arith, past.0))
      | inl there ↦
          let next : suc n ≡ n + 1 = omega arith in
          subst P (sym (ap (λ m. take m events) next ∙ take_more events n there.0 there.1 ∙ ap (λ y. take n events ++ y ∷ []) there.3)) (step (take n events) there.0 (lawful_take es events n lawful (omega arith)) (lawful n there.0 there.2) (upto n (omega arith)))
    ]

-- what a further event changes
pub started-start : (events : List Event) (i j : ℕ) → is_started (events ++ Start j ∷ []) i ≡ (is_started events i || (i == j))
started-start events i j = list_any-append (is_start_of i) events (Start j ∷ []) ∙ ap (λ b. is_started events i || b) (or_none (i == j))

pub started-finish : (events : List Event) (i j : ℕ) → is_started (events ++ Finish j ∷ []) i ≡ is_started events i
started-finish events i j = list_any-append (is_start_of i) events (Finish j ∷ []) ∙ or_none (is_started events i)

pub finished-start : (events : List Event) (i j : ℕ) → is_finished (events ++ Start j ∷ []) i ≡ is_finished events i
finished-start events i j = list_any-append (is_finish_of i) events (Start j ∷ []) ∙ or_none (is_finished events i)

pub finished-finish : (events : List Event) (i j : ℕ) → is_finished (events ++ Finish j ∷ []) i ≡ (is_finished events i || (i == j))
finished-finish events i j = list_any-append (is_finish_of i) events (Finish j ∷ []) ∙ ap (λ b. is_finished events i || b) (or_none (i == j))

-- what any lawful schedule keeps
pub record IsHistory (es : List Exchange) (events : List Event) : Type 0 where
  pub within : (k : ℕ) → is_started events k ≡ true → k < length es
  pub started : (k : ℕ) → is_finished events k ≡ true → is_started events k ≡ true
  pub free : (k j : ℕ) → is_started events k ≡ true → j < k → share_node es k j ≡ true → is_finished events j ≡ true

history_none : (es : List Exchange) → IsHistory es []
history_none es = record {
  within = λ k is. absurd (false≢true is);
  started = λ k is. absurd (false≢true is);
  free = λ k j is. absurd (false≢true is);
}

history_more : (es : List Exchange) (before : List Event) (e : Event) → IsAllowed es before e → IsHistory es before → IsHistory es (before ++ e ∷ [])
history_more es before (Start i) allowed so_far = record {
  within = λ k is. elim (start_cases k is) [
    | inl was ↦ so_far.within k was
    | inr this ↦ subst (λ n. n < length es) (sym this) allowed.within
  ];
  started = λ k is. started-start before k i ∙ or_left (is_started before k) (k == i) (so_far.started k (sym (finished-start before k i) ∙ is));
  free = λ k j is below shared. finished-start before j i ∙ elim (start_cases k is) [
    | inl was ↦ so_far.free k j was below shared
    | inr this ↦ allowed.free j (subst (λ n. j < n) this below) (subst (λ n. share_node es n j ≡ true) this shared)
  ];
}
  where
    start_cases : (k : ℕ) → is_started (before ++ Start i ∷ []) k ≡ true → (is_started before k ≡ true) ⊎ (k ≡ i)
    start_cases k is = elim (or_cases (is_started before k) (k == i) (sym (started-start before k i) ∙ is)) [
      | inl was ↦ inl was
      | inr this ↦ inr (eqb-true k i this)
    ]
history_more es before (Finish i) allowed so_far = record {
  within = λ k is. so_far.within k (sym (started-finish before k i) ∙ is);
  started = λ k is. started-finish before k i ∙ elim (or_cases (is_finished before k) (k == i) (sym (finished-finish before k i) ∙ is)) [
    | inl was ↦ so_far.started k was
    | inr this ↦ subst (λ n. is_started before n ≡ true) (sym (eqb-true k i this)) (and_parts (is_started before i) (not (is_finished before i)) allowed).0
  ];
  free = λ k j is below shared. finished-finish before j i ∙ or_left (is_finished before j) (j == i) (so_far.free k j (sym (started-finish before k i) ∙ is) below shared);
}

pub history_of : (es : List Exchange) (events : List Event) → IsLawful es events → IsHistory es events
history_of es = on_schedules es (IsHistory es) (history_none es) (λ before e _ allowed so_far. history_more es before e allowed so_far)
