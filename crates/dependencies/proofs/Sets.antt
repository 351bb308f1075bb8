-- The schedule that carries out one set of exchanges and then starts another, built event by event.
-- Serves `two_sets_make_a_schedule`, `board` and `planner`.
use Rattle.dependencies.proofs.Common.{◌≡◌, ℕ, zero, suc, ◌+◌, ◌<◌, Bool, true, false, not, ◌==◌, ◌&&◌, ◌||◌, if◌then◌else◌, List, [], ◌∷◌, ◌++◌, length, map, append_assoc, inl, inr, refl, sym, ap, ◌∙◌, subst, arith, nat_lt, flat_map, range_with_len, filter, cases_lt, cases_eq, and_left, and_right, and_from, or_right, or_from, not_from_false, eq-eqb, ne_eqb, lt-ltb, le-ltb, false≢true, append-nil, Exchange}
use Rattle.dependencies.specs.declared.events.Event.{Event}
use Rattle.dependencies.specs.declared.events.Event.TheVariants.{Start, Finish}
use Rattle.dependencies.specs.Sharing.{share_node}
use Rattle.dependencies.specs.Schedules.{is_started, is_finished, is_running, MayStart, IsLawful}
use Rattle.dependencies.specs.ListOrder.{carried_out, schedule_of, AreClosed}
use Rattle.dependencies.proofs.Predecessors.{earlier_from_predecessors}
use Rattle.dependencies.proofs.Histories.{or_none, lawful_none, lawful_push, started-start, started-finish, finished-start, finished-finish}

-- a set's places below a bound
abbrev pub below : (ℕ → Bool) → ℕ → ℕ → Bool
below set bound j = nat_lt j bound && set j

below_none : (set : ℕ → Bool) (j : ℕ) → below set 0 j ≡ false
below_none set j = and_left (nat_lt j 0) (set j) (le-ltb j 0 (omega arith))

below_with : (set : ℕ → Bool) (a j : ℕ) → set a ≡ true → (below set a j || (j == a)) ≡ below set (a + 1) j
below_with set a j there = elim (cases_eq j a) [
  | inl here ↦ or_right (below set a j) (j == a) (eq-eqb j a here) ∙ sym (and_from (nat_lt j (a + 1)) (set j) (lt-ltb j (a + 1) (omega arith)) (ap set here ∙ there))
  | inr other ↦ elim (cases_lt j a) [
    | inl before ↦ (λ i. (lt-ltb j a before i && set j) || ne_eqb j a other i) ∙ or_none (set j) ∙ (λ i. sym (lt-ltb j (a + 1) (omega arith)) i && set j)
    | inr behind ↦ (λ i. (le-ltb j a behind i && set j) || ne_eqb j a other i) ∙ (λ i. sym (le-ltb j (a + 1) (omega arith)) i && set j)
  ]
]

below_without : (set : ℕ → Bool) (a j : ℕ) → set a ≡ false → below set a j ≡ below set (a + 1) j
below_without set a j none = elim (cases_eq j a) [
  | inl here ↦ and_right (nat_lt j a) (set j) (ap set here ∙ none) ∙ sym (and_right (nat_lt j (a + 1)) (set j) (ap set here ∙ none))
  | inr other ↦ elim (cases_lt j a) [
    | inl before ↦ (λ i. lt-ltb j a before i && set j) ∙ (λ i. sym (lt-ltb j (a + 1) (omega arith)) i && set j)
    | inr behind ↦ (λ i. le-ltb j a behind i && set j) ∙ (λ i. sym (le-ltb j (a + 1) (omega arith)) i && set j)
  ]
]

or_assoc : (x y z : Bool) → ((x || y) || z) ≡ (x || (y || z))
or_assoc true y z = refl
or_assoc false y z = refl

-- so many exchanges of the first set are carried out, and so many of the second are started
pub record IsBuilt (es : List Exchange) (first second : ℕ → Bool) (carried begun : ℕ) (events : List Event) : Type 0 where
  pub lawful : IsLawful es events
  pub started : (j : ℕ) → is_started events j ≡ (below first carried j || below second begun j)
  pub finished : (j : ℕ) → is_finished events j ≡ below first carried j

module _ (es : List Exchange) (first second : ℕ → Bool) (closed : AreClosed es first second) where
  -- each set's earlier exchanges that share a node are in the first
  first_closed : (n i j : ℕ) → i < n → i < length es → first i ≡ true → j < i → share_node es i j ≡ true → first j ≡ true
  first_closed zero i j under within there less shared = absurd (omega arith)
  first_closed (suc n) i j under within there less shared =
      earlier_from_predecessors es (λ k. first k ≡ true) i (λ k m before under_k there_k shared_k. first_closed n k m (omega arith) (omega arith) there_k under_k shared_k) (closed.before_first i within there) j less shared

  second_closed : (i j : ℕ) → i < length es → second i ≡ true → j < i → share_node es i j ≡ true → first j ≡ true
  second_closed i j within there less shared =
      earlier_from_predecessors es (λ k. first k ≡ true) i (λ k m before under_k there_k shared_k. first_closed (k + 1) k m (omega arith) (omega arith) there_k under_k shared_k) (closed.before_second i within there) j less shared

  abbrev Built : ℕ → ℕ → List Event → Type 0
  Built = IsBuilt es first second

  built_none : Built 0 0 []
  built_none = record { lawful = lawful_none es; started = λ j. sym (or_from (below first 0 j) (below second 0 j) (below_none first j) (below_none second j)); finished = λ j. sym (below_none first j) }

  first_alone : (a j : ℕ) → (below first a j || below second 0 j) ≡ below first a j
  first_alone a j = ap (λ b. below first a j || b) (below_none second j) ∙ or_none (below first a j)

  module _ (a : ℕ) (events : List Event) (within : a < length es) where
    carried_with : first a ≡ true → Built a 0 events → Built (a + 1) 0 ((events ++ Start a ∷ []) ++ Finish a ∷ [])
    carried_with there so_far = record {
      lawful = lawful_push es (events ++ Start a ∷ []) (Finish a) (lawful_push es events (Start a) so_far.lawful may) running;
      started = λ j.
          started-finish (events ++ Start a ∷ []) j a
          ∙ started-start events j a
          ∙ ap (λ b. b || (j == a)) (so_far.started j ∙ first_alone a j)
          ∙ below_with first a j there
          ∙ sym (first_alone (a + 1) j);
      finished = λ j. finished-finish (events ++ Start a ∷ []) j a ∙ ap (λ b. b || (j == a)) (finished-start events j a ∙ so_far.finished j) ∙ below_with first a j there;
    }
      where
        none_here : below first a a ≡ false
        none_here = and_left (nat_lt a a) (first a) (le-ltb a a (omega arith))

        may : MayStart es events a
        may = record {
          within = within;
          waiting = so_far.started a ∙ first_alone a a ∙ none_here;
          free = λ j less shared. so_far.finished j ∙ and_from (nat_lt j a) (first j) (lt-ltb j a less) (first_closed (a + 1) a j (omega arith) within there less shared);
        }

        running : is_running (events ++ Start a ∷ []) a ≡ true
        running = and_from (is_started (events ++ Start a ∷ []) a) (not (is_finished (events ++ Start a ∷ []) a))
            (started-start events a a ∙ or_right (is_started events a) (a == a) (eq-eqb a a refl))
            (not_from_false (is_finished (events ++ Start a ∷ []) a) (finished-start events a a ∙ so_far.finished a ∙ none_here))

    carried_without : first a ≡ false → Built a 0 events → Built (a + 1) 0 events
    carried_without none so_far = record {
      lawful = so_far.lawful;
      started = λ j. so_far.started j ∙ ap (λ b. b || below second 0 j) (below_without first a j none);
      finished = λ j. so_far.finished j ∙ below_without first a j none;
    }

    begun_with : second a ≡ true → Built (length es) a events → Built (length es) (a + 1) (events ++ Start a ∷ [])
    begun_with there so_far = record {
      lawful = lawful_push es events (Start a) so_far.lawful may;
      started = λ j.
          started-start events j a
          ∙ ap (λ b. b || (j == a)) (so_far.started j)
          ∙ or_assoc (below first (length es) j) (below second a j) (j == a)
          ∙ ap (λ b. below first (length es) j || b) (below_with second a j there);
      finished = λ j. finished-start events j a ∙ so_far.finished j;
    }
      where
        not_first : (b : Bool) → first a ≡ b → below first (length es) a ≡ false
        not_first true is = absurd (false≢true (sym (closed.disjoint a is) ∙ there))
        not_first false is = and_right (nat_lt a (length es)) (first a) is

        may : MayStart es events a
        may = record {
          within = within;
          waiting = so_far.started a ∙ or_from (below first (length es) a) (below second a a) (not_first (first a) refl) (and_left (nat_lt a a) (second a) (le-ltb a a (omega arith)));
          free = λ j less shared. so_far.finished j ∙ and_from (nat_lt j (length es)) (first j) (lt-ltb j (length es) (omega arith)) (second_closed a j within there less shared);
        }

    begun_without : second a ≡ false → Built (length es) a events → Built (length es) (a + 1) events
    begun_without none so_far = record {
      lawful = so_far.lawful;
      started = λ j. so_far.started j ∙ ap (λ b. below first (length es) j || b) (below_without second a j none);
      finished = so_far.finished;
    }

  carried_all : (n a : ℕ) (events : List Event) → a + n ≡ length es → Built a 0 events → Built (length es) 0 (events ++ flat_map carried_out (filter first (range_with_len a n)))
  carried_all zero a events end so_far = let here : a ≡ length es = omega arith in subst (Built (length es) 0) (sym (append-nil events)) (subst (λ m. Built m 0 events) here so_far)
  carried_all (suc n) a events end so_far = elim (first a) as (λ b. first a ≡ b → Built (length es) 0 (events ++ flat_map carried_out (if b then a ∷ filter first (range_with_len (a + 1) n) else filter first (range_with_len (a + 1) n)))) [
    | true ↦ λ there. subst (Built (length es) 0)
        (append_assoc (events ++ Start a ∷ []) (Finish a ∷ []) (flat_map carried_out (filter first (range_with_len (a + 1) n)))
        ∙ append_assoc events (Start a ∷ []) (Finish a ∷ flat_map carried_out (filter first (range_with_len (a + 1) n))))
        (carried_all n (a + 1) ((events ++ Start a ∷ []) ++ Finish a ∷ []) (omega arith) (carried_with a events (omega arith) there so_far))
    | false ↦ λ none. carried_all n (a + 1) events (omega arith) (carried_without a events (omega arith) none so_far)
  ] refl

  begun_all : (n a : ℕ) (events : List Event) → a + n ≡ length es → Built (length es) a events → Built (length es) (length es) (events ++ map Start (filter second (range_with_len a n)))
  begun_all zero a events end so_far = let here : a ≡ length es = omega arith in subst (Built (length es) (length es)) (sym (append-nil events)) (subst (λ m. Built (length es) m events) here so_far)
  begun_all (suc n) a events end so_far = elim (second a) as (λ b. second a ≡ b → Built (length es) (length es) (events ++ map Start (if b then a ∷ filter second (range_with_len (a + 1) n) else filter second (range_with_len (a + 1) n)))) [
    | true ↦ λ there. subst (Built (length es) (length es)) (append_assoc events (Start a ∷ []) (map Start (filter second (range_with_len (a + 1) n))))
        (begun_all n (a + 1) (events ++ Start a ∷ []) (omega arith) (begun_with a events (omega arith) there so_far))
    | false ↦ λ none. begun_all n (a + 1) events (omega arith) (begun_without a events (omega arith) none so_far)
  ] refl

  pub schedule_from : Built (length es) (length es) (schedule_of es first second)
  schedule_from = begun_all (length es) 0 (flat_map carried_out (filter first (range_with_len 0 (length es)))) (omega arith) (carried_all (length es) 0 [] (omega arith) built_none)
