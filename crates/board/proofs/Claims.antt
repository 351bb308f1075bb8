-- A claim and the moves of tables keep the rule.
-- Serves `Finishing`, `Moving` and `Steps`.
use Rattle.board.proofs.Common.{◌≡◌, ◌≢◌, ℕ, ◌+◌, ◌<◌, true, false, eqb, List, [], ◌∷◌, length, get_or, set, Some, inl, inr, refl, sym, ap, ◌∙◌, subst, arith, length-set, get_or-set_same, get_or-set_other, cases_eq, some, none, dite, ℕ_discrete, get_elem?, set-get_or, either, State, step, Act, keeps, takes, chain, Valid, carried_after, stepped, Allows, set_here, set_else, takes_part, initiator_part, responder_part, not_initiator, not_responder, part_cases}
use Rattle.atomic_table.proofs.Lists.{exchanged}
use Rattle.board.specs.Weights.{only}
use Rattle.board.specs.SeatView.{SeatView, with_told}
use Rattle.board.specs.Plan.{BoardPlan, table_at, initiator_of, responder_of}
use Rattle.board.specs.Rule.{Slot, Home, TAKEN, exchange_word, made_in, held_in, running_in, freed_in, owed_to, finished_in, Orderly}
use Rattle.board.specs.Seats.{Sat, view, resting}
use Rattle.board.specs.inner.Plays.{ClaimTells, TookOut, slots_of, claimed}
use Rattle.board.specs.declared.views.View.{View}
use Rattle.board.proofs.Sums.{total-append, only-other, term_le}
use Rattle.board.proofs.Parts.{order_claimed, words_claimed, freed_kept, tables_claimed}
use Rattle.board.proofs.Keeps.{steps_aside, made-set, held-set, moving-set, freed-set, told-set, known-set, from-set, to-set, finished-set, sound_set, seats_set}
use Rattle.board.proofs.Telling.{planned_at, was_claimed, fresh, ready, earlier_made, table_there, claim_tells}

abbrev pub St : Type 0
St = State Slot View

abbrev pub Goes : BoardPlan → St → ℕ → ℕ → Sat → (ℕ → Sat → Type 0) → ℕ → Type 0
Goes plan s i id m then k = (w : View) × (a : Act Slot) × Valid s.homes m.1 a × Orderly plan (stepped s i k id m.1 w a) × then (get_or s.words i 0) (w, carried_after m.1 a)

-- a list changed at the places of an exchange's two nodes
pub ends_else : (plan : BoardPlan) (i node : ℕ) (homes : List Home) (x y : Home) → takes_part plan.list.exchanges node i ≡ false → get_elem? (set (set homes (initiator_of plan i) x) (responder_of plan i) y) node ≡ get_elem? homes node
ends_else plan i node homes x y out =
    set_else (set homes (initiator_of plan i) x) (responder_of plan i) node y (not_responder plan.list.exchanges node i out)
    ∙ set_else homes (initiator_of plan i) node x (not_initiator plan.list.exchanges node i out)

pub ends_here : (P : ℕ → Home → Type 0) (plan : BoardPlan) (i : ℕ) (homes : List Home) (x y : Home) → (initiator_of plan i ≢ responder_of plan i) → initiator_of plan i < length homes → responder_of plan i < length homes
    → P (initiator_of plan i) x → P (responder_of plan i) y → (node : ℕ) → takes_part plan.list.exchanges node i ≡ true → (z : Home) × (get_elem? (set (set homes (initiator_of plan i) x) (responder_of plan i) y) node ≡ some z) × P node z
ends_here P plan i homes x y apart in_p in_q of_x of_y node part =
    let p : ℕ = initiator_of plan i in
    let q : ℕ = responder_of plan i in
    elim (part_cases plan.list.exchanges node i part) [
      | inl first ↦ (x, ap (get_elem? (set (set homes p x) q y)) (sym first) ∙ set_else (set homes p x) q p y apart ∙ set_here homes p x in_p, subst (λ n. P n x) first of_x)
      | inr second ↦ (y, ap (get_elem? (set (set homes p x) q y)) (sym second) ∙ set_here (set homes p x) q y (omega (arith, in_q, length-set homes p x)), subst (λ n. P n y) second of_y)
    ]

-- what a claim tells of the exchange i, where it found r
abbrev Tells : BoardPlan → SeatView → ℕ → Sat → ℕ → Type 0
Tells plan v r after i =
    ClaimTells plan.list.exchanges i v r
    × (r ≡ 0 → TookOut (resting plan v, []) i after)
    × (r ≡ TAKEN → after ≡ (resting plan (with_told v i), []))
    × (r ≢ 0 → r ≢ TAKEN → after ≡ (resting plan v, []))

told_of : (plan : BoardPlan) (v : SeatView) (i r : ℕ) (st : Rattle.atomic_table.specs.Table.Step Slot) (after : Sat) → st.word ≡ i + 1 → Tells plan v r after i → claimed st (resting plan v, []) r after
told_of plan v i r st after word tells j e = let same : i ≡ j = omega (arith, word, e) in subst (Tells plan v r after) same tells

module _ (plan : BoardPlan) (id : ℕ) (v : SeatView) (some_parts : 0 < v.parts) (s : St) (o : Orderly plan s) (me : get_elem? s.views id ≡ some (resting plan v)) (i : ℕ) (in_list : i < length plan.list.exchanges) where
  module _ (is : exchange_word s.words i ≡ 0) where
    abbrev w : View
    w = view plan v (i ∷ []) []

    abbrev p : ℕ
    p = initiator_of plan i

    abbrev q : ℕ
    q = responder_of plan i

    abbrev after : List View
    after = set s.views id w

    made_same : (j : ℕ) → made_in after j ≡ made_in s.views j
    made_same j = omega (arith, made-set s.views id (resting plan v) w me j)

    held_same : (j : ℕ) → held_in after j ≡ held_in s.views j
    held_same j = omega (arith, held-set s.views id (resting plan v) w me j)

    more_running : (j : ℕ) → running_in after j ≡ running_in s.views j + only j i
    more_running j = omega (arith, held_same j, moving-set s.views id (resting plan v) w me j)

    runs_more : (j : ℕ) → running_in after j ≡ running_in s.views j + only i j
    runs_more j = omega (arith, more_running j, Rattle.board.proofs.Sums.only-swap i j)

    owed_same : (j : ℕ) → owed_to after j ≡ owed_to s.views j
    owed_same j = omega (arith, to-set s.views id (resting plan v) w me j)

    finished_same : finished_in after ≡ finished_in s.views
    finished_same = omega (arith, finished-set s.views id (resting plan v) w me)

    size : i + 1 < length s.words
    size = omega (arith, o.words.size, in_list)

    abbrev words' : List ℕ
    words' = set s.words (i + 1) TAKEN

    word_other : (j : ℕ) → j ≢ i → exchange_word words' j ≡ exchange_word s.words j
    word_other j other = get_or-set_other s.words (i + 1) (j + 1) TAKEN 0 (λ e. other (omega (arith, e)))

    word_here : exchange_word words' i ≡ TAKEN
    word_here = get_or-set_same s.words (i + 1) TAKEN 0 size

    won : (homes : List Home) → length homes ≡ length s.homes → ((node : ℕ) → takes_part plan.list.exchanges node i ≡ false → get_elem? homes node ≡ get_elem? s.homes node) → Orderly plan record { words = words'; homes = homes; views = after }
    won homes long others = record {
      planned = o.planned;
      in_order = order_claimed plan.list.exchanges (made_in s.views) (running_in s.views) (made_in after) (running_in after) o.in_order i made_same runs_more in_list (fresh plan s o i in_list is) (earlier_made plan s o i in_list is);
      words = words_claimed plan.list.exchanges (made_in s.views) (running_in s.views) (made_in after) (running_in after) o.in_order (owed_to s.views) (owed_to after) s.words words' o.words i
          (length-set s.words (i + 1) TAKEN) word_other word_here made_same runs_more owed_same (ready plan s o i in_list is).1;
      freed = freed_kept plan.list.exchanges (freed_in s.views) (freed_in after) s.words words' o.freed (λ j. omega (arith, freed-set s.views id (resting plan v) w me j)) (λ j. elim (cases_eq j i) [
        | inl here ↦ inr (ap (exchange_word s.words) here ∙ is, ap (exchange_word words') here ∙ word_here)
        | inr other ↦ inl (word_other j other)
      ]);
      tables = tables_claimed plan (made_in s.views) (running_in s.views) (held_in s.views) (made_in after) (running_in after) (held_in after) s.homes homes o.in_order o.tables (λ j. omega arith) i long others made_same runs_more held_same (fresh plan s o i in_list is) (earlier_made plan s o i in_list is);
      stop = o.stop;
      stop_bit = o.stop_bit;
      count = omega (arith, get_or-set_other s.words (i + 1) 0 TAKEN 0 (λ e. omega (arith, e)), o.count, finished_same);
      sound = sound_set s.views id (resting plan v) w me o.stop o.sound
          (λ j some_told. omega (arith, o.sound.told j (omega (arith, told-set s.views id (resting plan v) w me j, some_told)), made_same j, runs_more j))
          (λ j some_known. let was = o.sound.known j (omega (arith, known-set s.views id (resting plan v) w me j, some_known)) in (made_same j ∙ was.0, omega (arith, from-set s.views id (resting plan v) w me j, was.1)))
          (omega (arith, finished_same, o.sound.seen id (resting plan v) me)) (omega (arith, finished_same))
          (λ knows. o.sound.stopped (omega (arith, Rattle.board.proofs.Keeps.flag_yes v.is_stopped knows, term_le (λ u. Rattle.board.specs.Weights.flag u.seat.is_stopped) s.views id (resting plan v) me)))
          refl;
      seats = seats_set s.views id (resting plan v) w me plan.list.exchanges o.seats refl some_parts (λ j k owed. absurd (omega arith));
    }

    pub goes_won : (n : ℕ) (said : mathlib.Core.Option.Option Slot) → Goes plan s (i + 1) id (resting plan v, []) (claimed (step n (i + 1) 0 TAKEN said) (resting plan v, [])) TAKEN
    goes_won n said =
        let planned = planned_at plan o.planned i in_list in
        let a = table_there plan s o i in_list is p planned.initiator (initiator_part plan.list.exchanges i) in
        let b = table_there plan s o i in_list is q planned.responder (responder_part plan.list.exchanges i) in (
          w,
          chain (takes p (Some (table_at plan p i))) (takes q (Some (table_at plan q i))),
          (a, set_else s.homes p q none (λ e. planned.apart (sym e)) ∙ b),
          won (set (set s.homes p none) q none) (length-set (set s.homes p none) q none ∙ length-set s.homes p none) (λ node out. ends_else plan i node s.homes none none out),
          told_of plan v i (get_or s.words (i + 1) 0) (step n (i + 1) 0 TAKEN said) (w, slots_of plan i) refl (
            claim_tells plan s o id (resting plan v) me refl refl i in_list,
            (λ _. refl),
            (λ taken. absurd (omega (arith, taken, is))),
            (λ not_ready. absurd (not_ready is)),
          ),
        )

  goes_taken : (n : ℕ) (said : mathlib.Core.Option.Option Slot) → exchange_word s.words i ≡ TAKEN → Goes plan s (i + 1) id (resting plan v, []) (claimed (step n (i + 1) 0 TAKEN said) (resting plan v, [])) (get_or s.words (i + 1) 0)
  goes_taken n said is = (
    resting plan (with_told v i),
    keeps,
    tt,
    steps_aside plan s o id (resting plan v) (resting plan (with_told v i)) me (record { made = refl; held = refl; freed = refl; known = refl; halted = refl; parts = refl; moving = refl; owes = refl }) (set s.words (i + 1) (get_or s.words (i + 1) 0)) s.homes (set-get_or s.words (i + 1) 0) refl some_parts
        (λ j now. elim (cases_eq i j) [
          | inl here ↦ inr (subst (λ k. 0 < made_in s.views k + running_in s.views k) here (was_claimed plan s o i in_list is))
          | inr other ↦ inl (omega (arith, now, total-append (only j) v.told (i ∷ []), only-other j i other))
        ])
        (o.sound.seen id (resting plan v) me)
        (λ knows. o.sound.stopped (omega (arith, Rattle.board.proofs.Keeps.flag_yes v.is_stopped knows, term_le (λ u. Rattle.board.specs.Weights.flag u.seat.is_stopped) s.views id (resting plan v) me))),
    told_of plan v i (get_or s.words (i + 1) 0) (step n (i + 1) 0 TAKEN said) (resting plan (with_told v i), []) refl (
      claim_tells plan s o id (resting plan v) me refl refl i in_list,
      (λ none_left. absurd (omega (arith, none_left, is))),
      (λ _. refl),
      (λ _ not_taken. absurd (not_taken is)),
    ),
  )

  goes_waits : (n : ℕ) (said : mathlib.Core.Option.Option Slot) → exchange_word s.words i ≢ 0 → exchange_word s.words i ≢ TAKEN → Goes plan s (i + 1) id (resting plan v, []) (claimed (step n (i + 1) 0 TAKEN said) (resting plan v, [])) (get_or s.words (i + 1) 0)
  goes_waits n said not_ready not_taken = (
    resting plan v,
    keeps,
    tt,
    steps_aside plan s o id (resting plan v) (resting plan v) me (record { made = refl; held = refl; freed = refl; known = refl; halted = refl; parts = refl; moving = refl; owes = refl }) (set s.words (i + 1) (get_or s.words (i + 1) 0)) s.homes (set-get_or s.words (i + 1) 0) refl some_parts
        (λ j now. inl now)
        (o.sound.seen id (resting plan v) me)
        (λ knows. o.sound.stopped (omega (arith, Rattle.board.proofs.Keeps.flag_yes v.is_stopped knows, term_le (λ u. Rattle.board.specs.Weights.flag u.seat.is_stopped) s.views id (resting plan v) me))),
    told_of plan v i (get_or s.words (i + 1) 0) (step n (i + 1) 0 TAKEN said) (resting plan v, []) refl (
      claim_tells plan s o id (resting plan v) me refl refl i in_list,
      (λ is. absurd (not_ready is)),
      (λ is. absurd (not_taken is)),
      (λ _ _. refl),
    ),
  )

  goes_claim : (n : ℕ) (said : mathlib.Core.Option.Option Slot) → Goes plan s (i + 1) id (resting plan v, []) (claimed (step n (i + 1) 0 TAKEN said) (resting plan v, [])) (either (eqb (get_or s.words (i + 1) 0) 0) TAKEN (get_or s.words (i + 1) 0))
  goes_claim n said =
      exchanged (get_or s.words (i + 1) 0) 0 TAKEN (Goes plan s (i + 1) id (resting plan v, []) (claimed (step n (i + 1) 0 TAKEN said) (resting plan v, [])))
      (λ is. goes_won is n said)
      (λ not_ready. dite (ℕ_discrete (get_or s.words (i + 1) 0) TAKEN) (λ is. goes_taken n said is) (λ not_taken. goes_waits n said not_ready not_taken))

pub claims : (plan : BoardPlan) (n id : ℕ) (m : Sat) (v : SeatView) (word i : ℕ) (said : mathlib.Core.Option.Option Slot) → word ≡ i + 1 → i < length plan.list.exchanges → 0 < v.parts → m ≡ (resting plan v, [])
    → Allows (Orderly plan) n id m word (λ r. either (eqb r 0) TAKEN r) (claimed (step n word 0 TAKEN said) m)
claims plan n id m v word i said at in_list some_parts e = subst (λ (x : Sat). Allows (Orderly plan) n id x word (λ r. either (eqb r 0) TAKEN r) (claimed (step n word 0 TAKEN said) x)) (sym e)
    (subst (λ k. Allows (Orderly plan) n id (resting plan v, []) k (λ r. either (eqb r 0) TAKEN r) (claimed (step n k 0 TAKEN said) (resting plan v, []))) (sym at)
    (λ s o wide me _. goes_claim plan id v some_parts s o me i in_list n said))
