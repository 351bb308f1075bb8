-- A finish, a release, a look and a stop keep the rule.
-- Serves `Steps`.
use Rattle.board.proofs.Common.{◌≡◌, ◌≢◌, ℕ, ◌+◌, ◌-◌, ◌*◌, ◌/◌, ◌%◌, ◌<◌, ◌≤◌, Bool, true, ◌==◌, ◌^◌, if◌then◌else◌, List, [], ◌∷◌, ◌++◌, length, map, drop, eq-zero-or-pos, ◌↔◌, All, get_or, set, Some, inl, inr, refl, sym, ap, ◌∙◌, subst, arith, length-set, get_or-set_same, get_or-set_other, cases_eq, cases_lt, eq-eqb, ne_eqb, eqb-true, some, none, dite, ℕ_discrete, get_elem?, set-get_or, bit_or, or_shifted, or_add_and, and_mask, step, keeps, gives, chain, Allows, at_set, Table, takes_part, predecessors, pending_of, initiator_left, responder_left}
use Rattle.board.specs.Weights.{total, only, times, flag}
use Rattle.board.specs.SeatView.{SeatView, IsWhole, with_made, having_seen, having_stopped}
use Rattle.board.specs.inner.Plays.{with_freed}
use Rattle.board.specs.Plan.{BoardPlan, table_at, initiator_of, responder_of, exchanged_at}
use Rattle.board.specs.inner.Plays.{successor_list}
use Rattle.board.specs.Rule.{Home, exchange_word, made_in, held_in, running_in, freed_in, owed_to, from_only, to_only, finished_in, HasTable, Orderly}
use Rattle.board.specs.Seats.{Sat, view, resting}
use Rattle.board.specs.inner.Plays.{releases_by, is_odd, finished, released, looked, halted, shown}
use Rattle.board.specs.declared.views.View.{View}
use Rattle.board.proofs.Sums.{total_most, full_each, each_full, all_times, times_all, total-append, only-same, only-other, only-swap, term_le}
use Rattle.board.proofs.Releases.{releases_meet, successor_within}
use Rattle.board.proofs.Parts.{order_kept, words_kept, freed_kept, tables_finished, tables_kept, words_finished, words_released, freed_waits, freed_last}
use Rattle.board.proofs.Keeps.{calls-set, flag_yes, steps_aside, made-set, held-set, moving-set, freed-set, told-set, known-set, from-set, to-set, finished-set, sound_set, seats_set}
use Rattle.board.proofs.Moving.{runs, unfinished, in_list, none_held}
use Rattle.board.proofs.Claims.{St, Goes, ends_else, ends_here}
use Rattle.board.proofs.Telling.{planned_at, was_claimed, look_tells, is_apart, finished_upto, pending_most, whole_owed, whole_made, is_informed, looks_informed}

-- the releases that one exchange owes
releases-to : (i j : ℕ) (xs : List ℕ) → total (to_only j) (releases_by i xs) ≡ times j xs
releases-to i j [] = refl
releases-to i j (x ∷ xs) = omega (arith, releases-to i j xs)

releases-other : (i j : ℕ) (xs : List ℕ) → j ≢ i → total (from_only j) (releases_by i xs) ≡ 0
releases-other i j [] other = refl
releases-other i j (x ∷ xs) other = omega (arith, only-other j i (λ e. other (sym e)), releases-other i j xs other)

releases-none : (i j k : ℕ) (xs : List ℕ) → j ≢ i → total (λ release. from_only j release * to_only k release) (releases_by i xs) ≡ 0
releases-none i j k [] other = refl
releases-none i j k (x ∷ xs) other =
    let term : only j i * only k x ≡ 0 * only k x = λ t. only-other j i (λ e. other (sym e)) t * only k x in
    omega (arith, term, releases-none i j k xs other)

releases-both : (i k : ℕ) (xs : List ℕ) → total (λ release. from_only i release * to_only k release) (releases_by i xs) ≡ times k xs
releases-both i k [] = refl
releases-both i k (x ∷ xs) =
    let term : only i i * only k x ≡ 1 * only k x = λ t. only-same i t * only k x in
    omega (arith, term, releases-both i k xs)

module _ (plan : BoardPlan) (id : ℕ) (v : SeatView) (some_parts : 0 < v.parts) (s : St) (o : Orderly plan s) where
  abbrev es : List Rattle.bench_types.specs.declared.exchanges.Exchange.Exchange
  es = plan.list.exchanges

  abbrev r : ℕ
  r = get_or s.words 0 0

  half : r / 2 ≡ finished_in s.views
  half = omega (arith, o.count, o.stop_bit)

  odd : r % 2 ≡ o.stop
  odd = omega (arith, o.count, o.stop_bit)

  small : r < 8194
  small = let few : length es ≤ 4096 = o.planned.list.size in omega (arith, o.count, o.stop_bit, finished_upto plan s o, few)

  odd_stop : is_odd r ≡ true → o.stop ≡ 1
  odd_stop is = sym odd ∙ eqb-true (r % 2) 1 is

  -- a finish
  module _ (i : ℕ) (a b : Table) (me : get_elem? s.views id ≡ some (view plan v (i ∷ []) [])) (first : a ≡ (exchanged_at plan i).initiator) (second : b ≡ (exchanged_at plan i).responder) where
    abbrev old : View
    old = view plan v (i ∷ []) []

    abbrev w : View
    w = view plan (with_made v i (r / 2) (is_odd r)) [] (releases_by i (successor_list es i))

    abbrev after : List View
    after = set s.views id w

    within : i < length es
    within = in_list plan id v some_parts s o i [] me

    not_made : made_in s.views i ≡ 0
    not_made = unfinished plan id v some_parts s o i [] me

    made_more : (j : ℕ) → made_in after j ≡ made_in s.views j + only i j
    made_more j = omega (arith, made-set s.views id old w me j, total-append (only j) v.made (i ∷ []), only-swap i j)

    sum_same : (j : ℕ) → made_in after j + running_in after j ≡ made_in s.views j + running_in s.views j
    sum_same j = omega (arith, made_more j, held-set s.views id old w me j, moving-set s.views id old w me j, only-swap i j)

    held_same : (j : ℕ) → held_in after j ≡ held_in s.views j
    held_same j = omega (arith, held-set s.views id old w me j)

    finished_more : finished_in after ≡ finished_in s.views + 1
    finished_more = omega (arith, finished-set s.views id old w me, Rattle.std.proofs.lemmas.List.length-append v.made (i ∷ []))

    owed_more : (j : ℕ) → owed_to after j ≡ owed_to s.views j + times j (successor_list es i)
    owed_more j = omega (arith, to-set s.views id old w me j, releases-to i j (successor_list es i))

    abbrev p : ℕ
    p = initiator_of plan i

    abbrev q : ℕ
    q = responder_of plan i

    abbrev homes' : List Home
    homes' = set (set s.homes p (some (Some a))) q (some (Some b))

    filled : (node : ℕ) → takes_part es node i ≡ true → HasTable homes' node (table_at plan node (i + 1))
    filled node part =
        let planned = planned_at plan o.planned i within in
        let among = subst (λ n. All (Rattle.bench_types.specs.calls.Exchange.IsPlanned n) es) (sym o.planned.tables) o.planned.list.planned in
        let there = ends_here (λ n x. x ≡ some (Some (table_at plan n (i + 1)))) plan i s.homes (some (Some a)) (some (Some b)) planned.apart
        (omega (arith, o.tables.size, planned.initiator)) (omega (arith, o.tables.size, planned.responder))
        (ap (λ (t : Table). some (Some t)) (first ∙ sym (initiator_left plan.rules plan.tables es among i within)))
        (ap (λ (t : Table). some (Some t)) (second ∙ sym (responder_left plan.rules plan.tables es among i within))) node part in
        there.1 ∙ ap some there.2

    new : Orderly plan record { words = set s.words 0 ((r + 2) % 2 ^ 64); homes = homes'; views = after }
    new = record {
      planned = o.planned;
      in_order = order_kept es (made_in s.views) (running_in s.views) (made_in after) (running_in after) o.in_order (λ j. omega (arith, made_more j)) sum_same;
      words = words_finished es (made_in s.views) (running_in s.views) (made_in after) (running_in after) o.in_order (owed_to s.views) (owed_to after) s.words (set s.words 0 ((r + 2) % 2 ^ 64)) o.words i
          (length-set s.words 0 ((r + 2) % 2 ^ 64)) (λ j. get_or-set_other s.words 0 (j + 1) ((r + 2) % 2 ^ 64) 0 (λ e. omega (arith, e))) made_more sum_same owed_more (runs plan id v some_parts s o i [] me) within;
      freed = freed_kept es (freed_in s.views) (freed_in after) s.words (set s.words 0 ((r + 2) % 2 ^ 64)) o.freed (λ j. omega (arith, freed-set s.views id old w me j)) (λ j. inl (get_or-set_other s.words 0 (j + 1) ((r + 2) % 2 ^ 64) 0 (λ e. omega (arith, e))));
      tables = tables_finished plan (made_in s.views) (running_in s.views) (held_in s.views) (made_in after) (running_in after) (held_in after) s.homes homes' o.in_order o.tables (λ j. omega arith) i
          (length-set (set s.homes p (some (Some a))) q (some (Some b)) ∙ length-set s.homes p (some (Some a))) (λ node out. ends_else plan i node s.homes (some (Some a)) (some (Some b)) out)
          not_made (runs plan id v some_parts s o i [] me) made_more sum_same held_same (none_held plan id v some_parts s o i [] me) filled;
      stop = o.stop;
      stop_bit = o.stop_bit;
      count = omega (arith, get_or-set_same s.words 0 ((r + 2) % 2 ^ 64) 0 (omega (arith, o.words.size)), small, o.count, finished_more);
      sound = sound_set s.views id old w me o.stop o.sound
          (λ j some_told. omega (arith, o.sound.told j (omega (arith, told-set s.views id old w me j, some_told)), sum_same j))
          (λ j some_known.
          let was = o.sound.known j (omega (arith, known-set s.views id old w me j, some_known)) in
          let other : j ≢ i = λ e. omega (arith, ap (made_in s.views) e, not_made, was.0) in
          (omega (arith, made_more j, was.0, only-other i j other), omega (arith, from-set s.views id old w me j, was.1, releases-other i j (successor_list es i) other)))
          (omega (arith, half, finished_more)) (omega (arith, finished_more)) odd_stop refl;
      seats = seats_set s.views id old w me es o.seats refl some_parts (λ j k some_owed. elim (cases_eq j i) [
        | inr other ↦ absurd (omega (arith, some_owed, releases-none i j k (successor_list es i) other))
        | inl here ↦
            let follows : 0 < times k (successor_list es i) = omega (arith, sym (releases-both i k (successor_list es i)), subst (λ n. 0 < total (λ release. from_only n release * to_only k release) (releases_by i (successor_list es i))) here some_owed) in (
              omega (arith, ap (λ n. times n (v.made ++ i ∷ [])) here, total-append (only i) v.made (i ∷ []), only-same i),
              omega (arith, ap (λ n. times n (predecessors es k)) here, releases_meet es i k (successor_within es i k follows within), follows),
            )
      ]);
    }

    goes_finished : (n : ℕ) → Goes plan s 0 id (old, (p, Some a) ∷ (q, Some b) ∷ []) (finished (step n 0 2 0 none) (old, (p, Some a) ∷ (q, Some b) ∷ [])) ((r + 2) % 2 ^ 64)
    goes_finished n = (
      w,
      chain gives gives,
      (tt, tt),
      new,
      λ j same.
          let here : i ≡ j = ap (λ (xs : List ℕ). get_or xs 0 0) same in (
            ap (λ k. (view plan (with_made v k (r / 2) (is_odd r)) [] (releases_by k (successor_list es k)), [])) here,
            omega (arith, half, o.sound.seen id old me),
            (λ knows. eq-eqb (r % 2) 1 (odd ∙ o.sound.stopped (omega (arith, flag_yes v.is_stopped knows, term_le (λ u. flag u.seat.is_stopped) s.views id old me)))),
            omega (arith, half, finished_more, finished_upto plan record { words = set s.words 0 ((r + 2) % 2 ^ 64); homes = homes'; views = after } new),
          ),
    )

pub finishes : (plan : BoardPlan) (n id : ℕ) (m : Sat) (v : SeatView) (i : ℕ) (a b : Table) → 0 < v.parts
    → a ≡ (exchanged_at plan i).initiator → b ≡ (exchanged_at plan i).responder → m ≡ (view plan v (i ∷ []) [], (initiator_of plan i, Some a) ∷ (responder_of plan i, Some b) ∷ [])
    → Allows (Orderly plan) n id m 0 (λ x. (x + 2) % 2 ^ 64) (finished (step n 0 2 0 none) m)
finishes plan n id m v i a b some_parts first second e = subst (λ (x : Sat). Allows (Orderly plan) n id x 0 (λ y. (y + 2) % 2 ^ 64) (finished (step n 0 2 0 none) x)) (sym e)
    (λ s o wide me _. goes_finished plan id v some_parts s o i a b me first second n)

set_last : (a : ℕ) → bit_or a 1 ≡ a / 2 * 2 + 1
set_last a = elim (eq-zero-or-pos (a % 2)) [
  | inl even ↦ let e : a ≡ a / 2 * 2 ^ 1 = omega arith in ap (λ (k : ℕ). bit_or k 1) e ∙ or_shifted (a / 2) 1 1 (omega arith)
  | inr one ↦ omega (arith, or_add_and a 1, and_mask a 1)
]

module _ (plan : BoardPlan) (id : ℕ) (v : SeatView) (some_parts : 0 < v.parts) (s : St) (o : Orderly plan s) where
  -- a release
  module _ (i j : ℕ) (more : List (ℕ × ℕ)) (me : get_elem? s.views id ≡ some (view plan v [] ((i, j) ∷ more))) (within : j < length plan.list.exchanges) where
    abbrev owing : View
    owing = view plan v [] ((i, j) ∷ more)

    abbrev found : ℕ
    found = exchange_word s.words j

    abbrev word : ℕ
    word = (found + (2 ^ 64 - 1)) % 2 ^ 64

    abbrev words' : List ℕ
    words' = set s.words (j + 1) word

    owed : 0 < owed_to s.views j
    owed = omega (arith, term_le (λ u. total (to_only j) u.owes) s.views id owing me, only-same j)

    waiting : made_in s.views j + running_in s.views j ≡ 0
    waiting = elim (cases_lt 0 (made_in s.views j + running_in s.views j)) [
      | inl was_claimed ↦ absurd (omega (arith, (o.words.taken j was_claimed).1, owed))
      | inr nothing ↦ omega (arith, nothing)
    ]

    bound : found ≤ pending_of plan.list.exchanges j
    bound = o.words.bounded j within waiting

    made_most : (k : ℕ) → made_in s.views k ≤ 1
    made_most k = omega (arith, o.in_order.once k)

    some_left : 0 < found
    some_left = omega (arith, o.words.waits j within waiting, total_most (made_in s.views) (predecessors plan.list.exchanges j) made_most, owed)

    one_less : word + 1 ≡ found
    one_less = omega (arith, some_left, bound, pending_most plan.list.exchanges j)

    word_other : (k : ℕ) → k ≢ j → exchange_word words' k ≡ exchange_word s.words k
    word_other k other = get_or-set_other s.words (j + 1) (k + 1) word 0 (λ e. other (omega (arith, e)))

    word_here : exchange_word words' j ≡ word
    word_here = get_or-set_same s.words (j + 1) word 0 (omega (arith, o.words.size, within))

    module _ (seat : SeatView) (made : seat.made ≡ v.made) (held : seat.held ≡ v.held) (told : seat.told ≡ v.told) (known : seat.known ≡ v.known) (seen : seat.seen ≡ v.seen) (stopped : seat.is_stopped ≡ v.is_stopped) (halted_same : seat.is_halted ≡ v.is_halted) (parts : seat.parts ≡ v.parts)
        (names : Rattle.board.specs.Rule.NamesFreed plan.list.exchanges (freed_in (set s.views id (view plan seat [] more))) words') where
      abbrev left_over : View
      left_over = view plan seat [] more

      abbrev then_views : List View
      then_views = set s.views id left_over

      made_now : (k : ℕ) → made_in then_views k ≡ made_in s.views k
      made_now k = omega (arith, made-set s.views id owing left_over me k, ap (times k) made)

      held_now : (k : ℕ) → held_in then_views k ≡ held_in s.views k
      held_now k = omega (arith, held-set s.views id owing left_over me k, ap (times k) held)

      running_now : (k : ℕ) → running_in then_views k ≡ running_in s.views k
      running_now k = omega (arith, held_now k, moving-set s.views id owing left_over me k)

      finished_now : finished_in then_views ≡ finished_in s.views
      finished_now = omega (arith, finished-set s.views id owing left_over me, ap length made)

      releases_keep : Orderly plan record { words = words'; homes = s.homes; views = then_views }
      releases_keep = record {
        planned = o.planned;
        in_order = order_kept plan.list.exchanges (made_in s.views) (running_in s.views) (made_in then_views) (running_in then_views) o.in_order (λ k. omega (arith, made_now k)) (λ k. omega (arith, made_now k, running_now k));
        words = words_released plan.list.exchanges (made_in s.views) (running_in s.views) (made_in then_views) (running_in then_views) o.in_order (owed_to s.views) (owed_to then_views) s.words words' o.words j
            (length-set s.words (j + 1) word) word_other (omega (arith, word_here, one_less)) made_now running_now (λ k. omega (arith, to-set s.views id owing left_over me k, only-swap j k));
        freed = names;
        tables = tables_kept plan (made_in s.views) (running_in s.views) (held_in s.views) (made_in then_views) (running_in then_views) (held_in then_views) s.homes s.homes o.in_order o.tables (λ k. omega arith) made_now running_now held_now refl;
        stop = o.stop;
        stop_bit = o.stop_bit;
        count = omega (arith, get_or-set_other s.words (j + 1) 0 word 0 (λ e. omega (arith, e)), o.count, finished_now);
        sound = sound_set s.views id owing left_over me o.stop o.sound
            (λ k some_told. omega (arith, o.sound.told k (omega (arith, told-set s.views id owing left_over me k, ap (times k) told, some_told)), made_now k, running_now k))
            (λ k some_known. let was = o.sound.known k (omega (arith, known-set s.views id owing left_over me k, ap (times k) known, some_known)) in (made_now k ∙ was.0, omega (arith, from-set s.views id owing left_over me k, was.1)))
            (omega (arith, finished_now, seen, o.sound.seen id owing me)) (omega (arith, finished_now))
            (λ knows. o.sound.stopped (omega (arith, flag_yes v.is_stopped (sym stopped ∙ knows), term_le (λ u. flag u.seat.is_stopped) s.views id owing me)))
            halted_same;
        seats = seats_set s.views id owing left_over me plan.list.exchanges o.seats parts some_parts
            (λ k l some_owed. let was = o.seats.owes id owing me k l (omega (arith, some_owed)) in (omega (arith, was.0, ap (times k) made), was.1));
      }

    -- what a whole seat is told
    tells_whole : IsWhole v → times j (map (λ release. release.1) more) ≡ 0 → (found ≡ 1) ↔ All (λ k. 0 < times k v.made) (predecessors plan.list.exchanges j)
    tells_whole whole none_more = (
      (λ is. let all = full_each (made_in s.views) (predecessors plan.list.exchanges j) made_most (omega (arith, o.words.waits j within waiting, is, owed_once, total_most (made_in s.views) (predecessors plan.list.exchanges j) made_most)) in
          times_all (λ k. 0 < times k v.made) (predecessors plan.list.exchanges j) (λ k there. omega (arith, whole_made plan s o id owing me whole k, all_times (λ l. made_in s.views l ≡ 1) (predecessors plan.list.exchanges j) k all there))),
      (λ all. omega (
        arith,
        o.words.waits j within waiting,
        owed_once,
        each_full (made_in s.views) (predecessors plan.list.exchanges j) (times_all (λ k. made_in s.views k ≡ 1) (predecessors plan.list.exchanges j) (λ k there. omega (
          arith,
          whole_made plan s o id owing me whole k,
          made_most k,
          all_times (λ l. 0 < times l v.made) (predecessors plan.list.exchanges j) k all there,
        ))),
      )),
    )
      where
        to_targets : (rs : List (ℕ × ℕ)) → total (to_only j) rs ≡ times j (map (λ release. release.1) rs)
        to_targets [] = refl
        to_targets (x ∷ xs) = omega (arith, to_targets xs)

        owed_once : owed_to s.views j ≡ 1
        owed_once = omega (arith, whole_owed plan s o id owing me whole j, only-same j, to_targets more, none_more)

    abbrev Told : Sat → ℕ → List (ℕ × ℕ) → Type 0
    Told after k rest =
        (after ≡ (view plan (if found == 1 then with_freed v k else v) [] rest, []))
        × (IsWhole v → times k (map (λ release. release.1) rest) ≡ 0 → (found ≡ 1) ↔ All (λ l. 0 < times l v.made) (predecessors plan.list.exchanges k))

    told_release : (n : ℕ) (after : Sat) → after ≡ (view plan (if found == 1 then with_freed v j else v) [] more, []) → released (step n (j + 1) 1 0 none) (owing, []) found after
    told_release n after is h k rest at same =
        let here : j ≡ k = omega (arith, at) in
        subst (λ l. Told after l rest) here (subst (Told after j) (ap (drop 1) same) (is, tells_whole))

    goes_released : (n : ℕ) → Goes plan s (j + 1) id (owing, []) (released (step n (j + 1) 1 0 none) (owing, [])) word
    goes_released n = dite (ℕ_discrete found 1)
        (λ is. (
          view plan (with_freed v j) [] more,
          keeps,
          tt,
          releases_keep (with_freed v j) refl refl refl refl refl refl refl refl
              (freed_last plan.list.exchanges (freed_in s.views) (freed_in (set s.views id (view plan (with_freed v j) [] more))) s.words words' o.freed j
              (λ k. omega (arith, freed-set s.views id owing (view plan (with_freed v j) [] more) me k, total-append (only k) v.freed (j ∷ []), only-swap j k)) word_other (omega (arith, word_here, one_less, is)) is within (omega (arith, bound, is))),
          told_release n (view plan (with_freed v j) [] more, []) (ap (λ (x : SeatView). (view plan x [] more, [])) (sym (ap (λ (b : Bool). if b then with_freed v j else v) (eq-eqb found 1 is)))),
        ))
        (λ other. (
          view plan v [] more,
          keeps,
          tt,
          releases_keep v refl refl refl refl refl refl refl refl
              (freed_waits plan.list.exchanges (freed_in s.views) (freed_in (set s.views id (view plan v [] more))) s.words words' o.freed j
              (λ k. omega (arith, freed-set s.views id owing (view plan v [] more) me k)) word_other (omega (arith, word_here, one_less)) (omega (arith, word_here, one_less, some_left, other)) (omega (arith, bound, pending_most plan.list.exchanges j)) within),
          told_release n (view plan v [] more, []) (ap (λ (x : SeatView). (view plan x [] more, [])) (sym (ap (λ (b : Bool). if b then with_freed v j else v) (ne_eqb found 1 other)))),
        ))

  -- a look and a stop
  module _ (me : get_elem? s.views id ≡ some (resting plan v)) where
    goes_looked : (n : ℕ) → Goes plan s 0 id (resting plan v, []) (looked (step n 0 0 0 none) (resting plan v, [])) (get_or s.words 0 0)
    goes_looked n =
        let r : ℕ = get_or s.words 0 0 in
        let w = resting plan (having_seen v (r / 2) (is_odd r)) in (
          w,
          keeps,
          tt,
          steps_aside plan s o id (resting plan v) w me (record { made = refl; held = refl; freed = refl; known = refl; halted = refl; parts = refl; moving = refl; owes = refl }) (set s.words 0 r) s.homes (set-get_or s.words 0 0) refl some_parts (λ j now. inl now)
              (omega (arith, half plan id v some_parts s o)) (odd_stop plan id v some_parts s o),
          (refl, look_tells plan s o id (resting plan v) me refl refl, looks_informed plan s o id (resting plan v) me refl refl),
        )

    goes_shown : (n : ℕ) → Goes plan s 0 id (resting plan v, []) (shown (step n 0 0 0 none) (resting plan v, [])) (get_or s.words 0 0)
    goes_shown n = (
      resting plan v,
      keeps,
      tt,
      steps_aside plan s o id (resting plan v) (resting plan v) me (record { made = refl; held = refl; freed = refl; known = refl; halted = refl; parts = refl; moving = refl; owes = refl }) (set s.words 0 (get_or s.words 0 0)) s.homes (set-get_or s.words 0 0) refl some_parts (λ j now. inl now)
          (o.sound.seen id (resting plan v) me) (λ knows. o.sound.stopped (omega (arith, flag_yes v.is_stopped knows, term_le (λ u. flag u.seat.is_stopped) s.views id (resting plan v) me))),
      (refl, is_apart plan s o id (resting plan v) me refl refl, is_informed plan s o id (resting plan v) me refl refl),
    )

    goes_halted : (n : ℕ) → Goes plan s 0 id (resting plan v, []) (halted (step n 0 1 0 none) (resting plan v, [])) (bit_or (get_or s.words 0 0) 1)
    goes_halted n =
        let r : ℕ = get_or s.words 0 0 in
        let w = resting plan (having_stopped v (r / 2)) in
        let after = set s.views id w in
        let words' = set s.words 0 (bit_or r 1) in
        let made_same : (j : ℕ) → made_in after j ≡ made_in s.views j = λ j. omega (arith, made-set s.views id (resting plan v) w me j) in
        let held_same : (j : ℕ) → held_in after j ≡ held_in s.views j = λ j. omega (arith, held-set s.views id (resting plan v) w me j) in
        let running_same : (j : ℕ) → running_in after j ≡ running_in s.views j = λ j. omega (arith, held_same j, moving-set s.views id (resting plan v) w me j) in
        let finished_same : finished_in after ≡ finished_in s.views = omega (arith, finished-set s.views id (resting plan v) w me) in
        let others : (j : ℕ) → exchange_word words' j ≡ exchange_word s.words j = λ j. get_or-set_other s.words 0 (j + 1) (bit_or r 1) 0 (λ e. omega (arith, e)) in (
          w,
          keeps,
          tt,
          record {
            planned = o.planned;
            in_order = order_kept plan.list.exchanges (made_in s.views) (running_in s.views) (made_in after) (running_in after) o.in_order (λ j. omega (arith, made_same j)) (λ j. omega (arith, made_same j, running_same j));
            words = words_kept plan.list.exchanges (made_in s.views) (running_in s.views) (made_in after) (running_in after) o.in_order (owed_to s.views) (owed_to after) s.words words' o.words
                (length-set s.words 0 (bit_or r 1)) others made_same running_same (λ j. omega (arith, to-set s.views id (resting plan v) w me j));
            freed = freed_kept plan.list.exchanges (freed_in s.views) (freed_in after) s.words words' o.freed (λ j. omega (arith, freed-set s.views id (resting plan v) w me j)) (λ j. inl (others j));
            tables = tables_kept plan (made_in s.views) (running_in s.views) (held_in s.views) (made_in after) (running_in after) (held_in after) s.homes s.homes o.in_order o.tables (λ j. omega arith) made_same running_same held_same refl;
            stop = 1;
            stop_bit = omega arith;
            count = omega (arith, get_or-set_same s.words 0 (bit_or r 1) 0 (omega (arith, o.words.size)), set_last r, half plan id v some_parts s o, finished_same);
            sound = record {
              told = λ j some_told. omega (arith, o.sound.told j (omega (arith, told-set s.views id (resting plan v) w me j, some_told)), made_same j, running_same j);
              known = λ j some_known. let was = o.sound.known j (omega (arith, known-set s.views id (resting plan v) w me j, some_known)) in (made_same j ∙ was.0, omega (arith, from-set s.views id (resting plan v) w me j, was.1));
              seen = λ k u at. elim (at_set s.views id k w u at) [
                | inl here ↦ subst (λ (x : View). x.seat.seen ≤ finished_in after) here.1 (omega (arith, half plan id v some_parts s o, finished_same))
                | inr other ↦ omega (arith, o.sound.seen k u other.1, finished_same)
              ];
              stopped = λ _. refl;
              halted = λ _. refl;
              called = λ _. omega (arith, term_le (λ u. flag u.seat.is_halted) s.views id (resting plan v) me, calls-set s.views id (resting plan v) w me);
            };
            seats = seats_set s.views id (resting plan v) w me plan.list.exchanges o.seats refl some_parts (λ j k owed. absurd (omega (arith, owed)));
          },
          (refl, look_tells plan s o id (resting plan v) me refl refl),
        )

pub releases : (plan : BoardPlan) (n id : ℕ) (m : Sat) (v : SeatView) (word i j : ℕ) (more : List (ℕ × ℕ)) → word ≡ j + 1 → j < length plan.list.exchanges → 0 < v.parts → m ≡ (view plan v [] ((i, j) ∷ more), [])
    → Allows (Orderly plan) n id m word (λ x. (x + (2 ^ 64 - 1)) % 2 ^ 64) (released (step n word 1 0 none) m)
releases plan n id m v word i j more at within some_parts e = subst (λ (x : Sat). Allows (Orderly plan) n id x word (λ y. (y + (2 ^ 64 - 1)) % 2 ^ 64) (released (step n word 1 0 none) x)) (sym e)
    (subst (λ k. Allows (Orderly plan) n id (view plan v [] ((i, j) ∷ more), []) k (λ y. (y + (2 ^ 64 - 1)) % 2 ^ 64) (released (step n k 1 0 none) (view plan v [] ((i, j) ∷ more), []))) (sym at)
    (λ s o wide me _. goes_released plan id v some_parts s o i j more me within n))

pub looks : (plan : BoardPlan) (n id : ℕ) (m : Sat) (v : SeatView) → 0 < v.parts → m ≡ (resting plan v, []) → Allows (Orderly plan) n id m 0 (λ x. x) (looked (step n 0 0 0 none) m)
looks plan n id m v some_parts e = subst (λ (x : Sat). Allows (Orderly plan) n id x 0 (λ y. y) (looked (step n 0 0 0 none) x)) (sym e) (λ s o wide me _. goes_looked plan id v some_parts s o me n)

pub shows : (plan : BoardPlan) (n id : ℕ) (m : Sat) (v : SeatView) → 0 < v.parts → m ≡ (resting plan v, []) → Allows (Orderly plan) n id m 0 (λ x. x) (shown (step n 0 0 0 none) m)
shows plan n id m v some_parts e = subst (λ (x : Sat). Allows (Orderly plan) n id x 0 (λ y. y) (shown (step n 0 0 0 none) x)) (sym e) (λ s o wide me _. goes_shown plan id v some_parts s o me n)

pub halts : (plan : BoardPlan) (n id : ℕ) (m : Sat) (v : SeatView) → 0 < v.parts → m ≡ (resting plan v, []) → Allows (Orderly plan) n id m 0 (λ x. bit_or x 1) (halted (step n 0 1 0 none) m)
halts plan n id m v some_parts e = subst (λ (x : Sat). Allows (Orderly plan) n id x 0 (λ y. bit_or y 1) (halted (step n 0 1 0 none) x)) (sym e) (λ s o wide me _. goes_halted plan id v some_parts s o me n)
