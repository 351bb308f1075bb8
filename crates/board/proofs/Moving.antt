-- The moves of tables between two steps on words keep the rule.
-- Serves `Finishing` and `Steps`.
use Rattle.board.proofs.Common.{◌≡◌, ℕ, ◌+◌, ◌*◌, ◌<◌, List, [], ◌∷◌, length, get_or, set, None, inl, inr, refl, sym, ap, ◌∙◌, subst, arith, length-set, cases_lt, some, none, get_elem?, set-get_or, step, takes, gives, chain, Allows, set_else, initiator_part, responder_part}
use Rattle.board.specs.Weights.{total, only, times, flag, Has}
use Rattle.board.specs.SeatView.{SeatView, with_held, without_held}
use Rattle.board.specs.Plan.{BoardPlan, initiator_of, responder_of}
use Rattle.board.specs.Rule.{Home, made_in, held_in, running_in, freed_in, owed_from, owed_to, from_only, to_only, finished_in, Orderly}
use Rattle.board.specs.Seats.{Sat, view, resting}
use Rattle.board.specs.inner.Plays.{emptied, retaken}
use Rattle.board.specs.declared.views.View.{View}
use Rattle.board.proofs.Sums.{total-append, only-same, only-swap, times-without, term_le}
use Rattle.board.proofs.Parts.{order_kept, words_kept, freed_kept, tables_emptied, tables_retaken}
use Rattle.board.proofs.Keeps.{flag_yes, made-set, held-set, moving-set, freed-set, told-set, known-set, from-set, to-set, finished-set, sound_set, seats_set}
use Rattle.board.proofs.Claims.{St, Goes, ends_else, ends_here}
use Rattle.board.proofs.Telling.{planned_at}

module _ (plan : BoardPlan) (id : ℕ) (v : SeatView) (some_parts : 0 < v.parts) (s : St) (o : Orderly plan s) where
  -- a step on a word that stays, which leaves counts and changes slots and what is held or on its way
  module _ (i : ℕ) (old w : View) (me : get_elem? s.views id ≡ some old) (old_seat : old.seat ≡ v) (made : w.seat.made ≡ v.made) (freed : w.seat.freed ≡ v.freed) (told : w.seat.told ≡ v.told) (known : w.seat.known ≡ v.known) (seen : w.seat.seen ≡ v.seen)
      (stopped : w.seat.is_stopped ≡ v.is_stopped) (halted : w.seat.is_halted ≡ v.is_halted) (parts : w.seat.parts ≡ v.parts) (owes : w.owes ≡ []) (owed : old.owes ≡ [])
      (moved : (j : ℕ) → times j w.seat.held + times j w.moving ≡ times j v.held + times j old.moving) where
    abbrev after : List View
    after = set s.views id w

    made_same : (j : ℕ) → made_in after j ≡ made_in s.views j
    made_same j = omega (arith, made-set s.views id old w me j, ap (times j) made, ap (λ (x : SeatView). times j x.made) old_seat)

    running_same : (j : ℕ) → running_in after j ≡ running_in s.views j
    running_same j = omega (arith, held-set s.views id old w me j, moving-set s.views id old w me j, moved j, ap (λ (x : SeatView). times j x.held) old_seat)

    finished_same : finished_in after ≡ finished_in s.views
    finished_same = omega (arith, finished-set s.views id old w me, ap length made, ap (λ (x : SeatView). length x.made) old_seat)

    owed_same : (j : ℕ) → owed_to after j ≡ owed_to s.views j
    owed_same j = omega (arith, to-set s.views id old w me j, ap (total (to_only j)) owes, ap (total (to_only j)) owed)

    from_same : (j : ℕ) → owed_from after j ≡ owed_from s.views j
    from_same j = omega (arith, from-set s.views id old w me j, ap (total (from_only j)) owes, ap (total (from_only j)) owed)

    pub moves : (words : List ℕ) (homes : List Home) → words ≡ s.words → Rattle.board.specs.Rule.HasTables plan (made_in after) (running_in after) (held_in after) homes → Orderly plan record { words = words; homes = homes; views = after }
    moves words homes same_words tables = record {
      planned = o.planned;
      in_order = order_kept plan.list.exchanges (made_in s.views) (running_in s.views) (made_in after) (running_in after) o.in_order (λ j. omega (arith, made_same j)) (λ j. omega (arith, made_same j, running_same j));
      words = words_kept plan.list.exchanges (made_in s.views) (running_in s.views) (made_in after) (running_in after) o.in_order (owed_to s.views) (owed_to after) s.words words o.words
          (ap length same_words) (λ j. ap (λ ws. get_or ws (j + 1) 0) same_words) made_same running_same owed_same;
      freed = freed_kept plan.list.exchanges (freed_in s.views) (freed_in after) s.words words o.freed
          (λ j. omega (arith, freed-set s.views id old w me j, ap (times j) freed, ap (λ (x : SeatView). times j x.freed) old_seat)) (λ j. inl (ap (λ ws. get_or ws (j + 1) 0) same_words));
      tables = tables;
      stop = o.stop;
      stop_bit = o.stop_bit;
      count = omega (arith, ap (λ ws. get_or ws 0 0) same_words, o.count, finished_same);
      sound = sound_set s.views id old w me o.stop o.sound
          (λ j some_told. omega (arith, o.sound.told j (omega (arith, told-set s.views id old w me j, ap (times j) told, ap (λ (x : SeatView). times j x.told) old_seat, some_told)), made_same j, running_same j))
          (λ j some_known. let was = o.sound.known j (omega (arith, known-set s.views id old w me j, ap (times j) known, ap (λ (x : SeatView). times j x.known) old_seat, some_known)) in (made_same j ∙ was.0, omega (arith, from_same j, was.1)))
          (omega (arith, finished_same, seen, ap (λ (x : SeatView). x.seen) old_seat, o.sound.seen id old me)) (omega (arith, finished_same))
          (λ knows. o.sound.stopped (omega (arith, flag_yes v.is_stopped (sym stopped ∙ knows), ap (λ (x : SeatView). flag x.is_stopped) old_seat, term_le (λ u. flag u.seat.is_stopped) s.views id old me)))
          (halted ∙ ap (λ (x : SeatView). x.is_halted) (sym old_seat));
      seats = seats_set s.views id old w me plan.list.exchanges o.seats (parts ∙ ap (λ (x : SeatView). x.parts) (sym old_seat)) (omega (arith, some_parts, ap (λ (x : SeatView). x.parts) old_seat))
          (λ j k some_owed. absurd (omega (arith, some_owed, ap (total (λ release. from_only j release * to_only k release)) owes)));
    }

  -- an exchange whose tables are on their way runs
  module _ (i : ℕ) (owes : List (ℕ × ℕ)) (me : get_elem? s.views id ≡ some (view plan v (i ∷ []) owes)) where
    pub runs : 0 < running_in s.views i
    runs = omega (arith, term_le (λ u. times i u.moving) s.views id (view plan v (i ∷ []) owes) me, only-same i)

    pub unfinished : made_in s.views i ≡ 0
    unfinished = omega (arith, runs, o.in_order.once i)

    pub in_list : i < length plan.list.exchanges
    in_list = elim (cases_lt i (length plan.list.exchanges)) [
      | inl within ↦ within
      | inr past ↦ absurd (omega (arith, o.in_order.within i past, runs))
    ]

    pub none_held : held_in s.views i ≡ 0
    none_held = omega (arith, term_le (λ u. times i u.moving) s.views id (view plan v (i ∷ []) owes) me, only-same i, o.in_order.once i)

  module _ (i : ℕ) (me : get_elem? s.views id ≡ some (view plan v (i ∷ []) [])) where
    abbrev p : ℕ
    p = initiator_of plan i

    abbrev q : ℕ
    q = responder_of plan i

    goes_emptied : (n : ℕ) → Goes plan s 0 id (view plan v (i ∷ []) [], (p, None) ∷ (q, None) ∷ []) (emptied (step n 0 0 0 none) (view plan v (i ∷ []) [], (p, None) ∷ (q, None) ∷ [])) (get_or s.words 0 0)
    goes_emptied n =
        let w = resting plan (with_held v i) in
        let homes : List Home = set (set s.homes p (some None)) q (some None) in
        let planned = planned_at plan o.planned i (in_list i [] me) in
        let long : length homes ≡ length s.homes = length-set (set s.homes p (some None)) q (some None) ∙ length-set s.homes p (some None) in
        let moved : (j : ℕ) → times j (with_held v i).held + 0 ≡ times j v.held + times j (i ∷ []) = λ j. omega (arith, total-append (only j) v.held (i ∷ [])) in (
          w,
          chain gives gives,
          (tt, tt),
          moves i (view plan v (i ∷ []) []) w me refl refl refl refl refl refl refl refl refl refl refl moved (set s.words 0 (get_or s.words 0 0)) homes (set-get_or s.words 0 0)
              (tables_emptied plan (made_in s.views) (running_in s.views) (held_in s.views) (made_in (set s.views id w)) (running_in (set s.views id w)) (held_in (set s.views id w)) s.homes homes o.in_order o.tables (λ j. omega arith) i
              long
              (λ node out. ends_else plan i node s.homes (some None) (some None) out)
              (unfinished i [] me)
              (runs i [] me)
              (made_same i (view plan v (i ∷ []) []) w me refl refl refl refl refl refl refl refl refl refl refl moved)
              (running_same i (view plan v (i ∷ []) []) w me refl refl refl refl refl refl refl refl refl refl refl moved)
              (λ j. omega (arith, held-set s.views id (view plan v (i ∷ []) []) w me j, total-append (only j) v.held (i ∷ []), only-swap i j))
              (λ node part. let there = ends_here (λ _ x. x ≡ some None) plan i s.homes (some None) (some None) planned.apart (omega (arith, o.tables.size, planned.initiator)) (omega (arith, o.tables.size, planned.responder)) refl refl node part in there.1 ∙ ap some there.2)),
          (λ j same. let here : i ≡ j = ap (λ (xs : List ℕ). get_or xs 0 0) same in ap (λ k. (resting plan (with_held v k), [])) here),
        )

  module _ (i : ℕ) (me : get_elem? s.views id ≡ some (resting plan v)) (holds : Has v.held i) where
    held_here : 0 < held_in s.views i
    held_here = omega (arith, holds, term_le (λ u. times i u.seat.held) s.views id (resting plan v) me)

    held_in_list : i < length plan.list.exchanges
    held_in_list = elim (cases_lt i (length plan.list.exchanges)) [
      | inl within ↦ within
      | inr past ↦ absurd (omega (arith, o.in_order.within i past, held_here))
    ]

    goes_retaken : (n : ℕ) → Goes plan s (i + 1) id (resting plan v, []) (retaken (step n (i + 1) 0 0 none) (resting plan v, [])) (get_or s.words (i + 1) 0)
    goes_retaken n =
        let w = view plan (without_held v i) (i ∷ []) [] in
        let p : ℕ = initiator_of plan i in
        let q : ℕ = responder_of plan i in
        let homes : List Home = set (set s.homes p none) q none in
        let planned = planned_at plan o.planned i held_in_list in
        let long : length homes ≡ length s.homes = length-set (set s.homes p none) q none ∙ length-set s.homes p none in
        let moved : (j : ℕ) → times j (without_held v i).held + times j (i ∷ []) ≡ times j v.held + 0 = λ j. omega (arith, times-without i j v.held holds) in (
          w,
          chain (takes p None) (takes q None),
          (o.tables.away i p held_here (initiator_part plan.list.exchanges i), set_else s.homes p q none (λ e. planned.apart (sym e)) ∙ o.tables.away i q held_here (responder_part plan.list.exchanges i)),
          moves i (resting plan v) w me refl refl refl refl refl refl refl refl refl refl refl moved (set s.words (i + 1) (get_or s.words (i + 1) 0)) homes (set-get_or s.words (i + 1) 0)
              (tables_retaken plan (made_in s.views) (running_in s.views) (held_in s.views) (made_in (set s.views id w)) (running_in (set s.views id w)) (held_in (set s.views id w)) s.homes homes o.in_order o.tables (λ j. omega arith) i
              long
              (λ node out. ends_else plan i node s.homes none none out)
              (omega (arith, held_here, o.in_order.once i))
              (omega (arith, held_here))
              (made_same i (resting plan v) w me refl refl refl refl refl refl refl refl refl refl refl moved)
              (running_same i (resting plan v) w me refl refl refl refl refl refl refl refl refl refl refl moved)
              (λ j. omega (arith, held-set s.views id (resting plan v) w me j, times-without i j v.held holds, only-swap i j))),
          (λ j same. let here : i ≡ j = omega (arith, same) in ap (λ k. (view plan (without_held v k) (k ∷ []) [], (responder_of plan k, None) ∷ (initiator_of plan k, None) ∷ [])) here),
        )

pub empties : (plan : BoardPlan) (n id : ℕ) (m : Sat) (v : SeatView) (i : ℕ) → 0 < v.parts → m ≡ (view plan v (i ∷ []) [], (initiator_of plan i, None) ∷ (responder_of plan i, None) ∷ [])
    → Allows (Orderly plan) n id m 0 (λ r. r) (emptied (step n 0 0 0 none) m)
empties plan n id m v i some_parts e = subst (λ (x : Sat). Allows (Orderly plan) n id x 0 (λ r. r) (emptied (step n 0 0 0 none) x)) (sym e) (λ s o wide me _. goes_emptied plan id v some_parts s o i me n)

pub retakes : (plan : BoardPlan) (n id : ℕ) (m : Sat) (v : SeatView) (word i : ℕ) → word ≡ i + 1 → 0 < v.parts → Has v.held i → m ≡ (resting plan v, [])
    → Allows (Orderly plan) n id m word (λ r. r) (retaken (step n word 0 0 none) m)
retakes plan n id m v word i at some_parts holds e = subst (λ (x : Sat). Allows (Orderly plan) n id x word (λ r. r) (retaken (step n word 0 0 none) x)) (sym e)
    (subst (λ k. Allows (Orderly plan) n id (resting plan v, []) k (λ r. r) (retaken (step n k 0 0 none) (resting plan v, []))) (sym at) (λ s o wide me _. goes_retaken plan id v some_parts s o i me holds n))
