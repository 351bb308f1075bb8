-- The frame of each step: what one seat's change makes of the counts over all seats, and the steps that change no count.
-- Serves `Claims`, `Finishing`, `Moving` and `Telling`.
use Rattle.board.proofs.Common.{◌≡◌, ℕ, ◌+◌, ◌*◌, ◌<◌, ◌≤◌, ◌⊎◌, Bool, true, false, List, length, get_or, set, inl, inr, ap, ◌∙◌, subst, arith, cases_Bool, cases_lt, some, get_elem?, State, at_set, Exchange}
use Rattle.board.specs.Weights.{total, times, flag}
use Rattle.board.specs.Plan.{BoardPlan}
use Rattle.board.specs.Rule.{Slot, Home, made_in, held_in, moving_in, running_in, freed_in, told_in, known_in, owed_from, owed_to, from_only, to_only, finished_in, parts_in, stops_known, stops_called, AreInformed, OwesForMade, AreSeats, Orderly}
use Rattle.board.specs.declared.views.View.{View}
use Rattle.board.proofs.Sums.{total-set, term_le}
use Rattle.board.proofs.Parts.{order_kept, words_kept, freed_kept, tables_kept}

pub flag_yes : (b : Bool) → b ≡ true → flag b ≡ 1
flag_yes b is = ap flag is

pub flag_no : (b : Bool) → b ≡ false → flag b ≡ 0
flag_no b is = ap flag is

-- the seat id goes from v to w
module _ (views : List View) (id : ℕ) (v w : View) (me : get_elem? views id ≡ some v) where
  pub made-set : (i : ℕ) → made_in (set views id w) i + times i v.seat.made ≡ made_in views i + times i w.seat.made
  made-set i = total-set (λ u. times i u.seat.made) views id v w me

  pub held-set : (i : ℕ) → held_in (set views id w) i + times i v.seat.held ≡ held_in views i + times i w.seat.held
  held-set i = total-set (λ u. times i u.seat.held) views id v w me

  pub moving-set : (i : ℕ) → moving_in (set views id w) i + times i v.moving ≡ moving_in views i + times i w.moving
  moving-set i = total-set (λ u. times i u.moving) views id v w me

  pub freed-set : (i : ℕ) → freed_in (set views id w) i + times i v.seat.freed ≡ freed_in views i + times i w.seat.freed
  freed-set i = total-set (λ u. times i u.seat.freed) views id v w me

  pub told-set : (i : ℕ) → told_in (set views id w) i + times i v.seat.told ≡ told_in views i + times i w.seat.told
  told-set i = total-set (λ u. times i u.seat.told) views id v w me

  pub known-set : (i : ℕ) → known_in (set views id w) i + times i v.seat.known ≡ known_in views i + times i w.seat.known
  known-set i = total-set (λ u. times i u.seat.known) views id v w me

  pub from-set : (i : ℕ) → owed_from (set views id w) i + total (from_only i) v.owes ≡ owed_from views i + total (from_only i) w.owes
  from-set i = total-set (λ u. total (from_only i) u.owes) views id v w me

  pub to-set : (i : ℕ) → owed_to (set views id w) i + total (to_only i) v.owes ≡ owed_to views i + total (to_only i) w.owes
  to-set i = total-set (λ u. total (to_only i) u.owes) views id v w me

  pub finished-set : finished_in (set views id w) + length v.seat.made ≡ finished_in views + length w.seat.made
  finished-set = total-set (λ u. length u.seat.made) views id v w me

  pub parts-set : parts_in (set views id w) + v.seat.parts ≡ parts_in views + w.seat.parts
  parts-set = total-set (λ u. u.seat.parts) views id v w me

  pub stops-set : stops_known (set views id w) + flag v.seat.is_stopped ≡ stops_known views + flag w.seat.is_stopped
  stops-set = total-set (λ u. flag u.seat.is_stopped) views id v w me

  pub calls-set : stops_called (set views id w) + flag v.seat.is_halted ≡ stops_called views + flag w.seat.is_halted
  calls-set = total-set (λ u. flag u.seat.is_halted) views id v w me

  pub sound_set : (stop : ℕ) → AreInformed views stop → ((i : ℕ) → 0 < told_in (set views id w) i → 0 < made_in (set views id w) i + running_in (set views id w) i)
      → ((i : ℕ) → 0 < known_in (set views id w) i → (made_in (set views id w) i ≡ 1) × (owed_from (set views id w) i ≡ 0))
      → w.seat.seen ≤ finished_in (set views id w) → finished_in views ≤ finished_in (set views id w) → (w.seat.is_stopped ≡ true → stop ≡ 1) → w.seat.is_halted ≡ v.seat.is_halted → AreInformed (set views id w) stop
  sound_set stop sound told known seen more stopped halted = record {
    told = told;
    known = known;
    seen = λ k u at. elim (at_set views id k w u at) [
      | inl here ↦ subst (λ (x : View). x.seat.seen ≤ finished_in (set views id w)) here.1 seen
      | inr other ↦ omega (arith, sound.seen k u other.1, more)
    ];
    stopped = λ some_know. elim (cases_Bool w.seat.is_stopped) [
      | inl known_now ↦ stopped known_now
      | inr unknown ↦ sound.stopped (omega (arith, stops-set, flag_no w.seat.is_stopped unknown, some_know))
    ];
    halted = λ some_called. sound.halted (omega (arith, calls-set, ap flag halted, some_called));
    called = λ is. omega (arith, calls-set, ap flag halted, sound.called is);
  }

  pub seats_set : (es : List Exchange) → AreSeats es views → w.seat.parts ≡ v.seat.parts → 0 < v.seat.parts → OwesForMade es w → AreSeats es (set views id w)
  seats_set es seats parts some_parts owes = record {
    parts = omega (arith, parts-set, parts, seats.parts);
    spent = λ k u at no_parts. elim (at_set views id k w u at) [
      | inl here ↦ absurd (omega (arith, ap (λ (x : View). x.seat.parts) here.1, parts, some_parts, no_parts))
      | inr other ↦ seats.spent k u other.1 no_parts
    ];
    owes = λ k u at. elim (at_set views id k w u at) [
      | inl here ↦ subst (OwesForMade es) here.1 owes
      | inr other ↦ seats.owes k u other.1
    ];
  }

-- a step that changes no word and no slot, and of the seat no more than what it was told and has seen
pub record IsAside (v w : View) : Type 0 where
  pub made : w.seat.made ≡ v.seat.made
  pub held : w.seat.held ≡ v.seat.held
  pub freed : w.seat.freed ≡ v.seat.freed
  pub known : w.seat.known ≡ v.seat.known
  pub halted : w.seat.is_halted ≡ v.seat.is_halted
  pub parts : w.seat.parts ≡ v.seat.parts
  pub moving : w.moving ≡ v.moving
  pub owes : w.owes ≡ v.owes

module _ (plan : BoardPlan) (s : State Slot View) (o : Orderly plan s) (id : ℕ) (v w : View) (me : get_elem? s.views id ≡ some v) (aside : IsAside v w) where
  pub made-aside : (i : ℕ) → made_in (set s.views id w) i ≡ made_in s.views i
  made-aside i = omega (arith, made-set s.views id v w me i, ap (times i) aside.made)

  pub held-aside : (i : ℕ) → held_in (set s.views id w) i ≡ held_in s.views i
  held-aside i = omega (arith, held-set s.views id v w me i, ap (times i) aside.held)

  pub running-aside : (i : ℕ) → running_in (set s.views id w) i ≡ running_in s.views i
  running-aside i = omega (arith, held-aside i, moving-set s.views id v w me i, ap (times i) aside.moving)

  pub finished-aside : finished_in (set s.views id w) ≡ finished_in s.views
  finished-aside = omega (arith, finished-set s.views id v w me, ap length aside.made)

  pub order-aside : Rattle.board.specs.Rule.IsInOrder plan.list.exchanges (made_in (set s.views id w)) (running_in (set s.views id w))
  order-aside = order_kept plan.list.exchanges (made_in s.views) (running_in s.views) (made_in (set s.views id w)) (running_in (set s.views id w)) o.in_order
      (λ i. omega (arith, made-aside i)) (λ i. omega (arith, made-aside i, running-aside i))

  pub steps_aside : (words : List ℕ) (homes : List Home) → words ≡ s.words → homes ≡ s.homes → 0 < v.seat.parts
      → ((i : ℕ) → 0 < times i w.seat.told → (0 < times i v.seat.told) ⊎ (0 < made_in s.views i + running_in s.views i))
      → w.seat.seen ≤ finished_in s.views → (w.seat.is_stopped ≡ true → o.stop ≡ 1)
      → Orderly plan record { words = words; homes = homes; views = set s.views id w }
  steps_aside words homes same_words same_homes some_parts told seen stopped = record {
    planned = o.planned;
    in_order = order-aside;
    words = words_kept plan.list.exchanges (made_in s.views) (running_in s.views) (made_in (set s.views id w)) (running_in (set s.views id w)) o.in_order (owed_to s.views) (owed_to (set s.views id w)) s.words words o.words
        (ap length same_words) (λ i. ap (λ ws. get_or ws (i + 1) 0) same_words) made-aside running-aside (λ i. omega (arith, to-set s.views id v w me i, ap (total (to_only i)) aside.owes));
    freed = freed_kept plan.list.exchanges (freed_in s.views) (freed_in (set s.views id w)) s.words words o.freed (λ i. omega (arith, freed-set s.views id v w me i, ap (times i) aside.freed)) (λ i. inl (ap (λ ws. get_or ws (i + 1) 0) same_words));
    tables = tables_kept plan (made_in s.views) (running_in s.views) (held_in s.views) (made_in (set s.views id w)) (running_in (set s.views id w)) (held_in (set s.views id w)) s.homes homes o.in_order o.tables (λ i. omega arith) made-aside running-aside held-aside same_homes;
    stop = o.stop;
    stop_bit = o.stop_bit;
    count = omega (arith, ap (λ ws. get_or ws 0 0) same_words, o.count, finished-aside);
    sound = sound_set s.views id v w me o.stop o.sound
        (λ i some_told. elim (cases_lt 0 (times i w.seat.told)) [
          | inl now ↦ elim (told i now) [
            | inl before ↦ omega (arith, o.sound.told i (omega (arith, before, term_le (λ u. times i u.seat.told) s.views id v me)), made-aside i, running-aside i)
            | inr claimed ↦ omega (arith, claimed, made-aside i, running-aside i)
          ]
          | inr nothing ↦ omega (arith, o.sound.told i (omega (arith, told-set s.views id v w me i, nothing, some_told)), made-aside i, running-aside i)
        ])
        (λ i some_known. let was = o.sound.known i (omega (arith, known-set s.views id v w me i, ap (times i) aside.known, some_known)) in
        (made-aside i ∙ was.0, omega (arith, from-set s.views id v w me i, ap (total (from_only i)) aside.owes, was.1)))
        (omega (arith, seen, finished-aside)) (omega (arith, finished-aside)) stopped aside.halted;
    seats = seats_set s.views id v w me plan.list.exchanges o.seats aside.parts some_parts
        (λ i j owed. let was = o.seats.owes id v me i j (subst (λ (xs : List (ℕ × ℕ)). 0 < total (λ release. from_only i release * to_only j release) xs) aside.owes owed) in
        (omega (arith, was.0, ap (times i) aside.made), was.1));
  }
