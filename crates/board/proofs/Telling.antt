-- What a seat may conclude from the rule.
-- Serves `Claims`, `Ends`, `Finishing`, `Knowing` and `Moving`.
use Rattle.board.proofs.Common.{◌≡◌, ◌≢◌, ℕ, ◌+◌, ◌*◌, ◌/◌, ◌%◌, ◌<◌, ◌≤◌, true, List, [], length, get_or, Option, None, Some, inl, inr, sym, ap, ◌∙◌, subst, arith, All, ◌↔◌, ◌⊎◌, cases_Bool, cases_eq, cases_lt, eq-eqb, eqb-true, length-append, All-get_or, some, some-injective, get_elem?, State, Exchange, IsPlanned, no_exchange, exchange_at, takes_part, share_node, predecessors, pending_of, as_list, predecessors_of, earlier_from_predecessors, predecessors_earlier, share_from, share_common}
use Rattle.board.specs.Weights.{total, only, times, flag, Has}
use Rattle.board.specs.SeatView.{IsWhole, having_seen}
use Rattle.board.specs.Plan.{BoardPlan, IsBoardPlan, table_at}
use Rattle.board.specs.Rule.{Slot, TAKEN, exchange_word, made_in, held_in, freed_in, moving_in, running_in, owed_from, owed_to, from_only, to_only, finished_in, stops_called, HasTable, IsSpent, Orderly}
use Rattle.board.specs.inner.Plays.{is_odd, ClaimTells}
use Rattle.board.specs.Seats.{LookTells, IsApart, IsInformed, KnowsItsOwn}
use Rattle.board.specs.declared.views.View.{View}
use Rattle.board.proofs.Sums.{total-append, term_le, terms_le, positive_term, total_most, full_each, each_full, all_times, times_all, total_whole, only-same, only_at, lengths-upto, upto_most, upto_full}
use Rattle.board.proofs.Parts.{apart}
use Rattle.board.proofs.Keeps.{flag_yes}

at_most_one : (x : Option ℕ) → length (as_list x) ≤ 1
at_most_one None = omega arith
at_most_one (Some y) = omega arith

pub pending_most : (es : List Exchange) (i : ℕ) → pending_of es i ≤ 2
pending_most es i = let a = as_list (predecessors_of es i).first in let b = as_list (predecessors_of es i).second in omega (arith, length-append a b, at_most_one (predecessors_of es i).first, at_most_one (predecessors_of es i).second)

pub planned_at : (plan : BoardPlan) → IsBoardPlan plan → (i : ℕ) → i < length plan.list.exchanges → IsPlanned plan.list.nodes (exchange_at plan.list.exchanges i)
planned_at plan planned i within = All-get_or (IsPlanned plan.list.nodes) plan.list.exchanges i no_exchange within planned.list.planned

module _ (plan : BoardPlan) (s : State Slot View) (o : Orderly plan s) where
  abbrev es : List Exchange
  es = plan.list.exchanges

  made_most : (i : ℕ) → made_in s.views i ≤ 1
  made_most i = omega (arith, o.in_order.once i)

  pub finished_upto : finished_in s.views ≤ length es
  finished_upto = omega (arith, lengths-upto (λ v. v.seat.made) s.views (length es) (λ i past. omega (arith, o.in_order.within i past)), upto_most (made_in s.views) (length es) made_most)

  pub all_finished : finished_in s.views ≡ length es → (i : ℕ) → i < length es → made_in s.views i ≡ 1
  all_finished all i within =
      upto_full (made_in s.views) (length es) i made_most (sym (lengths-upto (λ v. v.seat.made) s.views (length es) (λ j past. omega (arith, o.in_order.within j past))) ∙ all) within

  -- an exchange of the list whose word isn't TAKEN wasn't claimed, and another was
  pub unclaimed : (i : ℕ) → exchange_word s.words i ≢ TAKEN → made_in s.views i + running_in s.views i ≡ 0
  unclaimed i is = elim (cases_lt 0 (made_in s.views i + running_in s.views i)) [
    | inl claimed ↦ absurd (is (o.words.taken i claimed).0)
    | inr nothing ↦ omega (arith, nothing)
  ]

  pub was_claimed : (i : ℕ) → i < length es → exchange_word s.words i ≡ TAKEN → 0 < made_in s.views i + running_in s.views i
  was_claimed i within is = elim (cases_lt 0 (made_in s.views i + running_in s.views i)) [
    | inl claimed ↦ claimed
    | inr nothing ↦ absurd (omega (arith, o.words.bounded i within (omega (arith, nothing)), pending_most es i, is))
  ]

  module _ (i : ℕ) (within : i < length es) (is : exchange_word s.words i ≡ 0) where
    pub fresh : made_in s.views i + running_in s.views i ≡ 0
    fresh = unclaimed i (λ e. omega (arith, is, e))

    pub ready : (total (made_in s.views) (predecessors es i) ≡ length (predecessors es i)) × (owed_to s.views i ≡ 0)
    ready = let most = total_most (made_in s.views) (predecessors es i) made_most in let waits = o.words.waits i within fresh in (omega (arith, is, most, waits), omega (arith, is, most, waits))

    pub predecessors_made : All (λ j. made_in s.views j ≡ 1) (predecessors es i)
    predecessors_made = full_each (made_in s.views) (predecessors es i) made_most ready.0

    pub earlier_made : (j : ℕ) → j < i → share_node es i j ≡ true → made_in s.views j ≡ 1
    earlier_made = earlier_from_predecessors es (λ j. made_in s.views j ≡ 1) i (λ k j under less made_k shared. o.in_order.free k j (omega (arith, made_k)) less shared) predecessors_made

    pub table_there : (node : ℕ) → node < plan.list.nodes → takes_part es node i ≡ true → HasTable s.homes node (table_at plan node i)
    table_there node in_node part = o.tables.home node i in_node (omega (arith, within)) (λ j less in_j. earlier_made j less (share_from es node i j part in_j))
        (λ j from in_j. elim (cases_eq j i) [
          | inl here ↦ subst (λ n. made_in s.views n + running_in s.views n ≡ 0) (sym here) fresh
          | inr other ↦ elim (cases_lt 0 (made_in s.views j + running_in s.views j)) [
            | inl claimed ↦ absurd (omega (arith, o.in_order.free j i claimed (omega (arith, from, other)) (share_from es node j i in_j part), fresh))
            | inr nothing ↦ omega (arith, nothing)
          ]
        ])

  -- the word of an exchange is at most TAKEN, and below that it wasn't claimed
  word_cases : (i : ℕ) → i < length es → (exchange_word s.words i ≡ TAKEN) ⊎ (exchange_word s.words i < TAKEN)
  word_cases i within = elim (cases_eq (exchange_word s.words i) TAKEN) [
    | inl is ↦ inl is
    | inr other ↦ inr (omega (arith, o.words.bounded i within (unclaimed i other), pending_most es i))
  ]

  -- what is freed waits for others, and each of these is finished
  pub freed_within : (i : ℕ) → 0 < freed_in s.views i → i < length es
  freed_within i some_freed = elim (cases_lt i (length es)) [
    | inl within ↦ within
    | inr past ↦ absurd (omega (arith, some_freed, o.freed.first i (inl (omega (arith, past)))))
  ]

  pub freed_pending : (i : ℕ) → 0 < freed_in s.views i → pending_of es i ≢ 0
  freed_pending i some_freed none_pending = omega (arith, some_freed, o.freed.first i (inr none_pending))

  pub freed_after : (i : ℕ) → 0 < freed_in s.views i → All (λ j. made_in s.views j ≡ 1) (predecessors es i)
  freed_after i some_freed =
      let within = freed_within i some_freed in
      elim (word_cases i within) [
        | inl taken ↦ predecessors_earlier es (λ j. made_in s.views j ≡ 1) i (λ j less shared. o.in_order.free i j (was_claimed i within taken) less shared)
        | inr below ↦ elim (cases_eq (exchange_word s.words i) 0) [
          | inl is ↦ predecessors_made i within is
          | inr not_zero ↦ absurd (omega (arith, some_freed, o.freed.waiting i within (omega (arith, not_zero)) below))
        ]
      ]

  pub freed_most : (i : ℕ) → freed_in s.views i ≤ 1
  freed_most i = elim (cases_lt 0 (freed_in s.views i)) [
    | inr nothing ↦ omega (arith, nothing)
    | inl some_freed ↦
        let within = freed_within i some_freed in
        let pending : 0 < pending_of es i = omega (arith, freed_pending i some_freed) in
        elim (word_cases i within) [
          | inl taken ↦ omega (arith, o.freed.ready i within pending (inr taken))
          | inr below ↦ elim (cases_eq (exchange_word s.words i) 0) [
            | inl is ↦ omega (arith, o.freed.ready i within pending (inl is))
            | inr not_zero ↦ absurd (omega (arith, some_freed, o.freed.waiting i within (omega (arith, not_zero)) below))
          ]
        ]
  ]

  -- a whole seat's lists are all there are
  module _ (id : ℕ) (v : View) (me : get_elem? s.views id ≡ some v) (whole : IsWhole v.seat) where
    whole_of : (g : View → ℕ) → ((u : View) → IsSpent u → g u ≡ 0) → total g s.views ≡ g v
    whole_of g none_spent = total_whole (λ u. u.seat.parts) g s.views id v me (o.seats.parts ∙ sym whole) (λ k u at no_parts. none_spent u (o.seats.spent k u at no_parts))

    pub whole_made : (i : ℕ) → made_in s.views i ≡ times i v.seat.made
    whole_made i = whole_of (λ u. times i u.seat.made) (λ u spent. ap (times i) spent.made)

    pub whole_held : (i : ℕ) → held_in s.views i ≡ times i v.seat.held
    whole_held i = whole_of (λ u. times i u.seat.held) (λ u spent. ap (times i) spent.held)

    pub whole_freed : (i : ℕ) → freed_in s.views i ≡ times i v.seat.freed
    whole_freed i = whole_of (λ u. times i u.seat.freed) (λ u spent. ap (times i) spent.freed)

    pub whole_moving : (i : ℕ) → moving_in s.views i ≡ times i v.moving
    whole_moving i = whole_of (λ u. times i u.moving) (λ u spent. ap (times i) spent.moving)

    pub whole_owed : (i : ℕ) → owed_to s.views i ≡ total (to_only i) v.owes
    whole_owed i = whole_of (λ u. total (to_only i) u.owes) (λ u spent. ap (total (to_only i)) spent.owes)

    pub whole_finished : finished_in s.views ≡ length v.seat.made
    whole_finished = whole_of (λ u. length u.seat.made) (λ u spent. ap length spent.made)

    pub whole_calls : stops_called s.views ≡ flag v.seat.is_halted
    whole_calls = whole_of (λ u. flag u.seat.is_halted) (λ u spent. ap flag spent.halted)

  -- a seat between two calls
  module _ (id : ℕ) (v : View) (me : get_elem? s.views id ≡ some v) (no_moving : v.moving ≡ []) (no_owes : v.owes ≡ []) where
    made_here : (i : ℕ) → times i v.seat.made ≤ made_in s.views i
    made_here i = term_le (λ u. times i u.seat.made) s.views id v me

    held_here : (i : ℕ) → times i v.seat.held ≤ held_in s.views i
    held_here i = term_le (λ u. times i u.seat.held) s.views id v me

    -- nothing is owed by what the seat has made or knows of
    pub none_owed : (j : ℕ) → 0 < times j v.seat.made + times j v.seat.known → owed_from s.views j ≡ 0
    none_owed j is = elim (cases_lt 0 (owed_from s.views j)) [
      | inr nothing ↦ omega (arith, nothing)
      | inl owed ↦ absurd (elim (cases_lt 0 (times j v.seat.known)) [
        | inl by_known ↦ omega (arith, (o.sound.known j (omega (arith, by_known, term_le (λ u. times j u.seat.known) s.views id v me))).1, owed)
        | inr unknown ↦
            let seat = positive_term (λ u. total (from_only j) u.owes) s.views owed in
            let release = positive_term (from_only j) (seat.1).owes seat.3 in
            let from_j : release.1.0 ≡ j = only_at j release.1.0 release.3 in
            let k : ℕ = release.1.1 in
            let both_ways : from_only j release.1 * to_only k release.1 ≡ 1 = (λ t. (only j (from_j t)) * only k k) ∙ (λ t. only-same j t * only-same k t) in
            let named = o.seats.owes seat.0 seat.1 seat.2 j k (omega (arith, both_ways, term_le (λ r. from_only j r * to_only k r) (seat.1).owes release.0 release.1 release.2)) in
            elim (cases_eq seat.0 id) [
              | inl same ↦
                  let this : seat.1 ≡ v = some-injective seat.1 v (sym seat.2 ∙ ap (get_elem? s.views) same ∙ me) in
                  omega (arith, seat.3, ap (λ (u : View). total (from_only j) u.owes) this, ap (total (from_only j)) no_owes)
              | inr other ↦ omega (arith, named.0, unknown, is, terms_le (λ u. times j u.seat.made) s.views id seat.0 v seat.1 other me seat.2, made_most j)
            ]
      ])
    ]

    -- an exchange whose predecessors the seat has made or knows of is ready or taken
    pub not_waiting : (i : ℕ) → i < length es → exchange_word s.words i ≢ 0 → exchange_word s.words i ≢ TAKEN → ¬ All (λ j. 0 < times j v.seat.made + times j v.seat.known) (predecessors es i)
    not_waiting i within not_ready not_taken all =
        let nothing = unclaimed i not_taken in
        let each : All (λ j. made_in s.views j ≡ 1) (predecessors es i) = times_all (λ j. made_in s.views j ≡ 1) (predecessors es i) (λ j there. elim (cases_lt 0 (times j v.seat.made)) [
          | inl mine ↦ omega (arith, mine, made_here j, made_most j)
          | inr theirs ↦ (o.sound.known j (omega (arith, theirs, all_times (λ k. 0 < times k v.seat.made + times k v.seat.known) (predecessors es i) j all there, term_le (λ u. times j u.seat.known) s.views id v me))).0
        ]) in
        let owed : 0 < owed_to s.views i = omega (arith, not_ready, o.words.waits i within nothing, each_full (made_in s.views) (predecessors es i) each) in
        let seat = positive_term (λ u. total (to_only i) u.owes) s.views owed in
        let release = positive_term (to_only i) (seat.1).owes seat.3 in
        let to_i : release.1.1 ≡ i = only_at i release.1.1 release.3 in
        let k : ℕ = release.1.0 in
        let both_ways : from_only k release.1 * to_only i release.1 ≡ 1 = (λ t. (only k k) * only i (to_i t)) ∙ (λ t. only-same k t * only-same i t) in
        let named = o.seats.owes seat.0 seat.1 seat.2 k i (omega (arith, both_ways, term_le (λ r. from_only k r * to_only i r) (seat.1).owes release.0 release.1 release.2)) in
        let none = none_owed k (all_times (λ j. 0 < times j v.seat.made + times j v.seat.known) (predecessors es i) k all named.1) in
        omega (arith, none, only-same k, term_le (from_only k) (seat.1).owes release.0 release.1 release.2, term_le (λ u. total (from_only k) u.owes) s.views seat.0 seat.1 seat.2)

    pub nothing_of : (i : ℕ) → made_in s.views i + running_in s.views i ≡ 0 → times i v.seat.made + times i v.seat.held + times i v.seat.told + times i v.seat.known ≡ 0
    nothing_of i nothing =
        let no_told : times i v.seat.told ≡ 0 = elim (cases_lt 0 (times i v.seat.told)) [
          | inl some_told ↦ absurd (omega (arith, nothing, o.sound.told i (omega (arith, some_told, term_le (λ u. times i u.seat.told) s.views id v me))))
          | inr none_told ↦ omega (arith, none_told)
        ] in
        let no_known : times i v.seat.known ≡ 0 = elim (cases_lt 0 (times i v.seat.known)) [
          | inl some_known ↦ absurd (omega (arith, nothing, (o.sound.known i (omega (arith, some_known, term_le (λ u. times i u.seat.known) s.views id v me))).0))
          | inr none_known ↦ omega (arith, none_known)
        ] in
        omega (arith, nothing, made_here i, held_here i, no_told, no_known)

    pub claim_tells : (i : ℕ) → i < length es → ClaimTells es i v.seat (exchange_word s.words i)
    claim_tells i within = record {
      fresh = λ is. nothing_of i (fresh i within is);
      waits = λ not_ready not_taken.
          let nothing = unclaimed i not_taken in
          let bound = o.words.bounded i within nothing in (
            (λ none_pending. not_ready (omega (arith, bound, none_pending))),
            omega (arith, o.freed.waiting i within (omega (arith, not_ready)) (omega (arith, bound, pending_most es i)), term_le (λ u. times i u.seat.freed) s.views id v me),
            not_waiting i within not_ready not_taken,
          );
      unknown = λ not_taken. nothing_of i (unclaimed i not_taken);
      whole_taken = λ whole is. omega (arith, was_claimed i within is, whole_made id v me whole i, whole_held id v me whole i, whole_moving id v me whole i, ap (times i) no_moving);
      whole_ready = λ whole is. times_all (λ j. 0 < times j v.seat.made) (predecessors es i) (λ j there. omega (arith, whole_made id v me whole j, all_times (λ k. made_in s.views k ≡ 1) (predecessors es i) j (predecessors_made i within is) there));
    }

    pub is_apart : IsApart es v.seat
    is_apart = record {
      once = λ i. omega (arith, o.in_order.once i, made_here i, held_here i);
      apart = λ i j other holds_i holds_j. elim (cases_Bool (share_node es i j)) [
        | inr apart_now ↦ apart_now
        | inl shared ↦ let common = share_common es i j shared in
            absurd (apart es (made_in s.views) (running_in s.views) (made_in s.views) (running_in s.views) o.in_order i j common.0 other (omega (arith, holds_i, held_here i)) (omega (arith, holds_j, held_here j)) common.1 common.2)
      ];
    }

    -- the count word, r, and the number of finished exchanges in it
    pub look_tells : LookTells es v.seat (get_or s.words 0 0 / 2) (is_odd (get_or s.words 0 0))
    look_tells =
        let r : ℕ = get_or s.words 0 0 in
        let half : r / 2 ≡ finished_in s.views = omega (arith, o.count, o.stop_bit) in
        let rest : r % 2 ≡ o.stop = omega (arith, o.count, o.stop_bit) in
        record {
          seen = omega (arith, half, o.sound.seen id v me);
          made = omega (arith, half, term_le (λ u. length u.seat.made) s.views id v me);
          most = omega (arith, half, finished_upto);
          stopped = λ is. eq-eqb (r % 2) 1 (rest ∙ o.sound.stopped (omega (arith, flag_yes v.seat.is_stopped is, term_le (λ u. flag u.seat.is_stopped) s.views id v me)));
          halted = λ is. eq-eqb (r % 2) 1 (rest ∙ o.sound.halted (omega (arith, flag_yes v.seat.is_halted is, term_le (λ u. flag u.seat.is_halted) s.views id v me)));
          whole_count = λ whole. half ∙ whole_finished id v me whole;
          whole_stop = λ whole. elim (cases_Bool v.seat.is_halted) [
            | inl already ↦ eq-eqb (r % 2) 1 (rest ∙ o.sound.halted (omega (arith, flag_yes v.seat.is_halted already, term_le (λ u. flag u.seat.is_halted) s.views id v me))) ∙ sym already
            | inr never ↦ elim (cases_Bool (is_odd r)) [
              | inl is ↦ absurd (omega (arith, o.sound.called (sym rest ∙ eqb-true (r % 2) 1 is), whole_calls id v me whole, ap flag never))
              | inr is ↦ is ∙ sym never
            ]
          ];
        }

    freed_here : (i : ℕ) → times i v.seat.freed ≤ freed_in s.views i
    freed_here i = term_le (λ u. times i u.seat.freed) s.views id v me

    -- an exchange that is finished the seat doesn't hold
    finished_not_held : (i : ℕ) → made_in s.views i ≡ 1 → times i v.seat.held ≡ 0
    finished_not_held i made = omega (arith, made, o.in_order.once i, held_here i)

    claimed_within : (i : ℕ) → 0 < made_in s.views i + running_in s.views i → i < length es
    claimed_within i claimed = elim (cases_lt i (length es)) [
      | inl within ↦ within
      | inr past ↦ absurd (omega (arith, claimed, o.in_order.within i (omega (arith, past))))
    ]

    -- a stop that a whole seat knows of was called, and by no other seat
    called_it : IsWhole v.seat → v.seat.is_stopped ≡ true → v.seat.is_halted ≡ true
    called_it whole knows = elim (cases_Bool v.seat.is_halted) [
      | inl called ↦ called
      | inr never ↦
          let stopped = o.sound.stopped (omega (arith, flag_yes v.seat.is_stopped knows, term_le (λ u. flag u.seat.is_stopped) s.views id v me)) in
          absurd (omega (arith, o.sound.called stopped, whole_calls id v me whole, ap flag never))
    ]

    -- a whole seat has freed what waits for others that it has made, all of them
    own_freed : IsWhole v.seat → (i : ℕ) → i < length es → pending_of es i ≢ 0 → Has v.seat.freed i ↔ All (Has v.seat.made) (predecessors es i)
    own_freed whole i within pending = (
      λ has.
          let each = freed_after i (omega (arith, has, freed_here i)) in
          times_all (Has v.seat.made) (predecessors es i) (λ j there. omega (arith, all_times (λ k. made_in s.views k ≡ 1) (predecessors es i) j each there, whole_made id v me whole j)),
      λ all. elim (word_cases i within) [
        | inl taken ↦ omega (arith, o.freed.ready i within (omega (arith, pending)) (inr taken), whole_freed id v me whole i)
        | inr below ↦ elim (cases_eq (exchange_word s.words i) 0) [
          | inl is ↦ omega (arith, o.freed.ready i within (omega (arith, pending)) (inl is), whole_freed id v me whole i)
          | inr not_zero ↦ absurd (not_waiting i within not_zero (λ taken. omega (arith, below, taken)) (times_all (λ j. 0 < times j v.seat.made + times j v.seat.known) (predecessors es i) (λ j there. omega (arith, all_times (Has v.seat.made) (predecessors es i) j all there))))
        ]
      ],
    )

    pub its_own : IsWhole v.seat → KnowsItsOwn es v.seat
    its_own whole = record {
      told = λ i has. omega (arith, o.sound.told i (omega (arith, has, term_le (λ u. times i u.seat.told) s.views id v me)), whole_made id v me whole i, whole_held id v me whole i, whole_moving id v me whole i, ap (times i) no_moving, total-append (only i) v.seat.made v.seat.held);
      known = λ i has. omega (arith, (o.sound.known i (omega (arith, has, term_le (λ u. times i u.seat.known) s.views id v me))).0, whole_made id v me whole i);
      halted = called_it whole;
      freed = own_freed whole;
    }

    pub is_informed : IsInformed es v.seat
    is_informed = record {
      told = λ i has. claimed_within i (o.sound.told i (omega (arith, has, term_le (λ u. times i u.seat.told) s.views id v me)));
      known = λ i has.
          let made = (o.sound.known i (omega (arith, has, term_le (λ u. times i u.seat.known) s.views id v me))).0 in
          (claimed_within i (omega (arith, made)), finished_not_held i made);
      once = λ i. omega (arith, freed_here i, freed_most i);
      freed = λ i has.
          let some_freed : 0 < freed_in s.views i = omega (arith, has, freed_here i) in (
            freed_within i some_freed,
            freed_pending i some_freed,
            times_all (λ j. times j v.seat.held ≡ 0) (predecessors es i) (λ j there. finished_not_held j (all_times (λ k. made_in s.views k ≡ 1) (predecessors es i) j (freed_after i some_freed) there)),
          );
      whole = its_own;
    }

    -- and after a look
    pub looks_informed : IsInformed es (having_seen v.seat (get_or s.words 0 0 / 2) (is_odd (get_or s.words 0 0)))
    looks_informed = record {
      told = is_informed.told;
      known = is_informed.known;
      once = is_informed.once;
      freed = is_informed.freed;
      whole = λ whole. record {
        told = (its_own whole).told;
        known = (its_own whole).known;
        halted = λ knows. sym (look_tells.whole_stop whole) ∙ knows;
        freed = (its_own whole).freed;
      };
    }
