-- The opening and the last state, and seats that are split and joined.
-- Serves `Board::close`, `Board::new`, `Filling` and `Steps`.
use Rattle.board.proofs.Common.{◌≡◌, ℕ, zero, suc, ◌+◌, ◌/◌, ◌<◌, ◌≤◌, Bool, true, false, ◌||◌, if◌then◌else◌, nat_le, List, [], ◌∷◌, ◌++◌, length, get_or, set, Some, inl, inr, refl, sym, ap, ◌∙◌, subst, arith, cases_Bool, cases_lt, length-map, length-append, some, some-injective, some-ne-none, get_elem?, State, Splits, Joins, opening, Final, Seen, at_set, at_snoc, at_map, set_else, Table, takes_part, predecessors, pending_of, table_of_node}
use Rattle.board.specs.Weights.{total, only, times, flag}
use Rattle.board.specs.SeatView.{SeatView, IsWhole, split_left, split_right, joined}
use Rattle.board.specs.inner.Plays.{spent_seat}
use Rattle.board.specs.Plan.{BoardPlan, IsBoardPlan, table_at}
use Rattle.board.specs.Rule.{Slot, exchange_word, made_in, held_in, running_in, freed_in, owed_from, owed_to, from_only, to_only, finished_in, IsSpent, OwesForMade, Orderly}
use Rattle.board.specs.Seats.{resting, LookTells}
use Rattle.board.specs.inner.Plays.{opened_view, is_odd}
use Rattle.board.specs.declared.views.View.{View}
use Rattle.board.proofs.Sums.{total-append, total-set, term_le, terms_le}
use Rattle.board.proofs.Parts.{order_kept, words_kept, freed_kept, tables_kept, table_quiet}
use Rattle.board.proofs.Telling.{none_owed, look_tells, all_finished, whole_made}

or_most : (a b : Bool) → flag (a || b) ≤ flag a + flag b
or_most true b = omega arith
or_most false b = omega arith

or_least : (a b : Bool) → (flag a ≤ flag (a || b)) × (flag b ≤ flag (a || b))
or_least true true = (omega arith, omega arith)
or_least true false = (omega arith, omega arith)
or_least false b = (omega arith, omega arith)

module _ {A : Type 0} (g : A → ℕ) (l : List A) (id : ℕ) (v w u : A) (me : get_elem? l id ≡ some v) where
  -- one element cut in two
  total-split : total g (set l id w ++ u ∷ []) + g v ≡ total g l + g w + g u
  total-split = omega (arith, total-append g (set l id w) (u ∷ []), total-set g l id v w me)

  -- two elements made one and a rest
  total-join : (other : ℕ) (x y : A) → get_elem? (set l id w) other ≡ some x → total g (set (set l id w) other y) + g v + g x ≡ total g l + g w + g y
  total-join other x y at = omega (arith, total-set g (set l id w) other x y at, total-set g l id v w me)

module _ (plan : BoardPlan) (id : ℕ) (v : SeatView) (some_parts : 2 ≤ v.parts) (s : State Slot View) (o : Orderly plan s) (me : get_elem? s.views id ≡ some (resting plan v)) where
  abbrev l : View
  l = resting plan (split_left v)

  abbrev r : View
  r = resting plan (split_right v)

  abbrev after : List View
  after = set s.views id l ++ r ∷ []

  counted : (g : View → ℕ) → total g after + g (resting plan v) ≡ total g s.views + g l + g r
  counted g = total-split g s.views id (resting plan v) l r me

  made_same : (i : ℕ) → made_in after i ≡ made_in s.views i
  made_same i = omega (arith, counted (λ u. times i u.seat.made))

  held_same : (i : ℕ) → held_in after i ≡ held_in s.views i
  held_same i = omega (arith, counted (λ u. times i u.seat.held))

  running_same : (i : ℕ) → running_in after i ≡ running_in s.views i
  running_same i = omega (arith, held_same i, counted (λ u. times i u.moving))

  from_same : (i : ℕ) → owed_from after i ≡ owed_from s.views i
  from_same i = omega (arith, counted (λ u. total (from_only i) u.owes))

  finished_same : finished_in after ≡ finished_in s.views
  finished_same = omega (arith, counted (λ u. length u.seat.made))

  each : (P : View → Type 0) → ((k : ℕ) (u : View) → get_elem? s.views k ≡ some u → P u) → P l → P r → (k : ℕ) (u : View) → get_elem? after k ≡ some u → P u
  each P of_all of_l of_r k u at = elim (at_snoc (set s.views id l) r u k at) [
    | inl before ↦ elim (at_set s.views id k l u before) [
      | inl here ↦ subst P here.1 of_l
      | inr other ↦ of_all k u other.1
    ]
    | inr last ↦ subst P last of_r
  ]

  goes_split : Orderly plan record { words = s.words; homes = s.homes; views = after }
  goes_split = record {
    planned = o.planned;
    in_order = order_kept plan.list.exchanges (made_in s.views) (running_in s.views) (made_in after) (running_in after) o.in_order (λ i. omega (arith, made_same i)) (λ i. omega (arith, made_same i, running_same i));
    words = words_kept plan.list.exchanges (made_in s.views) (running_in s.views) (made_in after) (running_in after) o.in_order (owed_to s.views) (owed_to after) s.words s.words o.words refl (λ i. refl) made_same running_same (λ i. omega (arith, counted (λ u. total (to_only i) u.owes)));
    freed = freed_kept plan.list.exchanges (freed_in s.views) (freed_in after) s.words s.words o.freed (λ i. omega (arith, counted (λ u. times i u.seat.freed))) (λ i. inl refl);
    tables = tables_kept plan (made_in s.views) (running_in s.views) (held_in s.views) (made_in after) (running_in after) (held_in after) s.homes s.homes o.in_order o.tables (λ i. omega arith) made_same running_same held_same refl;
    stop = o.stop;
    stop_bit = o.stop_bit;
    count = omega (arith, o.count, finished_same);
    sound = record {
      told = λ i some_told. omega (arith, o.sound.told i (omega (arith, counted (λ u. times i u.seat.told), some_told)), made_same i, running_same i);
      known = λ i some_known. elim (cases_lt 0 (times i v.made + times i v.known)) [
        | inl mine ↦
            let owed = none_owed plan s o id (resting plan v) me refl refl i mine in
            elim (cases_lt 0 (times i v.made)) [
              | inl was_made ↦ (omega (arith, made_same i, was_made, term_le (λ u. times i u.seat.made) s.views id (resting plan v) me, o.in_order.once i), from_same i ∙ owed)
              | inr not_made ↦ let was = o.sound.known i (omega (arith, mine, not_made, term_le (λ u. times i u.seat.known) s.views id (resting plan v) me)) in (made_same i ∙ was.0, from_same i ∙ owed)
            ]
        | inr nothing ↦ let was = o.sound.known i (omega (arith, counted (λ u. times i u.seat.known), total-append (only i) v.known v.made, nothing, some_known)) in (made_same i ∙ was.0, from_same i ∙ was.1)
      ];
      seen = each (λ u. u.seat.seen ≤ finished_in after) (λ k u at. omega (arith, o.sound.seen k u at, finished_same)) (omega (arith, o.sound.seen id (resting plan v) me, finished_same)) (omega (arith, o.sound.seen id (resting plan v) me, finished_same));
      stopped = λ some_known. o.sound.stopped (omega (arith, counted (λ u. flag u.seat.is_stopped), term_le (λ u. flag u.seat.is_stopped) s.views id (resting plan v) me, some_known));
      halted = λ some_called. o.sound.halted (omega (arith, counted (λ u. flag u.seat.is_halted), some_called));
      called = λ is. omega (arith, counted (λ u. flag u.seat.is_halted), o.sound.called is);
    };
    seats = record {
      parts = omega (arith, counted (λ u. u.seat.parts), o.seats.parts, some_parts);
      spent = each (λ u. u.seat.parts ≡ 0 → IsSpent u) o.seats.spent (λ no_parts. absurd (omega (arith, no_parts, some_parts))) (λ no_parts. absurd (omega (arith, no_parts)));
      owes = each (OwesForMade plan.list.exchanges) o.seats.owes (λ i j owed. absurd (omega (arith, owed))) (λ i j owed. absurd (omega (arith, owed)));
    };
  }

pub splits : (plan : BoardPlan) (id : ℕ) (m : View) (v : SeatView) → 2 ≤ v.parts → m ≡ resting plan v → Splits (Orderly plan) id m (Rattle.board.specs.inner.Plays.left m) (Rattle.board.specs.inner.Plays.right m)
splits plan id m v some_parts e = subst (λ x. Splits (Orderly plan) id x (Rattle.board.specs.inner.Plays.left x) (Rattle.board.specs.inner.Plays.right x)) (sym e) (λ s o me. goes_split plan id v some_parts s o me)

-- two seats between calls are made one
module _ (plan blank : BoardPlan) (id other : ℕ) (v w : SeatView) (some_parts : 0 < v.parts) (s : State Slot View) (o : Orderly plan s) (me : get_elem? s.views id ≡ some (resting plan v)) (apart : ¬ (other ≡ id))
    (at_other : get_elem? (set s.views id (resting plan (joined v w))) other ≡ some (resting plan w)) where
  abbrev one : View
  one = resting plan (joined v w)

  abbrev spent : View
  spent = resting blank spent_seat

  abbrev joined_views : List View
  joined_views = set (set s.views id one) other spent

  them : get_elem? s.views other ≡ some (resting plan w)
  them = sym (set_else s.views id other one apart) ∙ at_other

  weighed : (g : View → ℕ) → total g joined_views + g (resting plan v) + g (resting plan w) ≡ total g s.views + g one + g spent
  weighed g = total-join g s.views id (resting plan v) one spent me other (resting plan w) spent at_other

  made_stays : (i : ℕ) → made_in joined_views i ≡ made_in s.views i
  made_stays i = omega (arith, weighed (λ u. times i u.seat.made), total-append (only i) v.made w.made)

  held_stays : (i : ℕ) → held_in joined_views i ≡ held_in s.views i
  held_stays i = omega (arith, weighed (λ u. times i u.seat.held), total-append (only i) v.held w.held)

  running_stays : (i : ℕ) → running_in joined_views i ≡ running_in s.views i
  running_stays i = omega (arith, held_stays i, weighed (λ u. times i u.moving))

  from_stays : (i : ℕ) → owed_from joined_views i ≡ owed_from s.views i
  from_stays i = omega (arith, weighed (λ u. total (from_only i) u.owes))

  finished_stays : finished_in joined_views ≡ finished_in s.views
  finished_stays = omega (arith, weighed (λ u. length u.seat.made), length-append v.made w.made)

  each_joined : (P : View → Type 0) → ((k : ℕ) (u : View) → get_elem? s.views k ≡ some u → P u) → P one → P spent → (k : ℕ) (u : View) → get_elem? joined_views k ≡ some u → P u
  each_joined P of_all of_one of_spent k u at = elim (at_set (set s.views id one) other k spent u at) [
    | inl here ↦ subst P here.1 of_spent
    | inr before ↦ elim (at_set s.views id k one u before.1) [
      | inl here ↦ subst P here.1 of_one
      | inr rest ↦ of_all k u rest.1
    ]
  ]

  seen_most : (joined v w).seen ≤ finished_in joined_views
  seen_most = elim (cases_Bool (nat_le v.seen w.seen)) [
    | inl more ↦ omega (arith, ap (λ (b : Bool). if b then w.seen else v.seen) more, o.sound.seen other (resting plan w) them, finished_stays)
    | inr less ↦ omega (arith, ap (λ (b : Bool). if b then w.seen else v.seen) less, o.sound.seen id (resting plan v) me, finished_stays)
  ]

  goes_joined : Orderly plan record { words = s.words; homes = s.homes; views = joined_views }
  goes_joined = record {
    planned = o.planned;
    in_order = order_kept plan.list.exchanges (made_in s.views) (running_in s.views) (made_in joined_views) (running_in joined_views) o.in_order (λ i. omega (arith, made_stays i)) (λ i. omega (arith, made_stays i, running_stays i));
    words = words_kept plan.list.exchanges (made_in s.views) (running_in s.views) (made_in joined_views) (running_in joined_views) o.in_order (owed_to s.views) (owed_to joined_views) s.words s.words o.words refl (λ i. refl) made_stays running_stays (λ i. omega (arith, weighed (λ u. total (to_only i) u.owes)));
    freed = freed_kept plan.list.exchanges (freed_in s.views) (freed_in joined_views) s.words s.words o.freed (λ i. omega (arith, weighed (λ u. times i u.seat.freed), total-append (only i) v.freed w.freed)) (λ i. inl refl);
    tables = tables_kept plan (made_in s.views) (running_in s.views) (held_in s.views) (made_in joined_views) (running_in joined_views) (held_in joined_views) s.homes s.homes o.in_order o.tables (λ i. omega arith) made_stays running_stays held_stays refl;
    stop = o.stop;
    stop_bit = o.stop_bit;
    count = omega (arith, o.count, finished_stays);
    sound = record {
      told = λ i some_told. omega (arith, o.sound.told i (omega (arith, weighed (λ u. times i u.seat.told), total-append (only i) v.told w.told, some_told)), made_stays i, running_stays i);
      known = λ i some_known. let was = o.sound.known i (omega (arith, weighed (λ u. times i u.seat.known), total-append (only i) v.known w.known, some_known)) in (made_stays i ∙ was.0, from_stays i ∙ was.1);
      seen = each_joined (λ u. u.seat.seen ≤ finished_in joined_views) (λ k u at. omega (arith, o.sound.seen k u at, finished_stays)) seen_most (omega arith);
      stopped = λ some_known. o.sound.stopped (omega (arith, weighed (λ u. flag u.seat.is_stopped), or_most v.is_stopped w.is_stopped, some_known));
      halted = λ some_called. o.sound.halted (omega (arith, weighed (λ u. flag u.seat.is_halted), or_most v.is_halted w.is_halted, some_called));
      called = λ is. omega (arith, weighed (λ u. flag u.seat.is_halted), o.sound.called is, or_least v.is_halted w.is_halted, (or_least v.is_halted w.is_halted).0, (or_least v.is_halted w.is_halted).1, terms_le (λ u. flag u.seat.is_halted) s.views id other (resting plan v) (resting plan w) apart me them);
    };
    seats = record {
      parts = omega (arith, weighed (λ u. u.seat.parts), o.seats.parts);
      spent = each_joined (λ u. u.seat.parts ≡ 0 → IsSpent u) o.seats.spent (λ no_parts. absurd (omega (arith, no_parts, some_parts))) (λ _. record { made = refl; held = refl; freed = refl; told = refl; known = refl; moving = refl; owes = refl; halted = refl });
      owes = each_joined (OwesForMade plan.list.exchanges) o.seats.owes (λ i j owed. absurd (omega (arith, owed))) (λ i j owed. absurd (omega (arith, owed)));
    };
  }

pub joins : (plan blank : BoardPlan) (id other : ℕ) (m k : View) (v w : SeatView) → 0 < v.parts → m ≡ resting plan v → k ≡ resting plan w
    → Joins (Orderly plan) id m other k (Rattle.board.specs.inner.Plays.both m k) (resting blank spent_seat)
joins plan blank id other m k v w some_parts e d = subst (λ x. Joins (Orderly plan) id x other k (Rattle.board.specs.inner.Plays.both x k) (resting blank spent_seat)) (sym e)
    (subst (λ x. Joins (Orderly plan) id (resting plan v) other x (Rattle.board.specs.inner.Plays.both (resting plan v) x) (resting blank spent_seat)) (sym d)
    (λ s o me apart at. goes_joined plan blank id other v w some_parts s o me apart at))

-- the words and the slots of a new board
pub record IsOpening (plan : BoardPlan) (words : List ℕ) (slots : List Slot) : Type 0 where
  pub long : length words ≡ length plan.list.exchanges + 1
  pub count : get_or words 0 0 ≡ 0
  pub waits : (i : ℕ) → i < length plan.list.exchanges → exchange_word words i ≡ pending_of plan.list.exchanges i
  pub size : length slots ≡ plan.list.nodes
  pub tables : (node : ℕ) → node < plan.list.nodes → get_elem? slots node ≡ some (Some (table_of_node plan.tables node))

pub starts : (plan : BoardPlan) (words : List ℕ) (slots : List Slot) → IsBoardPlan plan → IsOpening plan words slots → Orderly plan (opening words slots (opened_view plan))
starts plan words slots planned is = record {
  planned = planned;
  in_order = record { within = λ i past. refl; once = λ i. omega arith; free = λ i j claimed. absurd (omega (arith, claimed)) };
  words = record {
    size = is.long;
    taken = λ i claimed. absurd (omega (arith, claimed));
    waits = λ i within waiting. omega (arith, is.waits i within, nothing (predecessors plan.list.exchanges i));
    bounded = λ i within waiting. omega (arith, is.waits i within);
  };
  freed = record {
    ready = λ i within waits word. absurd (elim word [
      | inl no_more ↦ omega (arith, is.waits i within, waits, no_more)
      | inr taken ↦ omega (arith, is.waits i within, taken, Rattle.board.proofs.Telling.pending_most plan.list.exchanges i)
    ]);
    waiting = λ i within low high. refl;
    first = λ i which. refl;
  };
  tables = record {
    size = length-map slots some ∙ is.size;
    home = λ node k in_node in_k below none.
        at_map some slots node (Some (table_of_node plan.tables node)) (is.tables node in_node)
        ∙ ap (λ (t : Table). some (some (Some t))) (sym (table_quiet plan node 0 k (omega arith) in_k (λ j from less. elim (cases_Bool (takes_part plan.list.exchanges node j)) [
          | inl part ↦ absurd (omega (arith, below j less part))
          | inr out ↦ out
        ])));
    away = λ i node holds. absurd (omega (arith, holds));
  };
  stop = 0;
  stop_bit = omega arith;
  count = is.count;
  sound = record {
    told = λ i some_told. absurd (omega (arith, some_told));
    known = λ i some_known. absurd (omega (arith, some_known));
    seen = λ k v at. alone (λ v. v.seat.seen ≤ 0) (omega arith) k v at;
    stopped = λ some_known. absurd (omega (arith, some_known));
    halted = λ some_called. absurd (omega (arith, some_called));
    called = λ is. absurd (omega (arith, is));
  };
  seats = record {
    parts = refl;
    spent = alone (λ v. v.seat.parts ≡ 0 → IsSpent v) (λ no_parts. absurd (omega (arith, no_parts)));
    owes = alone (OwesForMade plan.list.exchanges) (λ i j owed. absurd (omega (arith, owed)));
  };
}
  where
    nothing : (xs : List ℕ) → total (λ i. 0) xs ≡ 0
    nothing [] = refl
    nothing (x ∷ xs) = omega (arith, nothing xs)

    alone : (P : View → Type 0) → P (opened_view plan) → (k : ℕ) (v : View) → get_elem? (opened_view plan ∷ []) k ≡ some v → P v
    alone P holds zero v at = subst P (some-injective (opened_view plan) v at) holds
    alone P holds (suc k) v at = absurd (some-ne-none v (sym at))

-- at the end: what the count word tells, and the tables where all is finished
pub record EndTells (plan : BoardPlan) (v : SeatView) (words : List ℕ) (slots : List Slot) : Type 0 where
  pub tells : LookTells plan.list.exchanges v (get_or words 0 0 / 2) (is_odd (get_or words 0 0))
  pub whole : IsWhole v → get_or words 0 0 / 2 ≡ length plan.list.exchanges → (i : ℕ) → i < length plan.list.exchanges → times i v.made ≡ 1
  pub tables : get_or words 0 0 / 2 ≡ length plan.list.exchanges → (node : ℕ) → node < plan.list.nodes → get_elem? slots node ≡ some (Some (table_at plan node (length plan.list.exchanges)))

pub ends : (plan : BoardPlan) (id : ℕ) (m : View) (v : SeatView) (words : List ℕ) (slots : List Slot) → m ≡ resting plan v → Final (Seen (Orderly plan) id m) words slots → EndTells plan v words slots
ends plan id m v words slots e final =
    let s = final.0 in
    let o = final.1.0 in
    let me = final.1.1 ∙ ap some e in
    let half : get_or s.words 0 0 / 2 ≡ finished_in s.views = omega (arith, o.count, o.stop_bit) in
    record {
      tells = subst (λ ws. LookTells plan.list.exchanges v (get_or ws 0 0 / 2) (is_odd (get_or ws 0 0))) final.2 (look_tells plan s o id (resting plan v) me refl refl);
      whole = λ whole all i within. sym (whole_made plan s o id (resting plan v) me whole i) ∙ all_finished plan s o (sym half ∙ ap (λ ws. get_or ws 0 0 / 2) final.2 ∙ all) i within;
      tables = λ all node in_node.
          let finished : finished_in s.views ≡ length plan.list.exchanges = sym half ∙ ap (λ ws. get_or ws 0 0 / 2) final.2 ∙ all in
          final.4 node (Some (table_at plan node (length plan.list.exchanges)))
          (o.tables.home node (length plan.list.exchanges) in_node (omega arith) (λ j less part. all_finished plan s o finished j less) (λ j from part. o.in_order.within j from));
    }
