-- What the calls of a board conclude from the steps that they make.
-- Serves the functions of `boards`.
use contract.BorrowLft.{◌⊑◌, ⊑_meet, ⊑_static}
use Rattle.board.proofs.Common.{◌≡◌, ◌≢◌, ℕ, ◌+◌, ◌<◌, ◌≤◌, ◌/◌, ◌↔◌, Bool, ◌==◌, if◌then◌else◌, List, [], ◌∷◌, ◌++◌, length, map, drop, All, append-nil, Option, None, Some, inl, inr, refl, sym, ap, ◌∙◌, subst, arith, cases_eq, eq-eqb, ne_eqb, IfSome, step, rest, turned, Me, Step, none, Table, RoundListView, predecessors, as_list, successors}
use Rattle.board.specs.Weights.{only, times, Has}
use Rattle.board.specs.SeatView.{SeatView, IsWhole, with_held, with_told, without_held, with_made, freed_by, joined}
use Rattle.board.specs.inner.Plays.{with_freed}
use Rattle.board.specs.Plan.{BoardPlan, table_at, initiator_of, responder_of}
use Rattle.board.specs.Rule.{TAKEN}
use Rattle.board.specs.Seats.{Sat, view, resting, Rests}
use Rattle.board.specs.Models.{seat_model, TellsOf}
use Rattle.board.specs.declared.views.View.{View}
use Rattle.board.specs.inner.Plays.{ClaimTells, TookOut, HasOut, claimed, emptied, retaken, released, releases_by, successor_list, is_odd, OwesTo, IsReleased, HasFinished, finished}
use Rattle.board.specs.Boards.{plan_of, exchanges_of, seat_view, IsSeatOf, IsHoldOf, AreMade, Claims, Among, IsPutBack}
use Rattle.board.specs.declared.boards.Board.{Board}
use Rattle.board.specs.declared.boards.Seat.{Seat}
use Rattle.board.specs.declared.boards.Hold.{Hold}
use Rattle.board.specs.declared.boards.Claim.TheVariants.{Held, Taken, NotReady}
use Rattle.board.proofs.Releases.{successors_once, successor_within}
use Rattle.board.proofs.Sums.{total-append, only-same, only-other, times-without}
use Rattle.board.proofs.Modelled.{rests_of, empties_of, tables_of}

pub at_rest : {S : Type 0} (plan : BoardPlan) (m : Me S View) → m.0.plan ≡ plan → Rests m → m ≡ (resting plan m.0.seat, [])
at_rest plan m planned rests = λ k. (record { plan = planned k; seat = m.0.seat; moving = rests.moving k; owes = rests.owes k }, rests.slots k)

pub seat_rests : {T : Type 0} (table : T → Table) (board : Board T) (seat : Seat T) → IsSeatOf table seat board → seat.raw.me ≡
    (resting (plan_of table board) (seat_view seat), [])
seat_rests table board seat is = at_rest (plan_of table board) seat.raw.me is.plan is.rests

-- and so does its view
pub resting_seat : {T : Type 0} (table : T → Table) (board : Board T) (seat : Seat T) → IsSeatOf table seat board → seat.raw.me.0 ≡ resting
    (plan_of table board) (seat_view seat)
resting_seat {T = T} table board seat is = ap (λ (m : Me (Option T) View). m.0) (seat_rests table board seat is)

pub word_within : {T : Type 0} (board : Board T) (i : ℕ) → i < length (exchanges_of board) → i + 1 < board.table.shared.table_id.words
word_within board i within = omega (arith, within, board.words, ap (λ (l : RoundListView). length l.exchanges) board.planned.1)

pub word_zero : {T : Type 0} (board : Board T) → 0 < board.table.shared.table_id.words
word_zero board = omega (arith, board.words)

-- a seat whose raw seat rests again
pub seat_again : {T : Type 0} (table : T → Table) (board : Board T) (old new : Seat T) (v : SeatView) → IsSeatOf table old board → new.raw.table_id ≡
    old.raw.table_id → new.raw.me ≡ (resting (plan_of table board) v, []) → 0 < v.parts → ((i : ℕ) → Has v.held i → i < length (exchanges_of board))
    → IsSeatOf table new board
seat_again {T = T} table board old new v was same is parts within = record {
  id = same ∙ was.id;
  plan = ap (λ (m : Me (Option T) View). m.0.plan) is;
  rests = record {
    slots = ap (λ (m : Me (Option T) View). m.1) is;
    moving = ap (λ (m : Me (Option T) View). m.0.moving) is;
    owes = ap (λ (m : Me (Option T) View). m.0.owes) is;
    parts = omega (arith, parts, ap (λ (m : Me (Option T) View). m.0.seat.parts) is);
  };
  within = λ i holds. within i (omega (arith, holds, ap (λ (m : Me (Option T) View). times i m.0.seat.held) is));
}

-- a seat that holds no more than it held
pub seat_kept : {T : Type 0} (table : T → Table) (board : Board T) (old new : Seat T) (v : SeatView) → IsSeatOf table old board → new.raw.table_id ≡
    old.raw.table_id → new.raw.me ≡ (resting (plan_of table board) v, []) → v.parts ≡ (seat_view old).parts
    → ((i : ℕ) → times i v.held ≤ times i (seat_view old).held) → IsSeatOf table new board
seat_kept table board old new v was same is parts held = seat_again table board old new v was same is (omega (arith, parts, was.rests.parts))
    (λ i holds. was.within i (omega (arith, holds, held i)))

pub seat_of_me : {S : Type 0} (m : Me S View) (plan : BoardPlan) (v : SeatView) → m ≡ (resting plan v, []) → m.0.seat ≡ v
seat_of_me {S = S} m plan v is = ap (λ (x : Me S View). x.0.seat) is

-- a seat whose model rests again, and that holds no more than it held
pub rests_again : {T : Type 0} (table : T → Table) (board : Board T) (old new : Seat T) (v : SeatView) → IsSeatOf table old board → new.raw.table_id ≡
    old.raw.table_id → seat_model table new.raw.me ≡ (resting old.raw.me.0.plan v, []) → v.parts ≡ (seat_view old).parts
    → ((i : ℕ) → times i v.held ≤ times i (seat_view old).held) → IsSeatOf table new board
rests_again table board old new v was same is parts held =
    seat_kept table board old new v was same (rests_of table new.raw.me (resting old.raw.me.0.plan v) is ∙ ap (λ (p : BoardPlan). (resting p v, [])) was.plan)
    parts held

-- a claim that was won
pub out_of : {T : Type 0} (table : T → Table) (plan : BoardPlan) (m n : Me (Option T) View) (i : ℕ) → m.0.plan ≡ plan → 0 < m.0.seat.parts → TookOut
    (seat_model table m) i (seat_model table n) → HasOut table plan i n
out_of table plan m n i planned parts took =
    let p : ℕ = initiator_of m.0.plan i in
    let q : ℕ = responder_of m.0.plan i in
    let out = tables_of table n (view m.0.plan m.0.seat (i ∷ []) []) p q (table_at m.0.plan p i) (table_at m.0.plan q i) took in
    let seat = ap (λ (x : Sat). x.0.seat) took in
    record {
      initiator = out.0;
      responder = out.1;
      seat = out.2 ∙ (λ k. (
        view (planned k) (sym seat k) (i ∷ []) [],
        (responder_of (planned k) i, Some out.1) ∷ (initiator_of (planned k) i, Some out.0) ∷
            [],
      ));
      first = out.3 ∙ ap (λ p. table_at p (initiator_of p i) i) planned;
      second = out.4 ∙ ap (λ p. table_at p (responder_of p i) i) planned;
      parts = omega (arith, parts, ap (λ (v : SeatView). v.parts) seat);
    }

module _ {T : Type 0} (table : T → Table) (board : Board T) (old : Seat T) (i r : ℕ) (n : Me (Option T) View) (was : IsSeatOf table old board)
    (told : TellsOf table claimed (step board.table.shared.table_id.slots (i + 1) 0 TAKEN none) old.raw.me r n) where
  abbrev board_plan : BoardPlan
  board_plan = plan_of table board

  facts : ClaimTells (exchanges_of board) i (seat_view old) r
  facts = subst (λ (p : BoardPlan). ClaimTells p.list.exchanges i (seat_view old) r) was.plan (told i refl).0

  pub claim_won : r ≡ 0 → HasOut table board_plan i n
  claim_won is = out_of table board_plan old.raw.me n i was.plan was.rests.parts ((told i refl).1 is)

  pub claim_won_seat : r ≡ 0 → n.0.seat ≡ seat_view old
  claim_won_seat is = ap (λ (x : Sat). x.0.seat) ((told i refl).1 is)

  pub claim_held : r ≡ 0 → (hold : Hold T) (new : Seat T) → i < length (exchanges_of board) → IsHoldOf table board_plan i hold → new.raw.table_id ≡
      old.raw.table_id → new.raw.me ≡ (resting board_plan (with_held n.0.seat i), [])
      → IsSeatOf table new board × Claims table board_plan (seat_view old) i (Held hold) (seat_view new)
  claim_held is hold new within holds same me =
      let seat = claim_won_seat is in
      let me' : new.raw.me ≡ (resting board_plan (with_held (seat_view old) i), []) = me ∙ ap (λ (v : SeatView). (resting board_plan (with_held v i), []))
      seat in (
        seat_again table board old new (with_held (seat_view old) i) was same me' was.rests.parts (λ j there. elim (cases_eq i j) [
          | inl here ↦ omega (arith, within, here)
          | inr other ↦ was.within j (omega (arith, there, total-append (only j) (seat_view old).held (i ∷ []), only-other j i other))
        ]),
        (holds, seat_of_me new.raw.me board_plan (with_held (seat_view old) i) me', facts.fresh is, (λ whole. facts.whole_ready whole is)),
      )

  pub claim_taken : r ≡ TAKEN → (new : Seat T) → new.raw.table_id ≡ old.raw.table_id → new.raw.me ≡ n → IsSeatOf table new board × Claims table board_plan
      (seat_view old) i Taken (seat_view new)
  claim_taken is new same me =
      let now = rests_of table n (resting old.raw.me.0.plan (with_told (seat_view old) i)) ((told i refl).2 is) in
      let me' : new.raw.me ≡ (resting board_plan (with_told (seat_view old) i), []) = me ∙ now ∙ ap
      (λ (p : BoardPlan). (resting p (with_told (seat_view old) i), [])) was.plan in (
        seat_kept table board old new (with_told (seat_view old) i) was same me' refl (λ j. omega arith),
        (
          seat_of_me new.raw.me board_plan (with_told (seat_view old) i) me',
          (λ whole. omega (arith, facts.whole_taken whole is, total-append (only i) (seat_view old).made (seat_view old).held)),
        ),
      )

  pub claim_refused : r ≢ 0 → r ≢ TAKEN → (new : Seat T) → new.raw.table_id ≡ old.raw.table_id → new.raw.me ≡ n → IsSeatOf table new board × Claims table
      board_plan (seat_view old) i NotReady (seat_view new)
  claim_refused not_ready not_taken new same me =
      let still = (told i refl).3 not_ready not_taken ∙ ap (seat_model table) (at_rest board_plan old.raw.me was.plan was.rests) in
      let me' = me ∙ rests_of table n (resting board_plan (seat_view old)) still in
      let waits = facts.waits not_ready not_taken in (
        seat_kept table board old new (seat_view old) was same me' refl (λ j. omega arith),
        (
          seat_of_me new.raw.me board_plan (seat_view old) me',
          record
              { unknown = facts.unknown not_taken; pending = waits.0; freed = waits.1; waits = waits.2 },
        ),
      )

-- the two slots of an exchange, one after the other
module _ {S : Type 0} (w : View) (p q sp sq : ℕ) (a b d : S) (m0 m1 m2 : Me S View) (e0 : m0 ≡ (w, (q, b) ∷ (p, a) ∷ [])) (same_p : sp ≡ p) (same_q : sq ≡ q)
  where
    pub first_out : (old : S) × (m0.1 ≡ (sq, old) ∷ rest m0.1)
    first_out = (b, (λ k. (e0 k).1) ∙ (λ k. (sym same_q k, b) ∷ rest (sym e0 k).1))

    module _ (e1 : m1 ≡ (m0.0, (sq, d) ∷ rest m0.1)) (e2 : m2 ≡ (m1.0, turned m1.1)) where
      pub second_in : m2 ≡ (w, (p, a) ∷ (q, d) ∷ [])
      second_in = e2 ∙ ap (λ (x : Me S View). (x.0, turned x.1)) (e1 ∙ (λ k. ((e0 k).0, (same_q k, d) ∷ rest (e0 k).1)))

      pub second_out : (old : S) × (m2.1 ≡ (sp, old) ∷ rest m2.1)
      second_out = (a, (λ k. (second_in k).1) ∙ (λ k. (sym same_p k, a) ∷ rest (sym second_in k).1))

      pub both_out : (c : S) (m3 : Me S View) → m3 ≡ (m2.0, (sp, c) ∷ rest m2.1) → m3 ≡ (w, (p, c) ∷ (q, d) ∷ [])
      both_out c m3 e3 = e3 ∙ (λ k. ((second_in k).0, (same_p k, c) ∷ rest (second_in k).1))

-- a retake: both slots are empty
pub retaken_of : {T : Type 0} (table : T → Table) (plan : BoardPlan) (v : SeatView) (i r : ℕ) (m n : Me (Option T) View) (st : Step (Option T)) → m ≡
    (resting plan v, []) → st.word ≡ i + 1
    → TellsOf table retaken st m r n → n ≡ (view plan (without_held v i) (i ∷ []) [], (responder_of plan i, None) ∷ (initiator_of plan i, None) ∷ [])
retaken_of {T = T} table plan v i r m n st e word told =
    let t = subst (λ (x : Me (Option T) View). TellsOf table retaken st x r n) e told in
    empties_of table n (view plan (without_held v i) (i ∷ []) []) (initiator_of plan i) (responder_of plan i) (t i word)

-- and once they are back the exchange is held
pub emptied_of : {T : Type 0} (table : T → Table) (plan : BoardPlan) (v : SeatView) (i r : ℕ) (m n : Me (Option T) View) (st : Step (Option T))
    (more : List (ℕ × Option T)) → m ≡ (view plan v (i ∷ []) [], more)
    → TellsOf table emptied st m r n → n ≡ (resting plan (with_held v i), [])
emptied_of {T = T} table plan v i r m n st more e told =
    let t = subst (λ (x : Me (Option T) View). TellsOf table emptied st x r n) e told in
    rests_of table n (resting plan (with_held v i)) (t i refl)

-- a finish
pub finished_of : {T : Type 0} (table : T → Table) (plan : BoardPlan) (v : SeatView) (i r : ℕ) (m n : Me (Option T) View) (st : Step (Option T))
    (more : List (ℕ × Option T)) → m ≡ (view plan (without_held v i) (i ∷ []) [], more)
    → TellsOf table finished st m r n → HasFinished plan v i n
finished_of {T = T} table plan v i r m n st more e told =
    let t = subst (λ (x : Me (Option T) View). TellsOf table finished st x r n) e told i refl in
    let after : View = view plan (with_made (without_held v i) i (r / 2) (is_odd r)) [] (releases_by i (successor_list plan.list.exchanges i)) in
    record { seen = r / 2; is_stopped = is_odd r; seat = rests_of table n after t.0; rises = t.1; stays = t.2 }

-- a release
module _ {T : Type 0} (table : T → Table) (plan : BoardPlan) (m n : Me (Option T) View) (j r : ℕ) (st : Step (Option T)) (owes : OwesTo plan m j)
    (word : st.word ≡ j + 1) (told : TellsOf table released st m r n) where
  its_plan : m.0.plan ≡ plan
  its_plan = ap (λ (x : Me (Option T) View). x.0.plan) owes.seat

  rest_of : drop 1 m.0.owes ≡ owes.more
  rest_of = ap (λ (x : Me (Option T) View). drop 1 x.0.owes) owes.seat

  t : (n ≡ (view m.0.plan (if r == 1 then with_freed m.0.seat j else m.0.seat) [] (drop 1 m.0.owes), []))
      × (IsWhole m.0.seat → times j (map (λ release. release.1) (drop 1 m.0.owes)) ≡ 0 → (r ≡ 1) ↔ All (λ k. 0 < times k m.0.seat.made)
      (predecessors plan.list.exchanges j))
  t = let was = told owes.by j owes.more word (ap (λ (x : Me (Option T) View). x.0.owes) owes.seat) in (
    rests_of table n (view m.0.plan (if r == 1 then with_freed m.0.seat j else m.0.seat) [] owes.more) was.0
        ∙ (λ k. (view m.0.plan (if r == 1 then with_freed m.0.seat j else m.0.seat) [] (sym rest_of k), [])),
    λ whole none_more. subst (λ (p : BoardPlan). (r ≡ 1) ↔ All (λ k. 0 < times k m.0.seat.made) (predecessors p.list.exchanges j)) its_plan
        (was.1 whole (ap (λ xs. times j (map (λ release. release.1) xs)) (sym rest_of) ∙ none_more)),
  )

  pub released_last : r ≡ 1 → IsReleased plan m j (Some j) n
  released_last is = record {
    seat = t.0 ∙ (λ k. (view (its_plan k) (if eq-eqb r 1 is k then with_freed m.0.seat j else m.0.seat) [] (drop 1 m.0.owes), []));
    among = inr refl;
    whole = λ whole none_more. let both = t.1 whole none_more in ((λ _. both.0 is), (λ _. refl));
  }

  pub released_more : r ≢ 1 → IsReleased plan m j None n
  released_more other = record {
    seat = t.0 ∙ (λ k. (view (its_plan k) (if ne_eqb r 1 other k then with_freed m.0.seat j else m.0.seat) [] (drop 1 m.0.owes), []))
        ∙ (λ k. (view plan (record m.0.seat { freed = sym (append-nil m.0.seat.freed) k }) [] (drop 1 m.0.owes), []));
    among = inl refl;
    whole = λ whole none_more. let both = t.1 whole none_more in
        ((λ e. absurd (Rattle.std.proofs.lemmas.Option.none-some j e)), (λ all. absurd (other (both.1 all))));
  }

targets : (i : ℕ) (xs : List ℕ) → map (λ release. release.1) (releases_by i xs) ≡ xs
targets i [] = refl
targets i (x ∷ xs) = λ k. x ∷ targets i xs k

releases-append : (i : ℕ) (xs ys : List ℕ) → releases_by i (xs ++ ys) ≡ releases_by i xs ++ releases_by i ys
releases-append i [] ys = refl
releases-append i (x ∷ xs) ys = λ k. (i, x) ∷ releases-append i xs ys k

-- a release that is owed, if there is one
pub owes_one : {S : Type 0} (plan : BoardPlan) (m : Me S View) (w : SeatView) (by : ℕ) (x : Option ℕ) (more : List (ℕ × ℕ)) → m ≡
    (view plan w [] (releases_by by (as_list x) ++ more), []) → 0 < w.parts
    → ((j : ℕ) → x ≡ Some j → j < length plan.list.exchanges) → IfSome x (λ j. (j < length plan.list.exchanges) × OwesTo plan m j)
owes_one plan m w by None more e parts within = tt
owes_one {S = S} plan m w by (Some j) more e parts within = (
  within j refl,
  record {
    by = by;
    more = more;
    seat = e ∙ (λ k. (view plan (sym (ap (λ (x : Me S View). x.0.seat) e) k) [] ((by, j) ∷ more), []));
    parts = omega (arith, parts, ap (λ (x : Me S View). x.0.seat.parts) e);
  },
)

-- and once it is made
pub record IsNext {S : Type 0} (plan : BoardPlan) (w : SeatView) (x named : Option ℕ) (more : List (ℕ × ℕ)) (n : Me S View) : Type 0 where
  pub seat : n ≡ (view plan (freed_by w named) [] more, [])
  pub among : Among named x
  pub whole : (j : ℕ) → x ≡ Some j → IsWhole w → times j (map (λ release. release.1) more) ≡ 0 → (named ≡ Some j) ↔ AreMade plan w j

pub made_one : {S : Type 0} (plan : BoardPlan) (m n : Me S View) (w : SeatView) (by : ℕ) (x named : Option ℕ) (more : List (ℕ × ℕ)) → m ≡
    (view plan w [] (releases_by by (as_list x) ++ more), [])
    → (x ≡ None → (named ≡ None) × (n ≡ m)) → IfSome x (λ j. IsReleased plan m j named n) → IsNext plan w x named more n
made_one plan m n w by None named more e nothing told = record {
  seat = (nothing refl).1 ∙ e ∙ (λ k. (view plan (record w { freed = sym (append-nil w.freed) k }) [] more, []))
      ∙ (λ k. (view plan (freed_by w (sym (nothing refl).0 k)) [] more, []));
  among = inl (nothing refl).0;
  whole = λ j is. absurd (Rattle.std.proofs.lemmas.Option.none-some j is);
}
made_one {S = S} plan m n w by (Some j) named more e nothing told = record {
  seat = told.seat ∙ (λ k. (view plan (freed_by (e k).0.seat named) [] (drop 1 (e k).0.owes), []));
  among = told.among;
  whole = λ k is whole none_more.
      let same : j ≡ k = Rattle.std.proofs.lemmas.Option.same_Some j k is in
      subst (λ l. (named ≡ Some l) ↔ AreMade plan w l) same
      (subst (λ (x : Me S View). (named ≡ Some j) ↔ All (Has x.0.seat.made) (predecessors plan.list.exchanges j)) e
      (told.whole (ap (λ (x : Me S View). x.0.seat.parts) e ∙ whole)
      (ap (λ (x : Me S View). times j (map (λ release. release.1) (drop 1 x.0.owes))) e ∙ ap (λ l. times l (map (λ release. release.1) more)) same
      ∙ none_more)));
}

-- both releases of an exchange that was put back
module _ {S : Type 0} (plan : BoardPlan) (v : SeatView) (i : ℕ) (m : Me S View) (done : HasFinished plan v i m) (parts : 0 < v.parts)
    (within : i < length plan.list.exchanges) where
  abbrev es : List Rattle.bench_types.specs.declared.exchanges.Exchange.Exchange
  es = plan.list.exchanges

  abbrev w : SeatView
  w = with_made (without_held v i) i done.seen done.is_stopped

  abbrev first : Option ℕ
  first = (successors es i).first

  abbrev second : Option ℕ
  second = (successors es i).second

  first_owed : m ≡ (view plan w [] (releases_by i (as_list first) ++ releases_by i (as_list second)), [])
  first_owed = done.seat ∙ (λ k. (view plan w [] (releases-append i (as_list first) (as_list second) k), []))

  in_list : (j : ℕ) → 0 < times j (as_list first) + times j (as_list second) → j < length es
  in_list j there = successor_within es i j (omega (arith, there, total-append (only j) (as_list first) (as_list second))) within

  there : (j : ℕ) (x : Option ℕ) → x ≡ Some j → times j (as_list x) ≡ 1
  there j x is = ap (λ y. times j (as_list y)) is ∙ omega (arith, only-same j)

  pub owes_first : IfSome first (λ j. (j < length es) × OwesTo plan m j)
  owes_first = owes_one plan m w i first (releases_by i (as_list second)) first_owed parts (λ j is. in_list j (omega (arith, there j first is)))

  module _ (n : Me S View) (named : Option ℕ) (nothing : first ≡ None → (named ≡ None) × (n ≡ m)) (told : IfSome first (λ j. IsReleased plan m j named n)) where
    after_first : IsNext plan w first named (releases_by i (as_list second)) n
    after_first = made_one plan m n w i first named (releases_by i (as_list second)) first_owed nothing told

    second_owed : n ≡ (view plan (freed_by w named) [] (releases_by i (as_list second) ++ []), [])
    second_owed = after_first.seat ∙ (λ k. (view plan (freed_by w named) [] (sym (append-nil (releases_by i (as_list second))) k), []))

    pub owes_second : IfSome second (λ j. (j < length es) × OwesTo plan n j)
    owes_second = owes_one plan n (freed_by w named) i second [] second_owed parts (λ j is. in_list j (omega (arith, there j second is)))

    pub after_second : (z : Me S View) (named2 : Option ℕ) → (second ≡ None → (named2 ≡ None) × (z ≡ n)) → IfSome second (λ j. IsReleased plan n j named2 z)
        → (z ≡ (resting plan (freed_by (freed_by w named) named2), [])) × IsPutBack plan v i (record { first = named; second = named2 })
        (freed_by (freed_by w named) named2)
    after_second z named2 nothing2 told2 =
        let last = made_one plan n z (freed_by w named) i second named2 [] second_owed nothing2 told2 in (
          last.seat,
          record {
            seen = done.seen;
            is_stopped = done.is_stopped;
            seat = refl;
            rises = done.rises;
            stays = done.stays;
            first = after_first.among;
            second = last.among;
            whole_first = λ whole j is. after_first.whole j is whole
                (ap (times j) (targets i (as_list second)) ∙ omega
                (arith, successors_once es i j, there j first is, total-append (only j) (as_list first) (as_list second)));
            whole_second = λ whole j is. last.whole j is whole refl;
          },
        )

pub put_back_seat : {T : Type 0} (table : T → Table) (board : Board T) (old new : Seat T) (i seen : ℕ) (is_stopped : Bool) (first second : Option ℕ)
    → IsSeatOf table old board → Has (seat_view old).held i → new.raw.table_id ≡ old.raw.table_id
    → new.raw.me ≡ (resting (plan_of table board) (freed_by (freed_by (with_made (without_held (seat_view old) i) i seen is_stopped) first) second), [])
    → IsSeatOf table new board
put_back_seat table board old new i seen is_stopped first second was holds same is =
    seat_kept table board old new (freed_by (freed_by (with_made (without_held (seat_view old) i) i seen is_stopped) first) second) was same is refl
    (λ j. omega (arith, times-without i j (seat_view old).held holds))

pub joined_me : {S : Type 0} (plan : BoardPlan) (m k : Me S View) → m.0.plan ≡ plan → Rests m → ◌≡◌ {A = Me S View}
    (Rattle.board.specs.inner.Plays.both m.0 k.0, m.1) (resting plan (joined m.0.seat k.0.seat), [])
joined_me plan m k planned rests = λ t. (
  record { plan = planned t; seat = joined m.0.seat k.0.seat; moving = rests.moving t; owes = rests.owes t },
  rests.slots t,
)

-- What a call on the table asks of the lifetimes, which are those of the tables in memory, before what it asks else. An answer to the whole of it
-- spares the check the forms that it makes of a part, and they are dear here.
abbrev Rows : (T κ1 κ2 κ3 κ4 : List ℕ) → Type 0 → Type 0
Rows T κ1 κ2 κ3 κ4 A = (κ1 ⊑ (T ++ []) ++ ((T ++ []) ++ [])) × ((κ2 ⊑ []) × (
    (κ3 ⊑ (T ++ []) ++ (((((T ++ []) ++ []) ++ []) ++ (((((T ++ []) ++ []) ++ []) ++ []) ++ [])) ++ []))
    × ((κ4 ⊑ (T ++ []) ++ (((T ++ []) ++ []) ++ [])) × A)))

plus : (κ T : List ℕ) → κ ⊑ T → κ ⊑ T ++ []
plus κ T w = ⊑_meet κ T [] w (⊑_static κ)

pub with_rows : {A : Type 0} {T κ1 κ2 κ3 κ4 : List ℕ} → (κ1 ⊑ T) × ((κ3 ⊑ T) × (κ4 ⊑ T)) → A → Rows T κ1 κ2 κ3 κ4 A
with_rows {κ2 = κ2} {κ3 = κ3} w a =
    let one = plus κ3 _ w.1.0 in
    let three = plus κ3 _ (plus κ3 _ one) in
    let third = ⊑_meet κ3 _ _ one (plus κ3 _ (⊑_meet κ3 _ _ three (plus κ3 _ (plus κ3 _ three)))) in
    (search (⊑_meet, ⊑_static), (⊑_static κ2, (third, (search (⊑_meet, ⊑_static), a))))

-- of a step
pub with_step : {A : Type 0} {T κ1 κ2 κ3 κ4 κ5 : List ℕ} → (κ1 ⊑ T) × ((κ3 ⊑ T) × (κ4 ⊑ T)) → A → Rows T κ1 κ2 κ3 κ4 ((κ5 ⊑ []) × A)
with_step {κ5 = κ5} w a = with_rows w (⊑_static κ5, a)
