-- What each step on a board tells: of the step, the seat before, the number found and the seat after. Source: this project.
use Rattle.std.specs.Prelude.{◌≡◌, ℕ, List, ◌++◌, length, ◌+◌, Bool, true, false, ◌==◌, if◌then◌else◌, Option, [], ◌∷◌, IfSome, ◌≢◌, ◌/◌, ◌%◌, ◌<◌, ◌≤◌, ◌↔◌, map, drop, ◌⊎◌, All, None, Some}
use Rattle.bench_types.specs.declared.exchanges.Exchange.{Exchange}
use Rattle.dependencies.specs.Neighbours.{as_list, successors, predecessors, pending_of}
use Rattle.board.specs.Plan.{BoardPlan, initiator_of, responder_of, table_at}
use Rattle.board.specs.SeatView.{IsWhole, SeatView, first_seat, freed_by, having_seen, having_stopped, joined, split_left, split_right, with_held, with_made, with_told, without_held}
use Rattle.std.specs.List.{range_with_len}
use Rattle.model.specs.Table.{Table}
use Rattle.atomic_table.specs.Table.{Step, Me}
use Rattle.board.specs.Weights.{times, Has}
use Rattle.board.specs.Rule.{Slot, TAKEN}
use Rattle.board.specs.declared.views.View.{View}
use Rattle.bench_types.specs.declared.exchanges.Budget.TheVariants.{Entries}
use Rattle.bench_types.specs.declared.exchanges.Mode.TheVariants.{ScuttleBreadth}
use Rattle.board.specs.Seats.{IsApart, IsInformed, LookTells, Sat, resting, view}

-- the successors, each once
abbrev pub successor_list : List Exchange → ℕ → List ℕ
successor_list es i = as_list (successors es i).first ++ as_list (successors es i).second

-- a seat that has been joined to another
abbrev pub spent_seat : SeatView
spent_seat = record { made = []; held = []; freed = []; told = []; known = []; seen = 0; is_stopped = false; is_halted = false; parts = 0 }

abbrev pub with_freed : SeatView → ℕ → SeatView
with_freed v i = record v { freed = v.freed ++ i ∷ [] }

abbrev pub opened_view : BoardPlan → View
opened_view plan = resting plan first_seat

abbrev pub is_odd : ℕ → Bool
is_odd n = n % 2 == 1

-- what the number found at a claim tells: 0, TAKEN, or how many predecessors haven't released the exchange
pub record ClaimTells (es : List Exchange) (i : ℕ) (v : SeatView) (r : ℕ) : Type 0 where
  pub fresh : r ≡ 0 → times i v.made + times i v.held + times i v.told + times i v.known ≡ 0
  pub waits : r ≢ 0 → r ≢ TAKEN → (pending_of es i ≢ 0) × (times i v.freed ≡ 0) × (¬ All (λ j. 0 < times j v.made + times j v.known) (predecessors es i))
  pub unknown : r ≢ TAKEN → times i v.made + times i v.held + times i v.told + times i v.known ≡ 0
  pub whole_taken : IsWhole v → r ≡ TAKEN → 0 < times i v.made + times i v.held
  pub whole_ready : IsWhole v → r ≡ 0 → All (λ j. 0 < times j v.made) (predecessors es i)

-- the slots of an exchange with the tables that it finds in list order, its responder's first
abbrev pub slots_of : BoardPlan → ℕ → List (ℕ × Slot)
slots_of plan i =
    (responder_of plan i, Some (table_at plan (responder_of plan i) i))
    ∷ (initiator_of plan i, Some (table_at plan (initiator_of plan i) i))
    ∷ []

abbrev pub TookOut : Sat → ℕ → Sat → Type 0
TookOut m i n = n ≡ (view m.0.plan m.0.seat (i ∷ []) [], slots_of m.0.plan i)

abbrev pub claimed : Step Slot → Sat → ℕ → Sat → Type 0
claimed st m r n =
    (i : ℕ) → st.word ≡ i + 1
    → ClaimTells m.0.plan.list.exchanges i m.0.seat r
    × (r ≡ 0 → TookOut m i n)
    × (r ≡ TAKEN → n ≡ (resting m.0.plan (with_told m.0.seat i), []))
    × (r ≢ 0 → r ≢ TAKEN → n ≡ m)

-- the emptied slots go back
abbrev pub emptied : Step Slot → Sat → ℕ → Sat → Type 0
emptied st m r n = (i : ℕ) → m.0.moving ≡ i ∷ [] → n ≡ (resting m.0.plan (with_held m.0.seat i), [])

-- the empty slots of a held exchange, which the word names, are taken again
abbrev pub retaken : Step Slot → Sat → ℕ → Sat → Type 0
retaken st m r n =
    (i : ℕ) → st.word ≡ i + 1
    → n ≡ (view m.0.plan (without_held m.0.seat i) (i ∷ []) [], (responder_of m.0.plan i, None) ∷ (initiator_of m.0.plan i, None) ∷ [])

abbrev pub releases_by : ℕ → List ℕ → List (ℕ × ℕ)
releases_by i js = map (λ j. (i, j)) js

-- the filled slots go back, and the count rises
abbrev pub finished : Step Slot → Sat → ℕ → Sat → Type 0
finished st m r n =
    (i : ℕ) → m.0.moving ≡ i ∷ []
    → (n ≡ (view m.0.plan (with_made m.0.seat i (r / 2) (is_odd r)) [] (releases_by i (successor_list m.0.plan.list.exchanges i)), []))
    × (m.0.seat.seen ≤ r / 2) × (m.0.seat.is_stopped ≡ true → is_odd r ≡ true) × (r / 2 + 1 ≤ length m.0.plan.list.exchanges)

-- the first release that is owed is made
abbrev pub released : Step Slot → Sat → ℕ → Sat → Type 0
released st m r n =
    (i j : ℕ) (more : List (ℕ × ℕ)) → st.word ≡ j + 1 → m.0.owes ≡ (i, j) ∷ more
    → (n ≡ (view m.0.plan (if r == 1 then with_freed m.0.seat j else m.0.seat) [] more, []))
    × (IsWhole m.0.seat → times j (map (λ release. release.1) more) ≡ 0 → (r ≡ 1) ↔ All (λ k. 0 < times k m.0.seat.made) (predecessors m.0.plan.list.exchanges j))

abbrev pub looked : Step Slot → Sat → ℕ → Sat → Type 0
looked st m r n =
    (n ≡ (resting m.0.plan (having_seen m.0.seat (r / 2) (is_odd r)), []))
    × LookTells m.0.plan.list.exchanges m.0.seat (r / 2) (is_odd r)
    × IsInformed m.0.plan.list.exchanges (having_seen m.0.seat (r / 2) (is_odd r))

abbrev pub halted : Step Slot → Sat → ℕ → Sat → Type 0
halted st m r n = (n ≡ (resting m.0.plan (having_stopped m.0.seat (r / 2)), [])) × LookTells m.0.plan.list.exchanges m.0.seat (r / 2) (is_odd r)

abbrev pub shown : Step Slot → Sat → ℕ → Sat → Type 0
shown st m r n =
    (n ≡ m) × IsApart m.0.plan.list.exchanges m.0.seat × IsInformed m.0.plan.list.exchanges m.0.seat

-- views are split and joined as the seats are
abbrev pub left : View → View
left v = view v.plan (split_left v.seat) v.moving v.owes

abbrev pub right : View → View
right v = resting v.plan (split_right v.seat)

abbrev pub both : View → View → View
both v w = view v.plan (joined v.seat w.seat) v.moving v.owes

-- any plan; a spent seat is of none
abbrev pub no_plan : BoardPlan
no_plan = record { rules = record { mode = ScuttleBreadth; budget = Entries 1 }; list = record { nodes = 0; unreached = 0; exchanges = [] }; tables = [] }

abbrev pub spent : View
spent = resting no_plan spent_seat

-- the tables of an exchange are out with the seat
pub record HasOut {T : Type 0} (table : T → Table) (plan : BoardPlan) (i : ℕ) (m : Me (Option T) View) : Type 0 where
  pub initiator : T
  pub responder : T
  pub seat : m ≡ (view plan m.0.seat (i ∷ []) [], (responder_of plan i, Some responder) ∷ (initiator_of plan i, Some initiator) ∷ [])
  pub first : table initiator ≡ table_at plan (initiator_of plan i) i
  pub second : table responder ≡ table_at plan (responder_of plan i) i
  pub parts : 0 < m.0.seat.parts

-- the first release that the seat owes is of the exchange j
pub record OwesTo {S : Type 0} (plan : BoardPlan) (m : Me S View) (j : ℕ) : Type 0 where
  pub by : ℕ
  pub more : List (ℕ × ℕ)
  pub seat : m ≡ (view plan m.0.seat [] ((by, j) ∷ more), [])
  pub parts : 0 < m.0.seat.parts

-- it is made, and was the last that j waited for, or not
pub record IsReleased {S : Type 0} (plan : BoardPlan) (m : Me S View) (j : ℕ) (named : Option ℕ) (n : Me S View) : Type 0 where
  pub seat : n ≡ (view plan (freed_by m.0.seat named) [] (drop 1 m.0.owes), [])
  pub among : (named ≡ None) ⊎ (named ≡ Some j)
  pub whole : IsWhole m.0.seat → times j (map (λ release. release.1) (drop 1 m.0.owes)) ≡ 0 → (named ≡ Some j) ↔ All (Has m.0.seat.made) (predecessors plan.list.exchanges j)

-- an exchange is put back, and its releases are owed
pub record HasFinished {S : Type 0} (plan : BoardPlan) (v : SeatView) (i : ℕ) (n : Me S View) : Type 0 where
  pub seen : ℕ
  pub is_stopped : Bool
  pub seat : n ≡ (view plan (with_made (without_held v i) i seen is_stopped) [] (releases_by i (successor_list plan.list.exchanges i)), [])
  pub rises : v.seen ≤ seen
  pub stays : v.is_stopped ≡ true → is_stopped ≡ true

-- of a successor, if there is one
abbrev pub OwesNext : {S : Type 0} → BoardPlan → Me S View → Option ℕ → Type 0
OwesNext plan m next = IfSome next (λ j. (j < length plan.list.exchanges) × OwesTo plan m j)

-- the words of a new board
abbrev pub first_words_of : List Exchange → List ℕ
first_words_of es = 0 ∷ map (pending_of es) (range_with_len 0 (length es))
