-- What a lawful schedule comes to: the tables and records of list order. Source: this project.
use Rattle.std.specs.Prelude.{◌≡◌, ◌≢◌, ℕ, zero, suc, ◌<◌, ◌≤◌, ◌⊎◌, Bool, true, false, ◌&&◌, if◌then◌else◌, List, [], ◌∷◌, ◌++◌, length, map, flat_map, slice_get, All, count_by, None, Some}
use Rattle.std.specs.List.{range_with_len, filter}
use Rattle.bench_types.specs.declared.exchanges.Exchange.{Exchange}
use Rattle.bench_types.specs.declared.exchanges.Rules.{Rules}
use Rattle.model.specs.Table.{Table}
use Rattle.model.specs.Tables.{table_of_node}
use Rattle.model.specs.Folds.{fold_of, tables_before}
use Rattle.bench_types.specs.calls.Exchange.{IsPlanned}
use Rattle.dependencies.specs.declared.events.Event.{Event}
use Rattle.dependencies.specs.declared.events.Event.TheVariants.{Start, Finish}
use Rattle.dependencies.specs.Sharing.{exchange_at, takes_part, share_node}
use Rattle.dependencies.specs.Schedules.{is_start_of, is_finish_of, is_finished, is_running, MayStart}
use Rattle.dependencies.specs.Neighbours.{predecessors}
use Rattle.dependencies.specs.States.{Taken, State}

-- the place behind a node's last finished exchange among the first so many, 0 where none of them is
abbrev pub finished_upto : List Exchange → List Event → ℕ → ℕ → ℕ
finished_upto es events node zero = 0
finished_upto es events node (suc i) =
    if takes_part es node i && is_finished events i then suc i else finished_upto es events node i

-- a node's table in list order once its last finished exchange is done
abbrev pub table_left : Rules → List Table → List Exchange → List Event → ℕ → Table
table_left rules ts es events node =
    table_of_node (tables_before rules ts es (finished_upto es events node (length es))) node

-- the tables of an exchange's nodes before it in list order
abbrev pub taken_before : Rules → List Table → List Exchange → ℕ → Taken
taken_before rules ts es i =
    let before = tables_before rules ts es i in
    record {
      initiator = table_of_node before (exchange_at es i).initiator;
      responder = table_of_node before (exchange_at es i).responder;
    }

pub record IsInListOrder (rules : Rules) (ts : List Table) (es : List Exchange) (events : List Event)
    (s : State) : Type 0 where
  -- no exchange starts or finishes twice
  pub starts_once : (i : ℕ) → count_by (is_start_of i) events ≤ 1
  pub finishes_once : (i : ℕ) → count_by (is_finish_of i) events ≤ 1
  -- running exchanges share no node
  pub apart : (i j : ℕ) → i ≢ j → is_running events i ≡ true → is_running events j ≡ true → share_node es i j ≡ false
  -- a running exchange has taken out the tables that it finds in list order
  pub taken : (i : ℕ) → is_running events i ≡ true → s.out i ≡ Some (taken_before rules ts es i)
  pub away : (i node : ℕ) → is_running events i ≡ true → takes_part es node i ≡ true → s.home node ≡ None
  -- any other node has its table of list order after its last finished exchange
  pub home : (node : ℕ) → node < length ts
      → ((i : ℕ) → is_running events i ≡ true → takes_part es node i ≡ false)
      → s.home node ≡ Some (table_left rules ts es events node)
  -- each finished exchange has its record of list order
  pub records : (i : ℕ) → is_finished events i ≡ true → s.records i ≡ slice_get (fold_of rules ts es).records i

-- the schedule is done, and its state is the end of list order
pub record IsEndOfList (rules : Rules) (ts : List Table) (es : List Exchange) (s : State) : Type 0 where
  pub tables : (node : ℕ) → node < length ts → s.home node ≡ slice_get (fold_of rules ts es).tables node
  pub records : (i : ℕ) → i < length es → s.records i ≡ slice_get (fold_of rules ts es).records i

-- the exchanges of a list are of two of so many nodes each
abbrev pub AreAmong : List Table → List Exchange → Type 0
AreAmong ts es = All (IsPlanned (length ts)) es

-- some exchange is running or may start
abbrev pub CanGoOn : List Exchange → List Event → Type 0
CanGoOn es events = (i : ℕ) × ((is_running events i ≡ true) ⊎ MayStart es events i)

abbrev pub carried_out : ℕ → List Event
carried_out i = Start i ∷ Finish i ∷ []

-- each exchange of the first set is carried out, in list order, and then each of the second is started
abbrev pub schedule_of : List Exchange → (ℕ → Bool) → (ℕ → Bool) → List Event
schedule_of es first second =
    let places = range_with_len 0 (length es) in
    flat_map carried_out (filter first places) ++ map Start (filter second places)

-- the two sets have no exchange in common, and the first has each predecessor of an exchange of either
pub record AreClosed (es : List Exchange) (first second : ℕ → Bool) : Type 0 where
  pub disjoint : (i : ℕ) → first i ≡ true → second i ≡ false
  pub before_first : (i : ℕ) → i < length es → first i ≡ true → All (λ j. first j ≡ true) (predecessors es i)
  pub before_second : (i : ℕ) → i < length es → second i ≡ true → All (λ j. first j ≡ true) (predecessors es i)
