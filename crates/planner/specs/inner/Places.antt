-- The tables and records that are kept while a schedule is carried out, and the state that they show.
-- Source: this project.
use Rattle.std.specs.Prelude.{◌≡◌, ℕ, List, length, filter_map, slice_index_or, Option, None, Some}
use Rattle.bench_types.specs.declared.exchanges.Exchange.{Exchange}
use Rattle.bench_types.specs.declared.exchanges.Record.{Record}
use Rattle.bench_types.specs.declared.exchanges.Rules.{Rules}
use Rattle.model.specs.Table.{Table}
use Rattle.node_table.specs.NodeTableView.{NodeTableView}
use Rattle.model.specs.RoundLists.{RoundListView}
use Rattle.model.specs.Tables.{IsTableOf}
use Rattle.dependencies.specs.declared.events.Event.{Event}
use Rattle.planner.specs.declared.plays.Pair.{Pair}
use Rattle.planner.specs.declared.plays.Places.{Places}
use Rattle.dependencies.specs.Sharing.{exchange_at}
use Rattle.dependencies.specs.States.{Taken, State, after_event}

-- tables without their room
abbrev pub without_room : Option NodeTableView → Option Table
without_room None = None
without_room (Some kept) = Some kept.table

abbrev pub taken_of : Option Pair → Option Taken
taken_of None = None
taken_of (Some pair) = Some (record { initiator = pair.initiator.table; responder = pair.responder.table })

abbrev pub state_in : Places → State
state_in places = record {
  home = λ n. without_room (slice_index_or places.homes.items n None);
  out = λ i. taken_of (slice_index_or places.out.items i None);
  records = λ i. slice_index_or places.records.items i None;
}

-- so many places, and nothing in them
pub record AreEmpty {X : Type 0} (count : ℕ) (places : List (Option X)) : Type 0 where
  pub size : length places ≡ count
  pub empty : (i : ℕ) → slice_index_or places i None ≡ None

-- the second shows the state after an event of the first
abbrev pub ShowsEvent : Rules → List Exchange → Event → Places → Places → Type 0
ShowsEvent rules es event old new = after_event rules es (state_in old) event ≡ state_in new

-- a place for each node, and two for each exchange
pub record HasPlaces (plan : RoundListView) (places : Places) : Type 0 where
  pub homes : length places.homes.items ≡ plan.nodes
  pub out : length places.out.items ≡ length plan.exchanges
  pub records : length places.records.items ≡ length plan.exchanges

pub record IsPairOf (node_count key_count : ℕ) (e : Exchange) (taken : Taken) : Type 0 where
  pub initiator : IsTableOf node_count key_count e.initiator taken.initiator
  pub responder : IsTableOf node_count key_count e.responder taken.responder

-- each table is in its own place, or taken out by an exchange of its node
pub record AreInPlace (nodes keys : ℕ) (es : List Exchange) (s : State) : Type 0 where
  pub home : (n : ℕ) (t : Table) → s.home n ≡ Some t → IsTableOf nodes keys n t
  pub out : (i : ℕ) (taken : Taken) → s.out i ≡ Some taken → IsPairOf nodes keys (exchange_at es i) taken

abbrev pub both_or_none : Option NodeTableView → Option NodeTableView → Option Pair
both_or_none (Some p) (Some q) = Some (record { initiator = p; responder = q })
both_or_none (Some p) None = None
both_or_none None q = None

abbrev pub itself : {A : Type 0} → Option A → Option A
itself x = x

-- these are the tables and the records that stand in the places, in order
abbrev pub StandIn : Places → List NodeTableView → List Record → Type 0
StandIn places tables records = (tables ≡ filter_map itself places.homes.items) × (records ≡ filter_map itself places.records.items)
