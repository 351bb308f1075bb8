-- The state that a schedule leads to. A start takes the tables of the exchange's two nodes out of their places; a
-- finish puts back what the exchange leaves of them, and keeps its record. Source: this project.
use Rattle.std.specs.Prelude.{ℕ, ◌==◌, if◌then◌else◌, List, fold, slice_get, Option, None, Some}
use Rattle.bench_types.specs.declared.exchanges.Exchange.{Exchange}
use Rattle.bench_types.specs.declared.exchanges.Record.{Record}
use Rattle.bench_types.specs.declared.exchanges.Rules.{Rules}
use Rattle.model.specs.Table.{Table}
use Rattle.model.specs.Exchanged.{exchanged}
use Rattle.dependencies.specs.declared.events.Event.{Event}
use Rattle.dependencies.specs.declared.events.Event.TheVariants.{Start, Finish}
use Rattle.dependencies.specs.Sharing.{exchange_at}

-- the tables that a running exchange has taken out
pub record Taken : Type 0 where
  pub initiator : Table
  pub responder : Table

-- the tables in their places, by node; what the running exchanges have taken out, and the records, by exchange
pub record State : Type 0 where
  pub home : ℕ → Option Table
  pub out : ℕ → Option Taken
  pub records : ℕ → Option Record

-- a map changed at one place
abbrev pub with_at : {A : Type 0} → (ℕ → A) → ℕ → A → ℕ → A
with_at f place x n = if n == place then x else f n

abbrev pub both_of : Option Table → Option Table → Option Taken
both_of (Some p) (Some q) = Some (record { initiator = p; responder = q })
both_of (Some p) None = None
both_of None q = None

-- all tables are in their places, and nothing has begun
abbrev pub opened : List Table → State
opened ts = record { home = slice_get ts; out = λ _. None; records = λ _. None }

abbrev pub put_back : Rules → Exchange → ℕ → State → Option Taken → State
put_back rules e i s None = s
put_back rules e i s (Some taken) =
    let done = exchanged rules e taken.initiator taken.responder in
    record {
      home = with_at (with_at s.home e.initiator (Some done.initiator)) e.responder (Some done.responder);
      out = with_at s.out i None;
      records = with_at s.records i (Some done.sent);
    }

abbrev pub after_event : Rules → List Exchange → State → Event → State
after_event rules es s (Start i) =
    let e = exchange_at es i in
    record {
      home = with_at (with_at s.home e.initiator None) e.responder None;
      out = with_at s.out i (both_of (s.home e.initiator) (s.home e.responder));
      records = s.records;
    }
after_event rules es s (Finish i) = put_back rules (exchange_at es i) i s (s.out i)

abbrev pub state_of : Rules → List Table → List Exchange → List Event → State
state_of rules ts es events = fold (after_event rules es) (opened ts) events
