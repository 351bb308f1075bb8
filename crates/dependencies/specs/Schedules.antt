-- The schedules of a list of exchanges. An exchange may start once each earlier one that shares a node with it is
-- finished, and finish while it is running. A schedule is lawful where each of its events is allowed after those before
-- it. Source: this project.
use Rattle.std.specs.Prelude.{◌≡◌, ℕ, ◌<◌, Bool, true, false, not, ◌==◌, ◌&&◌, List, length, take, slice_get, Some}
use Rattle.std.specs.List.{list_any}
use Rattle.bench_types.specs.declared.exchanges.Exchange.{Exchange}
use Rattle.dependencies.specs.declared.events.Event.{Event}
use Rattle.dependencies.specs.declared.events.Event.TheVariants.{Start, Finish}
use Rattle.dependencies.specs.Sharing.{share_node}

abbrev pub is_start_of : ℕ → Event → Bool
is_start_of i (Start j) = i == j
is_start_of i (Finish j) = false

abbrev pub is_finish_of : ℕ → Event → Bool
is_finish_of i (Start j) = false
is_finish_of i (Finish j) = i == j

abbrev pub is_started : List Event → ℕ → Bool
is_started events i = list_any (is_start_of i) events

abbrev pub is_finished : List Event → ℕ → Bool
is_finished events i = list_any (is_finish_of i) events

abbrev pub is_running : List Event → ℕ → Bool
is_running events i = is_started events i && not (is_finished events i)

pub record MayStart (es : List Exchange) (events : List Event) (i : ℕ) : Type 0 where
  pub within : i < length es
  pub waiting : is_started events i ≡ false
  pub free : (j : ℕ) → j < i → share_node es i j ≡ true → is_finished events j ≡ true

abbrev pub IsAllowed : List Exchange → List Event → Event → Type 0
IsAllowed es events (Start i) = MayStart es events i
IsAllowed es events (Finish i) = is_running events i ≡ true

abbrev pub IsLawful : List Exchange → List Event → Type 0
IsLawful es events = (k : ℕ) (e : Event) → slice_get events k ≡ Some e → IsAllowed es (take k events) e

-- all exchanges are finished
abbrev pub AreFinished : List Exchange → List Event → Type 0
AreFinished es events = (i : ℕ) → i < length es → is_finished events i ≡ true
