-- What the rule allows of a seat, its tables in memory seen as models.
-- Serves the functions of `boards`.
use Rattle.board.proofs.Common.{◌≡◌, ℕ, ◌+◌, ◌-◌, ◌%◌, ◌^◌, ◌<◌, ◌≤◌, eqb, List, [], ◌∷◌, length, Option, None, Some, refl, ap, none, bit_or, either, Me, Step, step, Allows, Splits, Joins, Table}
use Rattle.board.specs.Weights.{Has}
use Rattle.board.specs.SeatView.{SeatView}
use Rattle.board.specs.Plan.{BoardPlan, initiator_of, responder_of, exchanged_at}
use Rattle.board.specs.Rule.{Slot, TAKEN, Orderly}
use Rattle.board.specs.Seats.{Sat, view, resting}
use Rattle.board.specs.Models.{state_model, seat_model, TellsOf}
use Rattle.board.specs.inner.Plays.{claimed, emptied, retaken, finished, released, looked, shown, halted, left, right, both, spent, no_plan}
use Rattle.board.specs.declared.views.View.{View}
use Rattle.board.proofs.Claims.{claims}
use Rattle.board.proofs.Moving.{empties, retakes}
use Rattle.board.proofs.Finishing.{finishes, releases, looks, shows, halts}
use Rattle.board.proofs.Ends.{splits, joins}
use Rattle.board.proofs.Modelled.{allows_model, splits_model, joins_model}

module _ {T : Type 0} (table : T → Table) (plan : BoardPlan) (n id : ℕ) (m : Me (Option T) View) (v : SeatView) (some_parts : 0 < v.parts) where
  -- at a word of which a step makes f, it tells this
  abbrev AllowsStep : ℕ → (ℕ → ℕ) → (Step Slot → Sat → ℕ → Sat → Type 0) → ℕ → ℕ → Type 0
  AllowsStep word f told first second = Allows (λ s. Orderly plan (state_model table s)) n id m word f (TellsOf table told (step n word first second none) m)

  module _ (e : m ≡ (resting plan v, [])) where
    rests : seat_model table m ≡ (resting plan v, [])
    rests = ap (seat_model table) e

    pub claim_allowed : (i : ℕ) → i < length plan.list.exchanges → AllowsStep (i + 1) (λ r. either (eqb r 0) TAKEN r) claimed 0 TAKEN
    claim_allowed i within = allows_model table (Orderly plan) n id m (i + 1) (λ r. either (eqb r 0) TAKEN r) (claimed (step n (i + 1) 0 TAKEN none) (seat_model table m)) (claims plan n id (seat_model table m) v (i + 1) i none refl within some_parts rests)

    pub retake_allowed : (i : ℕ) → Has v.held i → AllowsStep (i + 1) (λ r. r) retaken 0 0
    retake_allowed i holds = allows_model table (Orderly plan) n id m (i + 1) (λ r. r) (retaken (step n (i + 1) 0 0 none) (seat_model table m)) (retakes plan n id (seat_model table m) v (i + 1) i refl some_parts holds rests)

    pub look_allowed : AllowsStep 0 (λ r. r) looked 0 0
    look_allowed = allows_model table (Orderly plan) n id m 0 (λ r. r) (looked (step n 0 0 0 none) (seat_model table m)) (looks plan n id (seat_model table m) v some_parts rests)

    pub show_allowed : AllowsStep 0 (λ r. r) shown 0 0
    show_allowed = allows_model table (Orderly plan) n id m 0 (λ r. r) (shown (step n 0 0 0 none) (seat_model table m)) (shows plan n id (seat_model table m) v some_parts rests)

    pub stop_allowed : AllowsStep 0 (λ r. bit_or r 1) halted 1 0
    stop_allowed = allows_model table (Orderly plan) n id m 0 (λ r. bit_or r 1) (halted (step n 0 1 0 none) (seat_model table m)) (halts plan n id (seat_model table m) v some_parts rests)

  pub empty_allowed : (i : ℕ) → m ≡ (view plan v (i ∷ []) [], (initiator_of plan i, None) ∷ (responder_of plan i, None) ∷ []) → AllowsStep 0 (λ r. r) emptied 0 0
  empty_allowed i e = allows_model table (Orderly plan) n id m 0 (λ r. r) (emptied (step n 0 0 0 none) (seat_model table m)) (empties plan n id (seat_model table m) v i some_parts (ap (seat_model table) e))

  pub finish_allowed : (i : ℕ) (a b : T) → table a ≡ (exchanged_at plan i).initiator → table b ≡ (exchanged_at plan i).responder
      → m ≡ (view plan v (i ∷ []) [], (initiator_of plan i, Some a) ∷ (responder_of plan i, Some b) ∷ []) → AllowsStep 0 (λ r. (r + 2) % 2 ^ 64) finished 2 0
  finish_allowed i a b first second e = allows_model table (Orderly plan) n id m 0 (λ r. (r + 2) % 2 ^ 64) (finished (step n 0 2 0 none) (seat_model table m)) (finishes plan n id (seat_model table m) v i (table a) (table b) some_parts first second (ap (seat_model table) e))

  pub release_allowed : (i j : ℕ) (more : List (ℕ × ℕ)) → j < length plan.list.exchanges → m ≡ (view plan v [] ((i, j) ∷ more), []) → AllowsStep (j + 1) (λ r. (r + (2 ^ 64 - 1)) % 2 ^ 64) released 1 0
  release_allowed i j more within e =
      allows_model table (Orderly plan) n id m (j + 1) (λ r. (r + (2 ^ 64 - 1)) % 2 ^ 64) (released (step n (j + 1) 1 0 none) (seat_model table m)) (releases plan n id (seat_model table m) v (j + 1) i j more refl within some_parts (ap (seat_model table) e))

-- a seat that rests may be split, and may take in another that rests
module _ {T : Type 0} (table : T → Table) (plan : BoardPlan) (id : ℕ) (m : View) (v : SeatView) where
  pub split_allowed : 2 ≤ v.parts → m ≡ resting plan v → Splits (λ s. Orderly plan (state_model table s)) id m (left m) (right m)
  split_allowed parts e = splits_model table (Orderly plan) id m (left m) (right m) (splits plan id m v parts e)

  pub join_allowed : (other : ℕ) (k : View) (w : SeatView) → 0 < v.parts → m ≡ resting plan v → k ≡ resting plan w → Joins (λ s. Orderly plan (state_model table s)) id m other k (both m k) spent
  join_allowed other k w parts e d = joins_model table (Orderly plan) id m other k (both m k) spent (joins plan no_plan id other m k v w parts e d)
