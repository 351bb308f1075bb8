-- What a claim leaves of a seat.
-- Serves `tests_of_runs` and `workers`.
use Rattle.board.proofs.Common.{◌≡◌, ℕ, [], ◌∷◌, sym, ap, subst, arith, Table}
use Rattle.board.specs.Weights.{Has, only}
use Rattle.board.specs.SeatView.{SeatView}
use Rattle.board.specs.Plan.{BoardPlan}
use Rattle.board.specs.Boards.{Claims}
use Rattle.board.specs.declared.boards.Hold.{Hold}
use Rattle.board.specs.declared.boards.Claim.{Claim}
use Rattle.board.specs.declared.boards.Claim.TheVariants.{Held, Taken, NotReady}
use Rattle.board.proofs.Sums.{total-append, only-same}

pub parts_stay : {T : Type 0} (table : T → Table) (plan : BoardPlan) (v : SeatView) (i : ℕ) (claim : Claim T) (w : SeatView) → Claims table plan v i claim w → w.parts ≡ v.parts
parts_stay table plan v i (Held hold) w told = ap (λ (x : SeatView). x.parts) told.1
parts_stay table plan v i Taken w told = ap (λ (x : SeatView). x.parts) told.0
parts_stay table plan v i NotReady w told = ap (λ (x : SeatView). x.parts) told.0

pub held_stay : {T : Type 0} (table : T → Table) (plan : BoardPlan) (v : SeatView) (i : ℕ) (claim : Claim T) (w : SeatView) → Claims table plan v i claim w → (k : ℕ) → Has v.held k → Has w.held k
held_stay table plan v i (Held hold) w told k has = subst (λ (x : SeatView). Has x.held k) (sym told.1) (omega (arith, total-append (only k) v.held (i ∷ []), has))
held_stay table plan v i Taken w told k has = subst (λ (x : SeatView). Has x.held k) (sym told.0) has
held_stay table plan v i NotReady w told k has = subst (λ (x : SeatView). Has x.held k) (sym told.0) has

pub now_held : {T : Type 0} (table : T → Table) (plan : BoardPlan) (v : SeatView) (i : ℕ) (hold : Hold T) (w : SeatView) → Claims table plan v i (Held hold) w → Has w.held hold.index
now_held table plan v i hold w told = subst (λ (x : SeatView). Has x.held hold.index) (sym told.1) (omega (arith, total-append (only hold.index) v.held (i ∷ []), ap (only hold.index) told.0.index, only-same hold.index))
