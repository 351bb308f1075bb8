-- What a whole seat's records and tables come to.
-- Serves `end` and `seated`.
use Rattle.workers.proofs.Common.{◌≡◌, ℕ, ◌<◌, List, [], length, sym, ◌∙◌, subst, arith, same_lists, get_or_from_slice_get, Record, Table, fold_of, fold_counts_records, record_kept, SeatView, Has, BoardPlan, exchanged_at, AreLeft, HasMadeAll}
use Rattle.workers.specs.inner.Gathering.{HoldsRecords}
use Rattle.workers.specs.inner.Joined.{IsEndOf}

-- no seat has put anything back yet
pub holds_none : (plan : BoardPlan) (made : List ℕ) (records : List Record) → made ≡ [] → length records ≡ length plan.list.exchanges → HoldsRecords plan made records
holds_none plan made records none size = record {
  size = size;
  each = λ i has. absurd (omega (arith, subst (λ is. Has is i) none has));
}

-- tables and records of list order
module _ (plan : BoardPlan) (v : SeatView) (records : List Record) (holds : HoldsRecords plan v.made records) (all : HasMadeAll plan v) where
  abbrev ordered : List Record
  ordered = (fold_of plan.rules plan.tables plan.list.exchanges).records

  records_same : ordered ≡ records
  records_same =
      let count = fold_counts_records plan.rules plan.list.exchanges (record { tables = plan.tables; records = [] }) in
      same_lists ordered records (omega (arith, count, holds.size)) (λ k d lt.
      let below : k < length plan.list.exchanges = omega (arith, lt, count) in
      get_or_from_slice_get ordered k (exchanged_at plan k).sent d (record_kept plan.rules plan.tables plan.list.exchanges k below)
      ∙ sym (get_or_from_slice_get records k (exchanged_at plan k).sent d (holds.each k (omega (arith, all.1 k below)))))

  pub all_ended : {T : Type 0} (table : T → Table) (new : List T) → AreLeft table plan new → IsEndOf table plan new records
  all_ended table new left = λ i. record { tables = sym left i; records = records_same i }
