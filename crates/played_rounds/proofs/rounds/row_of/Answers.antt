use mir.Val.{bool_byte}
use Rattle.std.proofs.lemmas.List.{take_all}
use Rattle.std.proofs.lemmas.List.Sums.{sum_by_more}
use Rattle.std.specs.Prelude.{cond, sum_by}
use Rattle.played_rounds.proofs.Common.{◌≡◌, ◌+◌, ◌<◌, ◌≤◌, ◌∙◌, ℕ, Bool, List, Record, ap, arith, false, get_or, length, refl, take, true}
use Rattle.played_rounds.specs.Rows.{has_lost, lost_count, entry_count, cut_total}
use Rattle.played_rounds.proofs.rounds.row_of.Goals as goal

-- one record more is summed up
more : (f : Record → ℕ) (records : List Record) (i total x : ℕ) (d : Record) → i < length records → total ≡ sum_by f (take i records)
    → x ≡ f (get_or records i d) → total + x ≡ sum_by f (take (i + 1) records)
more f records i total x d there so_far this = omega (arith, so_far, this, sum_by_more f records i d there)

byte : (b : Bool) → (bool_byte b ≡ cond b 1 0) × (bool_byte b ≤ 1)
byte true = (refl, omega arith)
byte false = (refl, omega arith)

pub loop-record-preserved : goal.loop-record-preserved
loop-record-preserved c =
    let records = c.args.records.now in
    let i = c.loop-record.record-index in
    let so_far = c.loop-record.invariant in
    let there = c.loop-record-test.true in
    let is_lost = c.from-lost.ensures ∙ ap bool_byte c.has_lost.ensures in
    record {
      lost = more (λ r. cond (has_lost r.fate) 1 0) records i _ _ _ there so_far.lost (is_lost ∙ (byte _).0);
      entries = more (λ r. r.back + r.forth) records i _ _ _ there so_far.entries c.both-entries.ensures.sum;
      cut = more (λ r. r.back_cut + r.forth_cut) records i _ _ _ there so_far.cut c.both-cut.ensures.sum;
      few_lost = omega (arith, so_far.few_lost, c.from-lost.ensures, (byte c.has_lost.result).1);
      few_entries = omega (arith, so_far.few_entries, c.both-entries.ensures.few);
      few_cut = omega (arith, so_far.few_cut, c.both-cut.ensures.few);
    }

pub returns : goal.returns
returns c =
    let so_far = c.loop-record.invariant in
    let all = take_all c.loop-record.record-index c.args.records.now c.loop-record-test.false in
    λ i. record {
      round = c.args.round;
      exchanges = c.len.ensures.value i;
      unreached = c.unreached.ensures.value i;
      lost = (so_far.lost ∙ ap lost_count all) i;
      entries = (so_far.entries ∙ ap entry_count all) i;
      cut = (so_far.cut ∙ ap cut_total all) i;
      stale = c.args.figures.stale;
      greatest = c.args.figures.greatest;
      leftover = c.args.figures.leftover;
    }
