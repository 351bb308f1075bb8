use Rattle.played_rounds.proofs.Common.{◌≡◌, ◌*◌, ◌≤◌, take}
use Rattle.played_rounds.specs.Rows.{lost_count, entry_count, cut_total}
use Rattle.played_rounds.proofs.rounds.row_of.Given as goal

abbrev pub invariant-loop-record : goal.invariant-loop-record
invariant-loop-record l = record {
  lost : l.lost ≡ lost_count (take l.record-index l.records);
  entries : l.entries ≡ entry_count (take l.record-index l.records);
  cut : l.cut ≡ cut_total (take l.record-index l.records);
  few_lost : l.lost ≤ l.record-index;
  few_entries : l.entries ≤ 8_589_934_592 * l.record-index;
  few_cut : l.cut ≤ 8_589_934_592 * l.record-index;
}
