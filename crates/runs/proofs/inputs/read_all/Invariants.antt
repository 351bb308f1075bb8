use Rattle.runs.proofs.Common.{◌≡◌, ◌≤◌, ◌+◌, ◌-◌, true, length, Consumes, MOST_BYTES}
use Rattle.runs.proofs.inputs.read_all.Given as goal

abbrev pub invariant-loop-count : goal.invariant-loop-count
invariant-loop-count g l = record {
  given : Consumes (g.R.Source.left l.initial.reader) (g.R.Source.left l.reader) l.text.items;
  within : length l.text.items ≤ MOST_BYTES;
  stays : g.R.Source.failed l.initial.reader ≡ true → l.reader ≡ l.initial.reader;
}

abbrev pub decreases-loop-count : goal.decreases-loop-count
decreases-loop-count g l = (MOST_BYTES + 1) - length l.text.items
