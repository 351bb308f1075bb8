use Rattle.run_laws.proofs.Common.{arith}
use Rattle.run_laws.proofs.Otherwise.{hands_nothing, losing_lawful}
use Rattle.run_laws.proofs.SmallRings.{begins_one, ends, hands, has_own_part, leaves_copy, not_fresh, recorded_as_whole, sends_copy, sends_own}
use Rattle.run_laws.proofs.witnesses.exchanges_come_whole.Goals as goal

pub returns : goal.returns
returns c = record {
  listed = λ forget. begins_one forget 0 (omega arith);
  ends = λ forget. ends forget 0 (omega arith);
  answered = λ forget. recorded_as_whole forget 0 (omega arith);
  written = has_own_part;
  sends_own = sends_own;
  sends_copy = sends_copy;
  hands_on = λ forget. hands forget 0 (omega arith);
  leaves = leaves_copy;
  losing = losing_lawful;
  hands_nothing = hands_nothing;
  unfresh = not_fresh;
}
