use Rattle.std.proofs.Common.{arith}
use Rattle.runs.proofs.rounds.fn.write_over.with_threads+FnOnce.call_once.Goals as goal

pub with_threads-requires-whole : goal.with_threads-requires-whole
with_threads-requires-whole g c κs w = (w.0, (w.1.0, (w.1.1.0, (w.1.1.1.0, (w.1.1.1.1, grind arith)))))
